use Rattle.nodes.proofs.Joining.{below_by}
use Rattle.nodes.proofs.Places.{blocks_told}
use Rattle.nodes.proofs.nodes.Nodes.blocks.Goals as goal

pub class-requires : goal.class-requires
class-requires c = below_by _ _ _ c.self.view_is c.args.page c.requires

pub returns-in-Some : goal.returns-in-Some
returns-in-Some c = blocks_told _ _ c.self.view_is c.self.invariant.0.whole c.args.page c.in-Some.class c.blocks_per_page.result (c.in-Some.ensures _ c.self.invariant.0.together) c.blocks_per_page.ensures.blocks
