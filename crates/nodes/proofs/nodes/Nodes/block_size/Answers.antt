use Rattle.nodes.proofs.Joining.{below_by}
use Rattle.nodes.proofs.nodes.Nodes.block_size.Goals as goal

pub class-requires : goal.class-requires
class-requires c = below_by _ _ _ c.self.view_is c.args.page c.requires
