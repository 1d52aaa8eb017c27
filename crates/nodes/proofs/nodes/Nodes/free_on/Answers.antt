use Rattle.nodes.proofs.Joining.{below_by}
use Rattle.nodes.proofs.nodes.Nodes.free_on.Goals as goal

pub free_on-requires : goal.free_on-requires
free_on-requires c = below_by _ _ _ c.self.view_is c.args.page c.requires
