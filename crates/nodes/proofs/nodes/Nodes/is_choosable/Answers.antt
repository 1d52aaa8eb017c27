use Rattle.nodes.proofs.Joining.{below_by}
use Rattle.nodes.proofs.nodes.Nodes.is_choosable.Goals as goal

pub is_choosable-requires : goal.is_choosable-requires
is_choosable-requires c = below_by _ _ _ c.self.view_is c.args.page c.requires
