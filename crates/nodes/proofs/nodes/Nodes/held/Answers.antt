use Rattle.nodes.proofs.Joining.{below_by}
use Rattle.nodes.proofs.nodes.Nodes.held.Goals as goal

pub held-requires : goal.held-requires
held-requires c = below_by _ _ _ c.self.view_is c.args.page c.requires
