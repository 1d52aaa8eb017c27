use Rattle.nodes.proofs.Joining.{below_by}
use Rattle.nodes.proofs.nodes.Nodes.next_allocated.Goals as goal

pub next_allocated-requires-clause-page : goal.next_allocated-requires-clause-page
next_allocated-requires-clause-page c = below_by _ _ _ c.self.view_is c.args.page c.requires
