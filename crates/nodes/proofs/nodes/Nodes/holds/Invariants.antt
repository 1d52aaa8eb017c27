use Rattle.nodes.proofs.Holding.{HasNoneBelow}
use Rattle.nodes.proofs.nodes.Nodes.holds.Given as goal

-- the pages before this one have none
abbrev pub invariant-loop-page : goal.invariant-loop-page
invariant-loop-page l = HasNoneBelow l.self l.id l.page
