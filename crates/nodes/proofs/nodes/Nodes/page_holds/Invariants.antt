use Rattle.nodes.proofs.Holding.{HasNoneBefore}
use Rattle.nodes.proofs.nodes.Nodes.page_holds.Given as goal

-- the places before this one have none
abbrev pub invariant-loop-index : goal.invariant-loop-index
invariant-loop-index l = HasNoneBefore l.self l.id l.page l.index
