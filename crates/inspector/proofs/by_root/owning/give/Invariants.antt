use Rattle.inspector.specs.Owning.{IsGiven}
use Rattle.inspector.proofs.by_root.owning.give.Given as goal

abbrev pub invariant-loop-root : goal.invariant-loop-root
invariant-loop-root l = IsGiven l.graph l.search.found l.root l.owned
