use Rattle.inspector.specs.Owning.{IsHanded}
use Rattle.inspector.proofs.by_root.owning.hand_on_all.Given as goal

abbrev pub invariant-loop-place : goal.invariant-loop-place
invariant-loop-place l = IsHanded l.graph l.search.found l.place l.owned
