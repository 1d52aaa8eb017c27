use Rattle.inspector.proofs.Owning.{IsHanding}
use Rattle.inspector.proofs.by_root.owning.hand_on.Given as goal

abbrev pub invariant-loop-id : goal.invariant-loop-id
invariant-loop-id l = IsHanding l.graph l.search.found l.place l.id-index l.root l.owned
