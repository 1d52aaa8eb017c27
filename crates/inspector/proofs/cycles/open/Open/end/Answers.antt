use Rattle.std.proofs.Common.{◌∙◌, sym, ap, subst}
use Rattle.heap_model.specs.State.{HeapState}
use Rattle.nodes.specs.Copies.{copies_in}
use Rattle.nodes.specs.declared.nodes.counting.Copies.{Copies}
use Rattle.inspector.specs.declared.cycles.open.End.{End}
use Rattle.inspector.specs.Log.{IsEnd}
use Rattle.inspector.proofs.cycles.open.Open.end.Goals as goal

pub returns-in-Some : goal.returns-in-Some
returns-in-Some c = λ later first is now. (subst (IsEnd first later) c.in-Some.is is).1

pub returns-in-None : goal.returns-in-None
returns-in-None c = λ later first is now.
    let same = now (subst (IsEnd first later) c.in-None.is is) in
    let ends : HeapState → End = λ h. record { units = h.units; moved = (copies_in h.store).old } in
    c.from_heap.ensures ∙ ap (λ (k : Copies). record { units = c.args.heap.now.units; moved = k.old }) c.copies.ensures ∙ ap ends (sym same)
