use Rattle.std.proofs.Common.{◌∙◌, sym, ap, ℕ}
use Rattle.heap_model.specs.State.{HeapState}
use Rattle.nodes.specs.declared.nodes.counting.Copies.{Copies}
use Rattle.inspector.specs.declared.cycles.open.End.{End}
use Rattle.inspector.proofs.cycles.Stepping.{end_some, end_none, end_now, begins_on}
use Rattle.inspector.proofs.cycles.open.Open.end_after.Goals as goal

pub returns-then-is_some : goal.returns-then-is_some
returns-then-is_some c = λ earlier later first s begun is turn counted now. end_some first later s c.args.self.now.end (sym c.is_some.ensures ∙ c.if-is_some.true) is.end

pub returns-then-not-turn : goal.returns-then-not-turn
returns-then-not-turn c = λ earlier later first s begun is turn counted now.
    end_none first later s c.args.self.now.end (sym c.is_some.ensures ∙ c.if-is_some.false) (sym turn.cycle ∙ c.if-not-turn.true) is.end

pub returns : goal.returns
returns c = λ earlier later first s begun is turn counted now.
    let ends_with : HeapState → End = λ h. record { units = h.units; moved = c.args.copies.now.old } in
    let with_old : ℕ → End = λ n. record { units = s.after.heap.units; moved = n } in
    let ends = sym turn.cycle ∙ c.if-not-turn.false in
    end_now first later s c.args.self.now.end (sym c.is_some.ensures ∙ c.if-is_some.false) (begins_on first begun) ends is.end c.from_heap.result
    (c.from_heap.ensures ∙ ap ends_with (sym now) ∙ ap with_old (ap (λ (k : Copies). k.old) (counted.cycle ends)))
