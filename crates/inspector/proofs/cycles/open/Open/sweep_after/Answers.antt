use Rattle.std.proofs.Common.{◌∙◌, sym, ap, subst, None}
use Rattle.nodes.specs.Copies.{copies_in}
use Rattle.inspector.specs.Steps.{ends_sweep, ends_cycle}
use Rattle.inspector.specs.Cycles.{after_last, IsSweep}
use Rattle.heap_model.specs.Event.{Course}
use Rattle.inspector.proofs.cycles.Stepping.{swept_some, swept_none, swept_now}
use Rattle.inspector.proofs.cycles.open.Open.sweep_after.Goals as goal

pub returns-then-is_some : goal.returns-then-is_some
returns-then-is_some c = λ earlier later first s is turn counted now. swept_some earlier first later s c.args.self.now.sweep (sym c.is_some.ensures ∙ c.if-is_some.true) is.sweep

pub returns-then-not-turn : goal.returns-then-not-turn
returns-then-not-turn c = λ earlier later first s is turn counted now.
    swept_none earlier first later s c.args.self.now.sweep (sym c.is_some.ensures ∙ c.if-is_some.false) (sym turn.sweep ∙ c.if-not-turn.true) is.sweep

pub returns : goal.returns
returns c = λ earlier later first s is turn counted now.
    let ends = sym turn.sweep ∙ c.if-not-turn.false in
    swept_now earlier first later s c.args.self.now.sweep (sym c.is_some.ensures ∙ c.if-is_some.false) ends is.sweep c.swept.result
    (subst (λ r. IsSweep (after_last ends_sweep None earlier) (after_last ends_cycle None earlier) first.before r c.swept.result) (sym now)
    (c.swept.ensures _ _ first.before is.start.base is.start.place is.start.free (counted.sweep ends ∙ ap (λ (r : Course). copies_in r.heap.store) now)))
