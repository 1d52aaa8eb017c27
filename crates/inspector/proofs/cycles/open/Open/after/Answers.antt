use Rattle.inspector.specs.Steps.{works}
use Rattle.std.proofs.Common.{◌≡◌, ℕ, ◌∙◌, cond, max, refl, sym, ap, arith}
use Rattle.heap_model.specs.Event.{Course}
use Rattle.inspector.proofs.cycles.Logging.{open_more}
use Rattle.inspector.proofs.cycles.open.Open.after.Goals as goal

pub returns : goal.returns
returns c = λ earlier later first s begun is turn counted now.
    let old = c.args.self in
    let one : c.either.result ≡ cond (works s) 1 0 = c.either.ensures ∙ ap {B = ℕ} (λ b. cond b 1 0) turn.works in
    open_more earlier first later s old is _ refl (omega (arith, c.saturating_add.ensures, one)) (c.max.ensures ∙ ap (max old.longest) turn.units)
    (c.sweep_after.ensures earlier later first s is turn counted now) (c.end_after.ensures earlier later first s begun is turn counted (ap (λ (r : Course). r.heap) now ∙ sym c.heap.ensures.heap))
