use Rattle.std.proofs.Common.{◌≡◌, ◌-◌, length, ap, ◌∙◌, sym}
use Rattle.heap_model.specs.Event.{Course}
use Rattle.pictures.specs.Samples.{phases_of}
use Rattle.pictures.proofs.Noting.{quantum_made, budget_is}
use Rattle.pictures.proofs.quantum_log.quantum_between.Goals as goal

pub returns : goal.returns
returns c = λ s is mark now.
    let units : c.units.result ≡ s.after.heap.units = c.units.ensures.units ∙ ap (λ h. h.units) c.heap.ensures.heap ∙ ap (λ (x : Course). x.heap.units) (sym now) in
    let spent : c.saturating_sub.result ≡ s.after.heap.units - s.before.heap.units = c.saturating_sub.ensures ∙ ap (λ n. n - c.args.before.now.units) units ∙ ap (λ n. s.after.heap.units - n) mark.units in
    quantum_made s _ _ _ _ (ap length c.history.ensures.history ∙ ap (λ (x : Course). length x.history) (sym now)) spent (c.from.ensures ∙ budget_is s c.args.budget is) (c.of.ensures ∙ ap phases_of mark.phase)
