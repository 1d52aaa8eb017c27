use Rattle.std.proofs.Common.{ap, ◌∙◌, ◌++◌, ◌∷◌, [], sym, refl}
use Rattle.heap_model.specs.Phases.{is_idle}
use Rattle.pictures.proofs.Noting.{is_running, is_over, log_same, log_more, works_is}
use Rattle.pictures.proofs.quantum_log.QuantumLog.quantum.Goals as goal

pub returns-then-is_idle : goal.returns-then-is_idle
returns-then-is_idle c = λ steps s has is mark now.
    log_same steps s c.args.self.now (works_is s c.args.budget is ∙ is_over s.before.heap.phase (ap is_idle (sym mark.phase) ∙ sym c.is_idle.ensures ∙ c.if-is_idle.true)) has

pub returns-in-Ok : goal.returns-in-Ok
returns-in-Ok c = λ steps s has is mark now.
    let one = works_is s c.args.budget is ∙ is_running s.before.heap.phase (ap is_idle (sym mark.phase) ∙ sym c.is_idle.ensures ∙ c.if-is_idle.false) in
    log_more steps s c.args.self.now (record { items = c.push.new.self; is_refused = c.args.self.now.is_refused }) one has refl (c.in-Ok.ensures.items ∙ ap (λ q. c.args.self.now.items.items ++ q ∷ []) (c.quantum_between.ensures s is mark now))
