use Rattle.std.proofs.Common.{inl, inr, ap}
use Rattle.std.proofs.lemmas.Result.{on_ok_weaker}
use Rattle.inspector.specs.Steps.{is_quantum}
use Rattle.pictures.proofs.Noting.{on_err, log_same, no_work}
use Rattle.pictures.proofs.run_log.RunLogObserver.begins.Goals as goal

pub returns-clause-seen : goal.returns-clause-seen
returns-clause-seen c =
    on_ok_weaker c.begins.result (λ logs s is run seen now. (seen.0, logs s is run seen.1 now, log_same run.steps s c.args.self.now.quanta (no_work s (elim is.2 [ inl e ↦ ap is_quantum e | inr e ↦ ap is_quantum e ])) seen.2)) c.begins.ensures.seen

pub returns-clause-err : goal.returns-clause-err
returns-clause-err c = on_err c.begins.result
