use Rattle.std.proofs.Common.{ap}
use Rattle.std.proofs.lemmas.Result.{on_ok_weaker}
use Rattle.inspector.specs.Steps.{is_quantum}
use Rattle.pictures.proofs.Noting.{on_err, log_same, no_work}
use Rattle.pictures.proofs.run_log.RunLogObserver.command_done.Goals as goal

pub returns-clause-seen : goal.returns-clause-seen
returns-clause-seen c =
    on_ok_weaker c.command_done.result (λ logs s is run seen now. (seen.0, logs s is run seen.1 now, log_same run.steps s c.args.self.now.quanta (no_work s (ap is_quantum is.0)) seen.2)) c.command_done.ensures.seen

pub returns-clause-err : goal.returns-clause-err
returns-clause-err c = on_err c.command_done.result
