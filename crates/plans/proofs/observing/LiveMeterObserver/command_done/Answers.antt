use Rattle.std.proofs.lemmas.Result.{on_ok_weaker}
use Rattle.plans.proofs.Metering.{on_err, command_metered}
use Rattle.plans.proofs.observing.LiveMeterObserver.command_done.Goals as goal

pub returns-clause-seen : goal.returns-clause-seen
returns-clause-seen c =
    on_ok_weaker c.command.result (λ counts s is run seen now. command_metered run s c.args.self.now seen now is.1 c.args.entry.now is.0 c.command.new.self counts) c.command.ensures

pub returns-clause-err : goal.returns-clause-err
returns-clause-err c = on_err c.command.result
