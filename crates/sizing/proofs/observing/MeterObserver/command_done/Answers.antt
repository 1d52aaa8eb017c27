use Rattle.std.proofs.lemmas.Result.{on_ok_weaker}
use Rattle.sizing.proofs.Measurements.Seeing.{on_err, command_measured}
use Rattle.sizing.proofs.observing.MeterObserver.command_done.Goals as goal

pub returns-clause-seen : goal.returns-clause-seen
returns-clause-seen c =
    on_ok_weaker c.command.result (λ measured s is run seen now. command_measured run s c.args.self.now c.command.new.self seen now c.args.entry.now is measured) c.command.ensures

pub returns-clause-err : goal.returns-clause-err
returns-clause-err c = on_err c.command.result
