use Rattle.std.proofs.Common.{◌∙◌, sym, refl}
use Rattle.std.proofs.lemmas.Result.{on_ok_weaker}
use Rattle.sizing.proofs.Measurements.Seeing.{on_err, begin_measured, on_measured}
use Rattle.sizing.proofs.observing.MeterObserver.begins.Goals as goal

pub returns-then-is_cycle_running-clause-seen : goal.returns-then-is_cycle_running-clause-seen
returns-then-is_cycle_running-clause-seen c = λ s is run seen now.
    on_measured run s c.args.self.now c.args.self.now seen now c.args._number c.args._recorded.now.course is (sym c.is_cycle_running.ensures ∙ c.if-is_cycle_running.true) refl

pub returns-clause-seen : goal.returns-clause-seen
returns-clause-seen c =
    on_ok_weaker c.begun.result (λ measured s is run seen now. begin_measured run s c.args.self.now c.begun.new.self seen now c.args._number c.args._recorded.now.course is (sym c.is_cycle_running.ensures ∙ c.if-is_cycle_running.false) measured) c.begun.ensures

pub returns-clause-err : goal.returns-clause-err
returns-clause-err c = on_err c.begun.result
