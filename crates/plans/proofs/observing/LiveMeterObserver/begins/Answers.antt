use Rattle.plans.proofs.Metering.{begin_metered}
use Rattle.plans.proofs.observing.LiveMeterObserver.begins.Goals as goal

pub returns-clause-seen : goal.returns-clause-seen
returns-clause-seen c = λ s is run seen now. begin_metered run s c.args.self.now c.args._number c.args._recorded.now.course is seen now
