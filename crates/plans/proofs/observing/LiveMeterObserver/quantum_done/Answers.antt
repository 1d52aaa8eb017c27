use Rattle.plans.proofs.Metering.{quantum_metered}
use Rattle.plans.proofs.observing.LiveMeterObserver.quantum_done.Goals as goal

pub returns : goal.returns
returns c = record {
  seen = λ s is mark after run seen now. quantum_metered run s c.args.self.now c.args._budget is seen now;
}
