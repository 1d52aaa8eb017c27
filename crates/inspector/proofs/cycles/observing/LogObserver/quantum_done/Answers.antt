use Rattle.inspector.proofs.cycles.Seeing.{quantum_logged}
use Rattle.inspector.proofs.cycles.observing.LogObserver.quantum_done.Goals as goal

pub returns : goal.returns
returns c = record {
  seen = λ s is mark after run seen now. quantum_logged run s c.args.self.now c.quantum.new.self seen now c.args._budget is (λ steps logged quantum. c.quantum.ensures steps s logged quantum mark after);
}
