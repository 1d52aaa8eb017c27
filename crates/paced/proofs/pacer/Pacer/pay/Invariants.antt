use Rattle.std.proofs.Common.{◌≡◌}
use Rattle.paced.specs.Logged.{Enters}
use Rattle.paced.specs.Pacing.{paced_by, state_by, KeepsAgreeing}
use Rattle.paced.specs.Working.{work_left, HasWorked}
use Rattle.paced.proofs.pacer.Pacer.pay.Given as goal

abbrev pub invariant-loop-self : goal.invariant-loop-self
invariant-loop-self g l = record {
  worked : (w : HasWorked l.words (paced_by l.fn.self l.fn.heap l.fn.cycles) (paced_by l.self l.heap l.cycles) l.quanta l.begun)
      × Enters g.L.Log.enters l.fn.log w.work l.log;
  figures : l.self.figures ≡ l.fn.self.figures;
  agrees : KeepsAgreeing l.fn.heap l.heap;
}

abbrev pub decreases-loop-self : goal.decreases-loop-self
decreases-loop-self g l = work_left (state_by l.self l.heap)
