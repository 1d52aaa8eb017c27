use Rattle.std.proofs.Common.{◌+◌, length}
use Rattle.mmu_report.specs.Covered.{covered}
use Rattle.mmu_report.proofs.Fronts.{IsFront}
use Rattle.mmu_report.proofs.front.Front.covered_below.Given as goal

abbrev pub invariant-loop-first : goal.invariant-loop-first
invariant-loop-first l = IsFront (λ x. l.initial.self.passed + covered l.initial.self.ahead.now x) l.place l.self.passed l.self.ahead.now

abbrev pub decreases-loop-first : goal.decreases-loop-first
decreases-loop-first l = length l.self.ahead.now
