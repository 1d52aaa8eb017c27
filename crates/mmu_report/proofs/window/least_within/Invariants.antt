use Rattle.mmu_report.proofs.Sweeps.{IsSwept}
use Rattle.mmu_report.proofs.window.least_within.Given as goal

abbrev pub invariant-loop-interval : goal.invariant-loop-interval
invariant-loop-interval l = IsSwept l.intervals l.last l.window l.interval-index l.reached l.covered l.least l.ends.passed l.ends.ahead.now
