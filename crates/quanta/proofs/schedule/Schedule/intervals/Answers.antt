use Rattle.std.proofs.Common.{sym, subst, lit≤}
use Rattle.quanta.specs.Intervals.{IsRising}
use Rattle.quanta.proofs.Spacing.{IsRisingFrom-spaced}
use Rattle.quanta.proofs.schedule.Schedule.intervals.Goals as goal

pub returns-clause-rising : goal.returns-clause-rising
returns-clause-rising c =
    subst IsRising (sym c.as_slice.ensures.value)
    (IsRisingFrom-spaced c.self.inside.collector_ticks c.self.inside.mutator_ticks 0 0 c.self.inside.intervals.items (lit≤ tt) c.self.invariant.spaced)
