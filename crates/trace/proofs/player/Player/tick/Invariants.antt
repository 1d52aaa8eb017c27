use Rattle.std.proofs.Common.{◌+◌, ◌≡◌, ◌≤◌}
use Rattle.quanta.specs.declared.schedule.TheConstants.{CLOCK_LIMIT}
use Rattle.trace.specs.Observing.{observed}
use Rattle.trace.proofs.Seeing.{QuantaSeen}
use Rattle.trace.proofs.Ticking.{left_until}
use Rattle.trace.proofs.player.Player.tick.Given as goal

-- the observer has seen the quanta so far, and the clock stands still
abbrev pub invariant-loop : goal.invariant-loop
invariant-loop g l = record {
  within : l.until ≤ CLOCK_LIMIT;
  is : l.until ≡ l.fn.self.timetable.clock + l.ticks;
  clock : l.self.timetable.clock ≡ l.fn.self.timetable.clock;
  seen : QuantaSeen g.O.Observer.has_seen l.until (observed l.fn.self l.fn.observer) (observed l.self l.observer);
}

abbrev pub decreases-loop : goal.decreases-loop
decreases-loop g l = left_until l.until l.self.timetable.due
