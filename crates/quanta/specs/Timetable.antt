-- The timetable of the collector's quanta.
use Rattle.std.specs.Prelude.{◌≡◌, ℕ, ◌+◌, ◌≤◌, max, nat_lt, if◌then◌else◌, List, [], ◌∷◌, ◌++◌, Option, Some, None}
use Rattle.std.specs.Option.{ForSome}
use Rattle.std.specs.List.{last_or}
use Rattle.size_classes.specs.declared.key.Key.TheVariants.{CollectorTicks, MutatorTicks}
use Rattle.size_classes.specs.Keys.{IsWithin}
use Rattle.quanta.specs.declared.schedule.TheConstants.{CLOCK_LIMIT}
use Rattle.quanta.specs.declared.interval.Interval.{Interval}
use Rattle.quanta.specs.Intervals.{IsSpaced}

-- A timetable. It has the ticks of a quantum, the least ticks of the mutators between two quanta, and the time. It has
-- the time at which a quantum is due while a cycle runs, the intervals of the quanta so far, and the number of more
-- intervals for which there is memory.
pub record Timetable : Type 0 where
  pub collector_ticks : ℕ
  pub mutator_ticks : ℕ
  pub clock : ℕ
  pub due : Option ℕ
  pub intervals : List Interval
  pub reserved : ℕ

-- before the first tick
abbrev pub opening : ℕ → ℕ → Timetable
opening c q = record { collector_ticks = c; mutator_ticks = q; clock = 0; due = None; intervals = []; reserved = 0 }

-- the first tick at which an interval may begin, after an earlier one
abbrev pub start_after : ℕ → Option Interval → ℕ
start_after q None = 0
start_after q (Some i) = i.end + q

-- when the first quantum of a cycle that begins now is due: at once or, if that is later, `mutator_ticks`
-- after the end of the last interval
abbrev pub first_due : Timetable → ℕ
first_due t = max t.clock (start_after t.mutator_ticks (last_or None t.intervals))

-- when a quantum is due, if that is below a time
abbrev pub due_below : ℕ → Option ℕ → Option ℕ
due_below until None = None
due_below until (Some due) = if nat_lt due until then Some due else None

-- the end of the last interval, or 0
abbrev pub last_end : List Interval → ℕ
last_end intervals = start_after 0 (last_or None intervals)

-- a timetable with memory for n more intervals
abbrev pub with_reserved : Timetable → ℕ → Timetable
with_reserved t n = record t { reserved = n }

-- One interval more, of a quantum at a time; the next quantum is due after it. No more of the memory that was
-- reserved is gone than its own.
pub record IsPlacedAt (due : ℕ) (old new : Timetable) : Type 0 where
  pub placed : new ≡ record old {
    intervals = old.intervals ++ (record { start = due; end = due + old.collector_ticks }) ∷ [];
    due = Some (due + old.collector_ticks + old.mutator_ticks);
    reserved = new.reserved;
  }
  pub reserved : old.reserved ≤ new.reserved + 1

-- The invariant of a timetable: the intervals are spaced; the quantum that is due comes after them; and all numbers are
-- within their limits. Ticks are in the ranges of their keys, which don't depend on the number of mutators.
pub record IsTimetable (t : Timetable) : Type 0 where
  pub spaced : IsSpaced t.collector_ticks t.mutator_ticks t.intervals
  pub clock : t.clock ≤ CLOCK_LIMIT
  pub behind : start_after t.mutator_ticks (last_or None t.intervals)
      ≤ CLOCK_LIMIT + t.collector_ticks + t.mutator_ticks
  pub due : ForSome t.due (λ due. (start_after t.mutator_ticks (last_or None t.intervals) ≤ due)
      × (due ≤ CLOCK_LIMIT + t.collector_ticks + t.mutator_ticks))
  pub collector_ticks : IsWithin 0 CollectorTicks t.collector_ticks
  pub mutator_ticks : IsWithin 0 MutatorTicks t.mutator_ticks
