-- The views of a seat, the pacer and the locked state.
use Rattle.std.specs.Prelude.{ℕ, List}
use Rattle.graph_heap.specs.declared.command.Entry.{Entry}
use Rattle.heap_model.specs.Event.{Course}
use Rattle.heap_server.specs.declared.locked.Locked.TheInside.{Inside}

-- a seat's mutator, how many calls it has made, and the part of the running history that it has seen
pub record SeatView : Type 0 where
  pub mutator : ℕ
  pub calls : ℕ
  pub seen : List Entry

-- how many cycles the pacer has begun and seen end, how many quanta it has done, and the units that it has spent
pub record PacerView : Type 0 where
  pub begun : ℕ
  pub ended : ℕ
  pub quanta : ℕ
  pub spent : ℕ

-- The locked heap with its history; for how many more entries memory is ready; and the totals of the five books: calls
-- made, cycles begun, cycles ended, quanta done, units spent.
pub record LockedView : Type 0 where
  pub course : Course
  pub room : ℕ
  pub calls : ℕ
  pub begun : ℕ
  pub ended : ℕ
  pub quanta : ℕ
  pub spent : ℕ

-- the fields under the lock, as contracts see them
abbrev pub locked_of : {N : Type 0} → Inside N → LockedView
locked_of l = record {
  course = l.recorded.course;
  room = l.ready;
  calls = l.calls.total;
  begun = l.begun.total;
  ended = l.ended.total;
  quanta = l.quanta.total;
  spent = l.units.total;
}

-- the view of the pacer if its numbers are the totals of the books
abbrev pub pacer_of : LockedView → PacerView
pacer_of v = record { begun = v.begun; ended = v.ended; quanta = v.quanta; spent = v.spent }
