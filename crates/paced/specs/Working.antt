-- How the collector works for words, seen from within the crate.
use Rattle.std.specs.Prelude.{◌≡◌, ◌≢◌, ℕ, ◌+◌, ◌-◌, Bool, true, false, ◌==◌, if◌then◌else◌, List}
use Rattle.heap_model.specs.declared.phase.Phase.TheVariants as phases
use Rattle.heap_model.specs.Event.{Event, Cycle_begun, Quantum_done, quanta_in}
use Rattle.heap_model.specs.ReachedFrom.{cycles_in}
use Rattle.heap_model.specs.Spent.{cycle_limit}
use Rattle.space.specs.Pace.{in_cycle}
use Rattle.paced.specs.Cycles.{saturated, DoesOn, cycles_after, CountsCycles}
use Rattle.paced.specs.Pacing.{PacedState, PacedView, state_of, counted, Path, WorksFor}

-- a cycle was begun, or a quantum of the pacer's budget was spent on the one that runs
abbrev pub IsPiece : PacedState → Bool → Event → Type 0
IsPiece v true Cycle_begun = Unit {0}
IsPiece v false (Quantum_done budget units phase) = (budget ≡ v.counts.budget) × (v.heap.phase ≢ phases.Idle)
IsPiece v began e = ⊥

-- one piece of work is done, and the answer says which
pub record DoesPiece (old : PacedView) (began : Bool) (new : PacedView) : Type 0 where
  pub event : Event
  pub is_piece : IsPiece (state_of old) began event
  pub does : DoesOn old.heap event new.heap
  pub counts : new.pacer.counts ≡ counted old.pacer.counts event
  pub cycles : new.cycles ≡ cycles_after event old.heap new.heap old.cycles

-- How much work is left at most before words may be asked for. It is the rest of the running cycle, and a whole cycle if one
-- may have to begin.
abbrev pub work_left : PacedState → ℕ
work_left v =
    (if v.counts.words == 0 then 0 else cycle_limit v.heap + 2)
    + (if in_cycle v.heap.phase then cycle_limit v.heap + 1 - v.heap.units else 0)

-- the collector has worked for `words` words, by this number of quanta and of beginnings
pub record HasWorked (words : ℕ) (old now : PacedView) (quanta cycles : ℕ) : Type 0 where
  pub work : List Event
  pub path : Path (WorksFor words) (state_of old) work (state_of now)
  pub counts : CountsCycles old.heap old.cycles work now.heap now.cycles
  pub quanta_done : quanta ≡ saturated (quanta_in work)
  pub cycles_begun : cycles ≡ saturated (cycles_in work)
  pub plan : now.pacer.counts.plan ≡ old.pacer.counts.plan
