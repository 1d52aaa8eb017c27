-- How much the collector works for a program, over any stretch of its calls.
use Rattle.std.specs.Prelude.{◌≡◌, ℕ, ◌+◌, ◌-◌, ◌*◌, ◌/◌, ◌^◌, ◌<◌, ◌≤◌, max, if◌then◌else◌, Result, Ok, Err, List, [], ◌∷◌, ◌++◌, length}
use Rattle.size_classes.specs.declared.config.Config.{Config}
use Rattle.size_classes.specs.Config.{limits_of}
use Rattle.heap_model.specs.Event.{Event, Command_done, Cycle_begun, quanta_in}
use Rattle.heap_model.specs.ReachedFrom.{units_in}
use Rattle.space.specs.Pace.{in_cycle}
use Rattle.space.specs.Room.{asks}
use Rattle.fragmentation.specs.Flow.{words_of, opening_meter, LivesIn, AllMetered}
use Rattle.paced.specs.declared.pacer.AbovePlan.{AbovePlan}
use Rattle.paced.specs.declared.plan.Plan.{Plan}
use Rattle.paced.specs.Cycles.{saturated, DoesOn, CountsCycles}
use Rattle.paced.specs.Pacing.{PacedState, PacedView, state_of, KeepsAgreeing, worked, counted, Path, MayAsk, WorksFor}
use Rattle.paced.specs.Rooms.{planned_flow}
use Rattle.paced.specs.Planning.{quanta_on}

-- the words of blocks for which an event asks at most
abbrev pub words_in : Event → ℕ
words_in (Command_done m c reply) = words_of (asks c)
words_in e = 0

-- One event of a program, and the collector's work for it, which is done before a new object is made. A beginning or a quantum
-- that the program asks for itself is an event of its own, and no work.
pub record Deed : Type 0 where
  pub work : List Event
  pub event : Event

-- The collector works until the words may be asked for, and no longer. Then the event is done, and counted.
pub record IsDone (old : PacedState) (d : Deed) (new : PacedState) : Type 0 where
  pub before : PacedState
  pub works : Path (WorksFor (words_in d.event)) old d.work before
  pub may : MayAsk before (words_in d.event)
  pub does : DoesOn before.heap d.event new.heap
  pub counts : new.counts ≡ counted before.counts d.event

-- the deeds are done one after the other
abbrev pub AreDone : PacedState → List Deed → PacedState → Type 0
AreDone old [] new = new ≡ old
AreDone old (d ∷ ds) new = (mid : PacedState) × IsDone old d mid × AreDone mid ds new

-- all events, the collector's and the program's
abbrev pub events_of : List Deed → List Event
events_of [] = []
events_of (d ∷ ds) = d.work ++ d.event ∷ events_of ds

-- events for which the collector does nothing
abbrev pub without_work : List Event → List Deed
without_work [] = []
without_work (e ∷ es) = record { work = []; event = e } ∷ without_work es

-- the quanta that the collector spent for deeds of the program
abbrev pub quanta_paid : List Deed → ℕ
quanta_paid [] = 0
quanta_paid (d ∷ ds) = quanta_in d.work + quanta_paid ds

-- the units that the collector spent for these deeds
abbrev pub units_paid : List Deed → ℕ
units_paid [] = 0
units_paid (d ∷ ds) = units_in d.work + units_paid ds

-- the words for which these deeds asked
abbrev pub words_asked : List Deed → ℕ
words_asked [] = 0
words_asked (d ∷ ds) = words_in d.event + words_asked ds

-- no event asks for more words at once
abbrev pub AsksWithin : ℕ → Deed → Type 0
AsksWithin largest d = words_in d.event ≤ largest

-- A plan lasts with room for an object of `largest` words. A cycle has words for each quantum that it takes at most, and for
-- one such object besides.
pub record LastsWith (c : Config) (plan : Plan) (live largest : ℕ) : Type 0 where
  pub some : 1 ≤ plan.quantum_words
  pub lasts : plan.quantum_words * quanta_on c (planned_flow live plan) c.pages + largest ≤ plan.cycle_words
  pub small : plan.cycle_words < 2 ^ 64

-- live objects are within the plan whenever one of the events begins a cycle
abbrev pub LiveWithinPlan : Config → Plan → ℕ → List Event → Type 0
LiveWithinPlan c plan live es =
    AllMetered (c.collector_ticks * c.rate) (LivesIn (planned_flow live plan)) (opening_meter (limits_of c)) es

-- The collector's work for a stretch keeps to the words that were asked for in it. It takes at most one quantum for every
-- `quantum_words` of them, rounded up, and no more units than the budgets of these quanta.
pub record KeepsToWords (plan : Plan) (budget : ℕ) (stretch : List Deed) : Type 0 where
  pub quanta : quanta_paid stretch ≤ (words_asked stretch + (plan.quantum_words - 1)) / plan.quantum_words
  pub units : units_paid stretch ≤ quanta_paid stretch * budget

-- The most quanta that one object of this number of words takes in one call, if a plan leaves room for an object of `largest`
-- words. It takes one for every `quantum_words`, rounded up. If the object is larger, the running cycle may have too few words
-- for it, and the quanta that end this cycle come first.
abbrev pub most_for_one : Plan → ℕ → ℕ → ℕ
most_for_one plan largest words = (words + (plan.quantum_words - 1)) / plan.quantum_words
    + ((words - largest + (plan.quantum_words - 1)) / plan.quantum_words - 1)

-- the collector spends no more quanta for a deed than one object of its words takes at most
abbrev pub IsShort : Plan → ℕ → Deed → Type 0
IsShort plan largest d = quanta_in d.work ≤ most_for_one plan largest (words_in d.event)

-- an event is no beginning of a cycle
abbrev pub IsNoBeginning : Event → Type 0
IsNoBeginning Cycle_begun = ⊥
IsNoBeginning e = Unit {0}

-- the program itself begins no cycle by it
abbrev pub BeginsNone : Deed → Type 0
BeginsNone d = IsNoBeginning d.event

-- the collector does nothing for it
abbrev pub IsFree : Deed → Type 0
IsFree d = d.work ≡ []

-- The most pieces of work, beginnings and quanta, that are left for words that may not be asked for yet, if a plan lasts with
-- room for them. They are one quantum for every `quantum_words` except the first, less the quanta that were done.
abbrev pub pieces_left : PacedState → ℕ → ℕ
pieces_left v words = if in_cycle v.heap.phase
    then saturated ((v.counts.words + (words - 1)) / max v.counts.plan.quantum_words 1) - v.counts.quanta
    else saturated ((words - 1) / max v.counts.plan.quantum_words 1 + 1)

-- At most one piece of the collector's work is done for words, a beginning or a quantum. It is done only if they may not be
-- asked for yet. It is entered in the figures, and no words are counted. The number that is left is 0 exactly if the words may
-- be asked for.
pub record Prepares (old : PacedView) (words : ℕ) (left : ℕ) (new : PacedView) : Type 0 where
  pub work : List Event
  pub works : Path (WorksFor words) (state_of old) work (state_of new)
  pub least : (MayAsk (state_of old) words → ⊥) → 1 ≤ length work
  pub most : length work ≤ 1
  pub figures : new.pacer.figures ≡ worked old.pacer.figures work
  pub cycles : CountsCycles old.heap old.cycles work new.heap new.cycles
  pub agrees : KeepsAgreeing old.heap new.heap
  pub ready : left ≡ 0 → MayAsk (state_of new) words
  pub due : 0 < left → MayAsk (state_of new) words → ⊥
  pub told : 0 < left → left ≡ max (pieces_left (state_of new) words) 1

-- So it is, and a log has the work. If the words are more than the plan has for a whole cycle, nothing is done.
abbrev pub PreparesUnless : (List Event → Type 0) → PacedView → ℕ → Result ℕ AbovePlan → PacedView → Type 0
PreparesUnless Logs old words (Err above) new = (old.pacer.counts.plan.cycle_words < words) × (new ≡ old) × Logs []
PreparesUnless Logs old words (Ok left) new = (words ≤ old.pacer.counts.plan.cycle_words) × (p : Prepares old words left new)
    × Logs p.work
