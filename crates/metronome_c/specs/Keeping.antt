-- A plan is kept.
use Rattle.std.specs.Prelude.{◌≡◌, ℕ, Bool, true, false, if◌then◌else◌, length, Option, Some, None, Result, Ok, Err}
use Rattle.std.specs.Option.{option_map}
use Rattle.heap_model.specs.declared.phase.Phase.TheVariants as phases
use Rattle.heap_model.specs.Pages.{free_pages}
use Rattle.heap_model.specs.State.{HeapState}
use Rattle.paced.specs.declared.figures.Figures.{Figures}
use Rattle.paced.specs.Rooms.{first_pacer}
use Rattle.heap_shared.specs.Ring.{figures_of}
use Rattle.metronome_c.specs.declared.held.Held.{Held}
use Rattle.metronome_c.specs.declared.held.Held.TheVariants as holds
use Rattle.metronome_c.specs.declared.own_heap.OwnHeap.{OwnHeap}
use Rattle.metronome_c.specs.declared.keeping.MetronomeWork.{MetronomeWork}
use Rattle.metronome_c.specs.declared.planning.MetronomeFlow.{MetronomeFlow}
use Rattle.metronome_c.specs.declared.status.Status.{Status}
use Rattle.metronome_c.specs.declared.status.Status.TheVariants.{Done, NoPlan, Outside, IsShared}
use Rattle.metronome_c.specs.Either.{OnEither, IsRefused}
use Rattle.metronome_c.specs.Planning.{plan_in, Suits}
use Rattle.metronome_c.specs.Status.{status_number}

-- no page was used yet, and no cycle begun
pub record IsUnused (h : HeapState) : Type 0 where
  pub idle : h.phase ≡ phases.Idle
  pub units : h.units ≡ 0
  pub free : free_pages h.store.pages ≡ length h.store.pages

-- the heap is unused, and the flow suits its configuration
pub record CanKeep (h : OwnHeap) (flow : MetronomeFlow) : Type 0 where
  pub unused : IsUnused h.heap
  pub suits : Suits h.config flow

-- a heap as it is, with a pacer that has counted nothing
abbrev pub kept : OwnHeap → MetronomeFlow → OwnHeap
kept h flow = record h { pacer = Some (first_pacer flow.budget (plan_in flow)) }

-- A flow is kept exactly if it can be; else nothing is done.
abbrev pub KeepsHeld : OwnHeap → MetronomeFlow → Bool → OwnHeap → Type 0
KeepsHeld old flow true new = CanKeep old flow × (new ≡ kept old flow)
KeepsHeld old flow false new = (CanKeep old flow → ⊥) × (new ≡ old)

-- the outcome of a call to keep a flow
abbrev pub keep_told : Bool → Result (Unit {0}) Status
keep_told true = Ok tt
keep_told false = Err NoPlan

-- a flow is kept so, and that is told
pub record KeepsTold (old : OwnHeap) (flow : MetronomeFlow) (answer : Result (Unit {0}) Status) (new : OwnHeap) : Type 0 where
  pub kept : Bool
  pub does : KeepsHeld old flow kept new
  pub is : answer ≡ keep_told kept

-- the status of a call to keep a flow
abbrev pub keep_status : Bool → Status
keep_status is = if is then Done else NoPlan

-- the heap that C holds keeps a flow from here on, or C is told that it can't
abbrev pub KeepsOwn : Result OwnHeap Status → MetronomeFlow → Result OwnHeap Status → ℕ → Type 0
KeepsOwn (Err why) flow new status = (new ≡ Err why) × (status ≡ status_number why)
KeepsOwn (Ok h) flow new status = (k : OwnHeap) × (is : Bool) × (new ≡ Ok k) × KeepsHeld h flow is k
    × (status ≡ status_number (keep_status is))

-- a pacer's figures, as C sees them
abbrev pub work_told : Figures → MetronomeWork
work_told f = record { quanta = f.quanta; cycles = f.cycles; most_quanta = f.most_quanta }

-- the figures of a plan; there are none if none is kept
abbrev pub work_by : Option Figures → Result MetronomeWork Status
work_by (Some figures) = Ok (work_told figures)
work_by None = Err NoPlan

-- the work for the plan of a shared heap, in the turn of a member
abbrev pub work_in_turn : Option (Option Figures) → Result MetronomeWork Status
work_in_turn (Some told) = work_by told
work_in_turn None = Err Outside

-- the work of the collector for the plan of the heap that is held
abbrev pub work_of : Held → Result MetronomeWork Status
work_of (holds.Own h) = work_by (option_map (λ p. p.figures) h.pacer)
work_of (holds.Shared v) = work_in_turn (option_map figures_of v.turn)

-- A heap of its own keeps a flow from here on, or C is told that it can't. A shared heap keeps the plan with which it was made.
abbrev pub Keeps : Result Held Status → MetronomeFlow → Result Held Status → ℕ → Type 0
Keeps old flow new status = OnEither (λ h k. KeepsOwn h flow k status) (λ v w. IsRefused IsShared v w status) old new
