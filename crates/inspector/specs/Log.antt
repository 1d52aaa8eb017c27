-- The figures that a log has of the steps of a run so far.
use Rattle.std.specs.Prelude.{◌≡◌, ◌≢◌, ℕ, true, List, [], ◌∷◌, ◌++◌, length, Option, Some, None, count_by}
use Rattle.heap_model.specs.Event.{Course}
use Rattle.heap_model.specs.Pages.{free_pages}
use Rattle.nodes.specs.Copies.{copies_in}
use Rattle.nodes.specs.declared.nodes.counting.Copies.{Copies}
use Rattle.inspector.specs.declared.cycles.cycle.Cycle.{Cycle}
use Rattle.inspector.specs.declared.cycles.open.Base.{Base}
use Rattle.inspector.specs.declared.cycles.open.End.{End}
use Rattle.inspector.specs.declared.cycles.open.Open.{Open}
use Rattle.inspector.specs.declared.cycles.open.Start.{Start}
use Rattle.inspector.specs.declared.cycles.turn.QuantumEffect.{QuantumEffect}
use Rattle.inspector.specs.declared.cycles.log.Log.{Log}
use Rattle.trace.specs.Observing.{Run}
use Rattle.trace.specs.Steps.{Step}
use Rattle.inspector.specs.Steps.{begins, works, ends_sweep, ends_cycle}
use Rattle.inspector.specs.Cycles.{counted, after_last, copies_at, units_by, longest_of, end_of, SweptBy, AreCycles}

-- how long the history was at a moment; at the start it was empty
abbrev pub place_at : Option Course → ℕ
place_at None = 0
place_at (Some r) = length r.history

-- the figures at these moments: when a sweep ended, and when a cycle ended
pub record IsBaseAt (swept ended : Option Course) (b : Base) : Type 0 where
  pub objects : b.objects ≡ (copies_at swept).objects
  pub parts : b.parts ≡ (copies_at swept).parts
  pub old : b.old ≡ (copies_at ended).old
  pub place : b.place ≡ place_at swept

-- the figures of the last sweep and the last cycle that steps ended
abbrev pub IsBase : List Step → Base → Type 0
IsBase steps b = IsBaseAt (after_last ends_sweep None steps) (after_last ends_cycle None steps) b

-- the effect of a step on the cycle that it found
pub record IsQuantumEffect (s : Step) (t : QuantumEffect) : Type 0 where
  pub works : t.works ≡ works s
  pub sweep : t.ends_sweep ≡ ends_sweep s
  pub cycle : t.ends_cycle ≡ ends_cycle s
  pub units : t.units ≡ units_by s

-- these are the copies in the heap after a step that ended a sweep, or a cycle
pub record AreCounted (s : Step) (copies : Copies) : Type 0 where
  pub sweep : ends_sweep s ≡ true → copies ≡ copies_in s.after.heap.store
  pub cycle : ends_cycle s ≡ true → copies ≡ copies_in s.after.heap.store

-- the figures of a cycle's end
abbrev pub end_at : Course → End
end_at r = record { units = r.heap.units; moved = (copies_in r.heap.store).old }

-- how a cycle ended that the first step began, if one of the later steps ended it
abbrev pub IsEnd : Step → List Step → Option End → Type 0
IsEnd first later None = count_by ends_cycle later ≡ 0
IsEnd first later (Some e) = (count_by ends_cycle later ≢ 0) × (e ≡ end_at (end_of first later))

-- the figures when the first step began a cycle
pub record IsStart (earlier : List Step) (first : Step) (start : Start) : Type 0 where
  pub line : start.line ≡ first.line
  pub base : IsBase earlier start.base
  pub place : start.place ≡ length first.before.history
  pub free : start.free ≡ free_pages first.before.heap.store.pages

-- A cycle that the first step began, as far as the later ones have taken it.
pub record IsOpen (earlier : List Step) (first : Step) (later : List Step) (o : Open) : Type 0 where
  pub start : IsStart earlier first o.start
  pub quanta : o.quanta ≡ counted (count_by works later)
  pub longest : o.longest ≡ longest_of later
  pub sweep : SweptBy earlier first later o.sweep
  pub end : IsEnd first later o.end

-- the cycle that is open, of steps that lead to a moment, after those that are closed
pub record HasOpen (steps : List Step) (now : Course) (closed : List Cycle) (o : Open) : Type 0 where
  pub earlier : List Step
  pub first : Step
  pub later : List Step
  pub whole : steps ≡ earlier ++ first ∷ later
  pub cycles : AreCycles earlier closed
  pub begun : begins first ≡ true
  pub none : count_by begins later ≡ 0
  pub leads : count_by ends_cycle later ≡ 0 → end_of first later ≡ now
  pub is : IsOpen earlier first later o

-- the cycle that is open, if one of the steps began any
abbrev pub IsOpenIn : List Step → Course → List Cycle → Option Open → Type 0
IsOpenIn steps now closed None = (closed ≡ []) × (count_by begins steps ≡ 0)
IsOpenIn steps now closed (Some o) = HasOpen steps now closed o

-- A log of the steps that lead to a moment: the cycles that are closed, and the one that isn't.
pub record IsLog (steps : List Step) (now : Course) (log : Log) : Type 0 where
  pub base : IsBase steps log.base
  pub cycles : IsOpenIn steps now log.closed.items log.last

-- a log that has seen a run
abbrev pub HasLogged : Run → Log → Type 0
HasLogged run log = IsLog run.steps run.now log
