-- The counts of a pacer, and the events on a heap that it paces.
use Rattle.std.specs.Prelude.{◌≡◌, ◌≢◌, ℕ, ◌+◌, ◌*◌, ◌<◌, ◌≤◌, true, nat_le, max, if◌then◌else◌, Result, Ok, Err, List, [], ◌∷◌}
use Rattle.graph_heap.specs.Graph.{Graph}
use Rattle.graph_heap.specs.declared.command.Command.{Command}
use Rattle.graph_heap.specs.declared.command.Command.TheVariants as commands
use Rattle.graph_heap.specs.declared.command.Reply.{Reply}
use Rattle.graph_heap.specs.declared.command.Shape.{Shape}
use Rattle.graph_heap.specs.Shape.{fits}
use Rattle.size_classes.specs.Need.{needed}
use Rattle.heap_model.specs.declared.phase.Phase.TheVariants as phases
use Rattle.heap_model.specs.State.{HeapState}
use Rattle.heap_model.specs.Agreement.{Agrees}
use Rattle.heap_model.specs.Event.{Event, Command_done, Cycle_begun, Begin_refused, Quantum_done, Quantum_refused, quanta_in}
use Rattle.heap_model.specs.ReachedFrom.{cycles_in}
use Rattle.space.specs.Pace.{in_cycle}
use Rattle.space.specs.Room.{asks}
use Rattle.fragmentation.specs.Flow.{words_of}
use Rattle.machine.specs.Plan.{Steps}
use Rattle.paced.specs.declared.cycles.Cycles.{Cycles}
use Rattle.paced.specs.declared.figures.Figures.{Figures}
use Rattle.paced.specs.declared.pacer.AbovePlan.{AbovePlan}
use Rattle.paced.specs.declared.plan.Plan.{Plan}
use Rattle.paced.specs.Cycles.{saturated, DoesOn, CountsCycles}

-- The plan and the counts of a pacer. Its own quanta have its budget, which is the least budget that it counts. It counts the
-- words of blocks that were asked for, and the quanta that were done, since the last cycle began.
pub record Counts : Type 0 where
  pub plan : Plan
  pub budget : ℕ
  pub words : ℕ
  pub quanta : ℕ

-- a pacer: its counts, and its figures
pub record PacerView : Type 0 where
  pub counts : Counts
  pub figures : Figures

-- a heap, and the counts of its pacer
pub record PacedState : Type 0 where
  pub heap : HeapState
  pub counts : Counts

-- a heap with its cycles and its pacer
pub record PacedView : Type 0 where
  pub heap : HeapState
  pub cycles : Cycles
  pub pacer : PacerView

-- a heap with its cycles, that a pacer paces
abbrev pub paced_by : PacerView → HeapState → Cycles → PacedView
paced_by p h c = record { heap = h; cycles = c; pacer = p }

-- a heap, and the counts of a pacer
abbrev pub state_by : PacerView → HeapState → PacedState
state_by p h = record { heap = h; counts = p.counts }

-- the heap, and the counts of its pacer without the figures
abbrev pub state_of : PacedView → PacedState
state_of v = state_by v.pacer v.heap

-- The counts after one more event. A beginning zeroes them, and a quantum counts if its budget is no smaller than the pacer's.
abbrev pub counted : Counts → Event → Counts
counted t (Command_done m c reply) = record t { words = t.words + words_of (asks c) }
counted t Cycle_begun = record t { words = 0; quanta = 0 }
counted t Begin_refused = t
counted t (Quantum_done budget units phase) =
    record t { quanta = if nat_le t.budget budget then saturated (t.quanta + 1) else t.quanta }
counted t (Quantum_refused budget) = t

-- Events are done on a heap, one after the other, each if it passes, and its pacer counts them.
abbrev pub Path : (PacedState → Event → Type 0) → PacedState → List Event → PacedState → Type 0
Path Passes old [] new = new ≡ old
Path Passes old (e ∷ es) new = (mid : PacedState) × Passes old e × DoesOn old.heap e mid.heap
    × (mid.counts ≡ counted old.counts e) × Path Passes mid es new

-- Words may be asked for if as many are left until a cycle has to begin and, while one is running, for the quanta that were
-- done. To ask for none is always allowed.
pub record MayAsk (v : PacedState) (words : ℕ) : Type 0 where
  pub cycle : 0 < words → v.counts.words + words ≤ v.counts.plan.cycle_words
  pub quanta : 0 < words → in_cycle v.heap.phase ≡ true
      → v.counts.words + words ≤ (v.counts.quanta + 1) * v.counts.plan.quantum_words

-- a command asks for no more words than may be asked for
abbrev pub KeepsPlan : PacedState → Event → Type 0
KeepsPlan v (Command_done m c reply) = MayAsk v (words_of (asks c))
KeepsPlan v e = Unit {0}

-- a command makes no object
abbrev pub MakesNothing : Command → Type 0
MakesNothing (commands.New dst shape) = ⊥
MakesNothing c = Unit {0}

-- some events lead from one state to another, and keep the plan
abbrev pub Paced : PacedState → PacedState → Type 0
Paced old new = (es : List Event) × Path KeepsPlan old es new

-- The collector works because a number of words may not be asked for yet. It begins a cycle, or spends a quantum of the pacer's
-- budget on the cycle that is running.
abbrev pub WorksFor : ℕ → PacedState → Event → Type 0
WorksFor words v Cycle_begun = MayAsk v words → ⊥
WorksFor words v (Quantum_done budget units phase) = (MayAsk v words → ⊥) × (budget ≡ v.counts.budget)
    × (v.heap.phase ≢ phases.Idle)
WorksFor words v e = ⊥

-- the figures, with the work before one more command
abbrev pub worked : Figures → List Event → Figures
worked f es = record {
  quanta = saturated (f.quanta + quanta_in es);
  cycles = saturated (f.cycles + cycles_in es);
  most_quanta = max f.most_quanta (saturated (quanta_in es));
}

-- each graph heap with which the heap agreed is one with which it agrees
abbrev pub KeepsAgreeing : HeapState → HeapState → Type 0
KeepsAgreeing old new = (g : Graph) → Agrees old g → Agrees new g

-- Words are paid for. The collector works until they may be asked for, and no longer. Its work is entered in the figures, and
-- its cycles and the words are counted. Each graph heap with which the heap agreed is one with which it agrees.
pub record Pays (old : PacedView) (words : ℕ) (new : PacedView) : Type 0 where
  pub work : List Event
  pub before : Counts
  pub works : Path (WorksFor words) (state_of old) work (record { heap = new.heap; counts = before })
  pub may : MayAsk (record { heap = new.heap; counts = before }) words
  pub counts : new.pacer.counts ≡ record before { words = before.words + words }
  pub figures : new.pacer.figures ≡ worked old.pacer.figures work
  pub cycles : CountsCycles old.heap old.cycles work new.heap new.cycles
  pub agrees : KeepsAgreeing old.heap new.heap

-- the words of the blocks that an object of a shape needs, or none if the shape is too large
abbrev pub shape_words : Shape → ℕ
shape_words shape = words_of (λ class. if fits shape then needed shape class else 0)

-- Words are paid for by work that a log has. If they are more than the plan has for a whole cycle, nothing is done.
abbrev pub PaysUnless : (List Event → Type 0) → PacedView → ℕ → Result (Unit {0}) AbovePlan → PacedView → Type 0
PaysUnless Logs old words (Err above) new = (old.pacer.counts.plan.cycle_words < words) × (new ≡ old) × Logs []
PaysUnless Logs old words (Ok paid) new = (words ≤ old.pacer.counts.plan.cycle_words) × (p : Pays old words new) × Logs p.work

-- If a command asks for more words than the plan has for a whole cycle, it is refused, and nothing is done. Any other is done
-- once its words were paid for, and gets its reply.
abbrev pub Calls : PacedView → ℕ → Command → Result Reply AbovePlan → PacedView → Type 0
Calls old m c (Err above) new = (old.pacer.counts.plan.cycle_words < words_of (asks c)) × (new ≡ old)
Calls old m c (Ok reply) new = (words_of (asks c) ≤ old.pacer.counts.plan.cycle_words) × (mid : PacedView)
    × Pays old (words_of (asks c)) mid × Steps mid.heap m c reply new.heap × (new.pacer ≡ mid.pacer)
    × (new.cycles ≡ mid.cycles)

-- the pacer has counted an event, and entered nothing in its figures
abbrev pub Counted : PacerView → Event → PacerView → Type 0
Counted old e new = new ≡ record old { counts = counted old.counts e }
