-- Runs of commands: one for each of some words of an object that stand in one part, or for each of some slots.
use Rattle.std.specs.Prelude.{◌≡◌, ℕ, zero, suc, ◌+◌, ◌-◌, ◌%◌, ◌^◌, ◌<◌, ◌≤◌, Bool, true, false, List, min, slice_index, Result, Ok, Err}
use Rattle.graph_heap.specs.declared.command.Command.{Command}
use Rattle.graph_heap.specs.declared.command.Limits.{Limits}
use Rattle.graph_heap.specs.declared.command.Refusal.{Refusal}
use Rattle.graph_heap.specs.declared.command.Reply.{Reply}
use Rattle.graph_heap.specs.declared.command.Reply.TheVariants as replies
use Rattle.graph_heap.specs.declared.command.Shape.{Shape}
use Rattle.graph_heap.specs.Shape.{word_cells, takes_words}
use Rattle.graph_heap.specs.Graph.{Graph, object_of}
use Rattle.graph_heap.specs.Effect.{◌>>=◌, admitted_to, slot_at, word_at}
use Rattle.graph_heap.specs.Reach.{Reaches}
use Rattle.size_classes.specs.declared.parts.TheConstants.{PART_CELLS}
use Rattle.heap_model.specs.State.{HeapState}
use Rattle.heap_model.specs.Agreement.{Agrees}
use Rattle.arraylets.specs.declared.cells.Cell.{Cell}
use Rattle.machine.specs.declared.plan.Run.{Run}
use Rattle.machine.specs.Plan.{Steps}
use Rattle.machine.specs.Reading.{IsWordCell}

-- the number of words in one part from word cell i on, in an object of a shape
abbrev pub words_from : Shape → ℕ → ℕ
words_from shape i = min (word_cells shape - i) (PART_CELLS - i % PART_CELLS)

-- the number of words in one part from word cell i on, in the object in a slot of mutator m; or the refusal to read
-- cell i
abbrev pub word_run : Graph → ℕ → ℕ → ℕ → Result ℕ Refusal
word_run g m obj i = do
  ok ← admitted_to g.limits g.live m false
  root ← slot_at g.limits m obj
  word ← word_at g.objects (slice_index g.roots root) i
  Ok (words_from (object_of g.objects (slice_index g.roots root)).shape i)

-- the number of slots of mutator m from slot `first` on, or the refusal to clear that slot
abbrev pub slot_run : Limits → List Bool → ℕ → ℕ → Result ℕ Refusal
slot_run limits live m first = do
  ok ← admitted_to limits live m false
  root ← slot_at limits m first
  Ok (limits.slots - first)

-- the length of a run, cut to `most`
abbrev pub at_most : ℕ → Result ℕ Refusal → Result ℕ Refusal
at_most most run = run >>= λ n. Ok (min most n)

-- n commands of mutator m were done one after the other: each is a step of the heap that the one before left, with
-- its reply
abbrev pub StepsEach : HeapState → ℕ → (ℕ → Command) → (ℕ → Reply) → ℕ → HeapState → Type 0
StepsEach h m c r zero after = after ≡ h
StepsEach h m c r (suc n) after = (next : HeapState) × StepsEach h m c r n next × Steps next m (c n) (r n) after

-- n commands of a run were done, or the first was refused
abbrev pub DoesRun : HeapState → ℕ → (ℕ → Command) → (ℕ → Reply) → Result ℕ Refusal → HeapState → Type 0
DoesRun h m c r (Ok n) after = StepsEach h m c r n after
DoesRun h m c r (Err why) after = Steps h m (c 0) (replies.Refused why) after

-- the number of commands of a run that were done
abbrev pub done_in : Result ℕ Refusal → ℕ
done_in (Ok n) = n
done_in (Err why) = 0

-- The count of a run that wasn't refused: at most as many as wanted, and at least one if any were wanted. All cell
-- numbers fit in 32 bits.
abbrev pub FitsRun : ℕ → ℕ → ℕ → Type 0
FitsRun first most n = (n ≤ most) × (0 < most → 0 < n) × (first + n < 2 ^ 32)

-- the cell that stands j cells after another in its block
abbrev pub cell_behind : Cell → ℕ → Cell
cell_behind at j = record { block = at.block; index = at.index + j }

-- words of a reachable object stand in a row, from word cell `first` on
pub record IsWordRow (h : HeapState) (g : Graph) (id first : ℕ) (run : Run) : Type 0 where
  pub reaches : Reaches g id
  pub takes : takes_words (object_of g.objects id).shape ≡ true
  pub cells : (j : ℕ) → j < run.count
      → IsWordCell h (object_of g.objects id) id (first + j) (cell_behind run.at j)

-- mutator m may ask for words of the object in slot obj, and they stand in a row
pub record HasRun (h : HeapState) (m obj first : ℕ) (run : Run) : Type 0 where
  pub admitted : admitted_to h.limits h.live m false ≡ Ok tt
  pub root : ℕ
  pub place : Ok root ≡ slot_at h.limits m obj
  pub row : (g : Graph) → Agrees h g → IsWordRow h g (slice_index g.roots root) first run
  pub numbers : first + run.count < 2 ^ 32
  pub small : run.at.index + run.count < 2 ^ 32
  pub some : 0 < run.count

-- the length of a run that was found
abbrev pub counted : Result Run Refusal → Result ℕ Refusal
counted found = found >>= λ run. Ok run.count
