-- Calls that do a list of commands, as C sees them.
use Rattle.std.specs.Prelude.{◌≡◌, ℕ, List, take, drop, Option, Some, None, Result, Ok, Err}
use Rattle.graph_heap.specs.declared.command.Command.{Command}
use Rattle.graph_heap.specs.declared.command.Refusal.{Refusal}
use Rattle.graph_heap.specs.declared.command.Refusal.TheVariants.{TooLarge}
use Rattle.bulk.specs.declared.progress.Progress.{Progress}
use Rattle.bulk.specs.InOrder.{DoesFront, DoesWith, words_told}
use Rattle.heap_shared.specs.Members.{MemberView, CallsList, ReadsList}
use Rattle.metronome_c.specs.declared.bulk_calls.MetronomeProgress.{MetronomeProgress}
use Rattle.metronome_c.specs.declared.held.Held.{Held}
use Rattle.metronome_c.specs.declared.own_heap.OwnHeap.{OwnHeap}
use Rattle.metronome_c.specs.declared.status.Status.{Status}
use Rattle.metronome_c.specs.declared.status.Status.TheVariants.{Done, Refused}
use Rattle.metronome_c.specs.Asking.{AsksHeap, AsksPaying, AsksMember, told_by}
use Rattle.metronome_c.specs.Either.{OnEither}
use Rattle.metronome_c.specs.OwnHeap.{OnHeap, AfterPaying}
use Rattle.metronome_c.specs.Status.{status_number, not_done_status}

-- the status of a list of which the next command was refused, or none was
abbrev pub next_status : Option Refusal → Status
next_status None = Done
next_status (Some why) = Refused why

-- how far a list was done, and the status of the next command; or why none of it was done
abbrev pub progress_told : Result Progress Status → MetronomeProgress
progress_told (Ok p) = record { done = p.done; status = status_number (next_status p.refused) }
progress_told (Err why) = record { done = 0; status = status_number why }

-- more than 252 cells are named, so nothing is done
abbrev pub too_many : MetronomeProgress
too_many = progress_told (Err (Refused TooLarge))

-- a list of commands is done so by a heap of its own, and how far is told
pub record ListTold (old : OwnHeap) (m : ℕ) (cs : List Command) (answer : Result Progress Status) (new : OwnHeap) : Type 0 where
  pub progress : Progress
  pub does : OnHeap (λ h p k. DoesFront h m cs p k) old progress new
  pub is : answer ≡ Ok progress

-- A list of commands of mutator m is done in order by the heap that is held, up to the first that is refused. C is told how far
-- it was done. Without a heap none is.
abbrev pub DoesList : Result OwnHeap Status → ℕ → List Command → Result OwnHeap Status → MetronomeProgress → Type 0
DoesList old m cs new told = (p : Result Progress Status) × AsksHeap (λ h p k. DoesFront h m cs p k) old p new
    × (told ≡ progress_told p)

-- such a list is done once `words` words were paid for, if a plan is kept, and how far is told
pub record MakesTold (old : OwnHeap) (words m : ℕ) (cs : List Command) (answer : Result Progress Status) (new : OwnHeap) : Type 0 where
  pub paid : AfterPaying words (λ h p k. DoesFront h m cs p k) old answer new

-- A list that makes an object is done so once `words` words were paid for, if a plan is kept. If they are more than the plan
-- has, none is done.
abbrev pub MakesList : Result OwnHeap Status → ℕ → ℕ → List Command → Result OwnHeap Status → MetronomeProgress → Type 0
MakesList old words m cs new told = (p : Result Progress Status)
    × AsksPaying words (λ h p k. DoesFront h m cs p k) old p new × (told ≡ progress_told p)

-- Words of an object of a heap of its own are read so. The words that were replied stand in front of those that C gave. The others
-- stay.
abbrev pub ReadsOwn : Result OwnHeap Status → ℕ → List Command → Result OwnHeap Status → List ℕ × List ℕ
    → Result Progress Status → Type 0
ReadsOwn old m cs new words p = AsksHeap (λ h p k. DoesWith h m cs (words_told (take p.done words.1)) p k) old p new
    × (drop (progress_told p).done words.1 ≡ drop (progress_told p).done words.0)

-- The front of a list of commands of one of a member's mutators is done in its turn, as far as C is told; or C is told why none is.
abbrev pub ListsMember : Result MemberView Status → ℕ → List Command → Result MemberView Status → MetronomeProgress → Type 0
ListsMember old m cs new told =
    AsksMember (λ s p k. CallsList s m cs p k) (told_by not_done_status) old new (λ p. told ≡ progress_told p)

-- words of an object of a shared heap are read so
abbrev pub ReadsMember : Result MemberView Status → ℕ → List Command → Result MemberView Status → List ℕ × List ℕ
    → Result Progress Status → Type 0
ReadsMember old m cs new words p =
    AsksMember (λ s a k. ReadsList s m cs words.1 a k) (told_by not_done_status) old new (λ found. p ≡ found)
    × (drop (progress_told p).done words.1 ≡ drop (progress_told p).done words.0)

-- a list of commands of a mutator is done by what a handle holds
abbrev pub DoesEach : Result Held Status → ℕ → List Command → Result Held Status → MetronomeProgress → Type 0
DoesEach old m cs new told = OnEither (λ h k. DoesList h m cs k told) (λ v w. ListsMember v m cs w told) old new

-- a list that makes an object of `words` words is done so
abbrev pub MakesEach : Result Held Status → ℕ → ℕ → List Command → Result Held Status → MetronomeProgress → Type 0
MakesEach old words m cs new told = OnEither (λ h k. MakesList h words m cs k told) (λ v w. ListsMember v m cs w told) old new

-- words are read so, and how far is told
abbrev pub ReadsWords : Result Held Status → ℕ → List Command → Result Held Status → List ℕ × List ℕ → Result Progress Status
    → Type 0
ReadsWords old m cs new words p = OnEither (λ h k. ReadsOwn h m cs k words p) (λ v w. ReadsMember v m cs w words p) old new

-- words are read so, and C is told how far
abbrev pub ReadsEach : Result Held Status → ℕ → List Command → Result Held Status → List ℕ × List ℕ → MetronomeProgress → Type 0
ReadsEach old m cs new words told = (p : Result Progress Status) × ReadsWords old m cs new words p × (told ≡ progress_told p)
