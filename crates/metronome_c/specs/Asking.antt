-- Calls of a heap of its own, or of a member, that C holds.
use Rattle.std.specs.Prelude.{◌≡◌, ℕ, Option, Some, None, Result, Ok, Err}
use Rattle.graph_heap.specs.declared.command.Reply.{Reply}
use Rattle.heap_model.specs.State.{HeapState}
use Rattle.heap_shared.specs.Members.{MemberView}
use Rattle.metronome_c.specs.declared.answer.Answer.{Answer}
use Rattle.metronome_c.specs.declared.own_heap.OwnHeap.{OwnHeap}
use Rattle.metronome_c.specs.declared.status.Status.{Status}
use Rattle.metronome_c.specs.declared.status.Status.TheVariants.{Done}
use Rattle.metronome_c.specs.Answer.{answered}
use Rattle.metronome_c.specs.OwnHeap.{OnHeap, AfterPaying}
use Rattle.metronome_c.specs.Status.{status_number}

-- A call of what is held gives its answer, and what the call left is held. If nothing is held, the answer says why.
abbrev pub Asks : {S A : Type 0} → (S → A → S → Type 0) → Result S Status → Result A Status → Result S Status → Type 0
Asks call (Err why) answer new = (answer ≡ Err why) × (new ≡ Err why)
Asks {S} {A} call (Ok s) answer new = (a : A) × (k : S) × (answer ≡ Ok a) × (new ≡ Ok k) × call s a k

-- the heap that a handle holds is asked, and gives its answer
abbrev pub AsksHeap : {A : Type 0} → (HeapState → A → HeapState → Type 0) → Result OwnHeap Status → Result A Status
    → Result OwnHeap Status → Type 0
AsksHeap call old answer new = Asks (OnHeap call) old answer new

-- The heap is asked once `words` words were paid for, if a plan is kept. If nothing is held, the answer says why.
abbrev pub AsksPaying : {A : Type 0} → ℕ → (HeapState → A → HeapState → Type 0) → Result OwnHeap Status → Result A Status
    → Result OwnHeap Status → Type 0
AsksPaying words call (Err why) answer new = (answer ≡ Err why) × (new ≡ Err why)
AsksPaying words call (Ok h) answer new = (k : OwnHeap) × (new ≡ Ok k) × AfterPaying words call h answer k

-- a handle is asked for a reply, which C is told
abbrev pub AsksTold : (HeapState → Reply → HeapState → Type 0) → Result OwnHeap Status → Result OwnHeap Status
    → Answer → Type 0
AsksTold call old new told = (reply : Result Reply Status) × AsksHeap call old reply new × (told ≡ answered reply)

-- A call of the member that a handle holds, and its answer as C sees it: a value, or a status. If none is held, the status says
-- why.
abbrev pub AsksMember : {A B : Type 0} → (MemberView → A → MemberView → Type 0) → (A → Result B Status)
    → Result MemberView Status → Result MemberView Status → (Result B Status → Type 0) → Type 0
AsksMember call told (Err why) new Says = (new ≡ Err why) × Says (Err why)
AsksMember {A} call told (Ok s) new Says = (a : A) × (k : MemberView) × call s a k × (new ≡ Ok k) × Says (told a)

-- the status of success, or why there is none
abbrev pub status_of : {A : Type 0} → Result A Status → Status
status_of (Ok done) = Done
status_of (Err why) = why

-- such a call, where C is told the status of its answer
abbrev pub TellsStatus : {A B : Type 0} → (MemberView → A → MemberView → Type 0) → (A → Result B Status)
    → Result MemberView Status → Result MemberView Status → ℕ → Type 0
TellsStatus call told old new status = AsksMember call told old new (λ found. status ≡ status_number (status_of found))

-- what there is, or why there is nothing
abbrev pub told_or : {A : Type 0} → Status → Option A → Result A Status
told_or why (Some a) = Ok a
told_or why None = Err why

-- what was done, or the status of why it wasn't
abbrev pub told_by : {A E : Type 0} → (E → Status) → Result A E → Result A Status
told_by status (Ok a) = Ok a
told_by status (Err e) = Err (status e)
