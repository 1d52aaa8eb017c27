-- Calls of a handle that holds a heap of its own, or a member of a shared one.
use Rattle.std.specs.Prelude.{◌≡◌, ℕ, Bool, true, false, Option, Some, None, Result, Ok, Err, IfSome}
use Rattle.std.specs.Option.{option_map}
use Rattle.heap_model.specs.State.{HeapState}
use Rattle.heap_shared.specs.Members.{MemberView}
use Rattle.metronome_c.specs.declared.held.Held.{Held}
use Rattle.metronome_c.specs.declared.held.Held.TheVariants as holds
use Rattle.metronome_c.specs.declared.own_heap.OwnHeap.{OwnHeap}
use Rattle.metronome_c.specs.declared.status.Status.{Status}
use Rattle.metronome_c.specs.declared.status.Status.TheVariants.{Outside}
use Rattle.metronome_c.specs.Status.{status_number}

-- whether a heap of its own is held
abbrev pub holds_own : Option Held → Bool
holds_own (Some (holds.Own h)) = true
holds_own (Some (holds.Shared v)) = false
holds_own None = false

-- whether a member of a shared heap is held
abbrev pub holds_shared : Option Held → Bool
holds_shared (Some (holds.Own h)) = false
holds_shared (Some (holds.Shared v)) = true
holds_shared None = false

-- A call does one thing with a heap of its own, and another with a member of a shared heap. If neither is held, it does what the
-- one does then.
abbrev pub OnEither : (Result OwnHeap Status → Result OwnHeap Status → Type 0) → (Result MemberView Status → Result MemberView Status → Type 0)
    → Result Held Status → Result Held Status → Type 0
OnEither own shared (Err why) new = own (Err why) (Err why) × (new ≡ Err why)
OnEither own shared (Ok (holds.Own h)) new = (k : OwnHeap) × own (Ok h) (Ok k) × (new ≡ Ok (holds.Own k))
OnEither own shared (Ok (holds.Shared v)) new = (w : MemberView) × shared (Ok v) (Ok w) × (new ≡ Ok (holds.Shared w))

-- A heap of its own gives an answer to the one call, or a member to the other, and what the call left is held. If neither is held,
-- the answer says why.
abbrev pub AsksEither : {A : Type 0} → (OwnHeap → A → OwnHeap → Type 0) → (MemberView → A → MemberView → Type 0) → Result Held Status
    → Result A Status → Result Held Status → Type 0
AsksEither own shared (Err why) answer new = (answer ≡ Err why) × (new ≡ Err why)
AsksEither {A} own shared (Ok (holds.Own h)) answer new = (a : A) × (k : OwnHeap) × (answer ≡ Ok a) × (new ≡ Ok (holds.Own k)) × own h a k
AsksEither {A} own shared (Ok (holds.Shared v)) answer new =
    (a : A) × (w : MemberView) × (answer ≡ Ok a) × (new ≡ Ok (holds.Shared w)) × shared v a w

-- the heap that is held, if the handle has the turn: a heap of its own always is
abbrev pub heap_of : Held → Option HeapState
heap_of (holds.Own h) = Some h.heap
heap_of (holds.Shared v) = option_map (λ r. r.course.heap) v.turn

-- something is found of a heap, if there is one
abbrev pub LooksAt : {A : Type 0} → (HeapState → A → Type 0) → Option HeapState → Result A Status → Type 0
LooksAt look None answer = answer ≡ Err Outside
LooksAt {A} look (Some h) answer = (a : A) × (answer ≡ Ok a) × look h a

-- something is found of the heap that a handle holds, in its turn
abbrev pub Looks : {A : Type 0} → (HeapState → A → Type 0) → Result Held Status → Result A Status → Type 0
Looks look (Err why) answer = answer ≡ Err why
Looks look (Ok held) answer = LooksAt look (heap_of held) answer

-- something that holds of the heap that a handle holds, in its turn
abbrev pub ShowsHeap : (HeapState → Type 0) → Result Held Status → Type 0
ShowsHeap Holds (Err why) = Unit {0}
ShowsHeap Holds (Ok held) = IfSome (heap_of held) Holds

-- the answer of what was asked, or why nothing was
abbrev pub flat : {A : Type 0} → Result (Result A Status) Status → Result A Status
flat (Ok answer) = answer
flat (Err why) = Err why

-- what is found of what a handle holds, or why it holds nothing
abbrev pub found_of : {A : Type 0} → (Held → Result A Status) → Result Held Status → Result A Status
found_of find (Ok held) = find held
found_of find (Err why) = Err why

-- what is held stays as it is, and C is told why; or why nothing is held
abbrev pub IsRefused : {S : Type 0} → Status → Result S Status → Result S Status → ℕ → Type 0
IsRefused why (Err none) new status = (new ≡ Err none) × (status ≡ status_number none)
IsRefused why (Ok h) new status = (new ≡ Ok h) × (status ≡ status_number why)
