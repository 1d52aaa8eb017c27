-- What C is told of the heap that it holds.
use Rattle.std.proofs.Common.{◌≡◌, ◌∙◌, ℕ, sym, ap, subst}
use Rattle.std.specs.Prelude.{Option, Some, None, Result, Ok, Err, IfSome}
use Rattle.std.specs.Option.{option_map}
use Rattle.heap_model.specs.State.{HeapState}
use Rattle.heap_shared.specs.Members.{MemberView, FindsIn}
use Rattle.heap_shared.specs.Ring.{Ringed}
use Rattle.metronome_c.specs.declared.held.Held.{Held}
use Rattle.metronome_c.specs.declared.held.Held.TheVariants as holds
use Rattle.metronome_c.specs.declared.own_heap.OwnHeap.{OwnHeap}
use Rattle.metronome_c.specs.declared.status.Status.{Status}
use Rattle.metronome_c.specs.declared.status.Status.TheVariants.{Outside}
use Rattle.metronome_c.specs.Asking.{told_or}
use Rattle.metronome_c.specs.Either.{AsksEither, heap_of, LooksAt, Looks, ShowsHeap, flat, found_of}
use Rattle.metronome_c.specs.Figures.{IsTold, TellsFound, seen, Tells}

looked_at : {A : Type 0} (figure : HeapState → A) (look : HeapState → A → Type 0) (heap : Option HeapState) (answer : Result A Status)
    → ((h : HeapState) (a : A) → look h a → a ≡ figure h) → LooksAt look heap answer → answer ≡ told_or Outside (option_map figure heap)
looked_at figure look None answer so found = found
looked_at figure look (Some h) answer so found = found.1 ∙ ap Ok (so h found.0 found.2)

looked : {A : Type 0} (figure : HeapState → A) (look : HeapState → A → Type 0) (old : Result Held Status) (answer : Result A Status)
    → ((h : HeapState) (a : A) → look h a → a ≡ figure h) → Looks look old answer → answer ≡ found_of (seen figure) old
looked figure look (Err why) answer so found = found
looked figure look (Ok held) answer so found = looked_at figure look (heap_of held) answer so found

-- what each look finds, told
pub tells : {A : Type 0} (figure : HeapState → A) (look : HeapState → A → Type 0) (old new : Result Held Status) (answer : Result A Status) (values : A × A) (status : ℕ)
    → ((h : HeapState) (a : A) → look h a → a ≡ figure h) → new ≡ old → Looks look old answer → IsTold answer values.0 values.1 status → Tells figure old new values status
tells {A} figure look old new answer values status so same found told =
    (same, subst (λ (x : Result A Status). IsTold x values.0 values.1 status) (looked figure look old answer so found) told)

shows_at : {A : Type 0} (Holds : HeapState → Type 0) (look : HeapState → A → Type 0) (heap : Option HeapState) (answer : Result A Status)
    → ((h : HeapState) (a : A) → look h a → Holds h) → LooksAt look heap answer → IfSome heap Holds
shows_at Holds look None answer so found = tt
shows_at Holds look (Some h) answer so found = so h found.0 found.2

-- what each look shows of a heap
pub shows : {A : Type 0} (Holds : HeapState → Type 0) (look : HeapState → A → Type 0) (old : Result Held Status) (answer : Result A Status)
    → ((h : HeapState) (a : A) → look h a → Holds h) → Looks look old answer → ShowsHeap Holds old
shows Holds look (Err why) answer so found = tt
shows Holds look (Ok held) answer so found = shows_at Holds look (heap_of held) answer so found

-- what is found of either, told
pub finds : {A : Type 0} (find : Held → Result A Status) (call : OwnHeap → Result A Status → OwnHeap → Type 0) (also : MemberView → Result A Status → MemberView → Type 0)
    → (old : Result Held Status) (answer : Result (Result A Status) Status) (new : Result Held Status) (values : A × A) (status : ℕ)
    → ((h : OwnHeap) (a : Result A Status) (k : OwnHeap) → call h a k → (k ≡ h) × (a ≡ find (holds.Own h)))
    → ((v : MemberView) (a : Result A Status) (w : MemberView) → also v a w → (w ≡ v) × (a ≡ find (holds.Shared v)))
    → AsksEither call also old answer new → IsTold (flat answer) values.0 values.1 status → TellsFound find old new values status
finds {A} find call also (Err why) answer new values status so too asked told =
    (asked.1, subst (λ (x : Result A Status). IsTold x values.0 values.1 status) (ap flat asked.0) told)
finds {A} find call also (Ok (holds.Own h)) answer new values status so too asked told =
    let met = so h asked.0 asked.1 asked.4 in
    (asked.3 ∙ ap (λ (x : OwnHeap). Ok (holds.Own x)) met.0, subst (λ (x : Result A Status). IsTold x values.0 values.1 status) (ap flat asked.2 ∙ met.1) told)
finds {A} find call also (Ok (holds.Shared v)) answer new values status so too asked told =
    let met = too v asked.0 asked.1 asked.4 in
    (asked.3 ∙ ap (λ (x : MemberView). Ok (holds.Shared x)) met.0, subst (λ (x : Result A Status). IsTold x values.0 values.1 status) (ap flat asked.2 ∙ met.1) told)

-- a figure that a member finds in its turn
pub found_in_turn : {A : Type 0} (figure : Ringed → A) (v : MemberView) (told : Option A) (w : MemberView) → FindsIn (λ r a. a ≡ figure r) v told w
    → (w ≡ v) × (told ≡ option_map figure v.turn)
found_in_turn figure v None w found = (found.1, sym (ap (option_map figure) found.0))
found_in_turn figure v (Some a) w found = (found.3, ap Some found.2 ∙ sym (ap (option_map figure) found.1))
