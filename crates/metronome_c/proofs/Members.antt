-- Calls of the member that C holds.
use Rattle.std.proofs.Common.{◌≡◌, ◌∙◌, ℕ, ap, subst}
use Rattle.std.specs.Prelude.{Result, Ok, Err, IfOk, IfSome}
use Rattle.heap_shared.specs.Members.{MemberView, IsPromised}
use Rattle.metronome_c.specs.declared.held.Held.{Held}
use Rattle.metronome_c.specs.declared.held.Held.TheVariants as holds
use Rattle.metronome_c.specs.declared.own_heap.OwnHeap.{OwnHeap}
use Rattle.metronome_c.specs.declared.status.Status.{Status}
use Rattle.metronome_c.specs.Asking.{Asks, AsksMember, status_of}
use Rattle.metronome_c.specs.Either.{AsksEither, IsRefused, flat}
use Rattle.metronome_c.specs.Figures.{IsTold}
use Rattle.metronome_c.specs.Sharing.{KeepsPromises}
use Rattle.metronome_c.specs.Status.{status_number}

-- a member is asked, and C is told what is made of its answer
pub member_told : {A B : Type 0} (call : MemberView → A → MemberView → Type 0) (told : A → Result B Status) (Says : Result B Status → Type 0)
    → (answer : Result (Result B Status) Status) → Says (flat answer)
    → (v w : Result MemberView Status) → Asks (λ x a y. (t : A) × call x t y × (a ≡ told t)) v answer w → AsksMember call told v w Says
member_told {A} {B} call told Says answer says (Err why) w asks = (asks.1, subst Says (ap flat asks.0) says)
member_told {A} {B} call told Says answer says (Ok v) w asks = (asks.4.0, asks.1, asks.4.1, asks.3, subst Says (ap flat asks.2 ∙ asks.4.2) says)

-- what is held stays as it is, and C is told why
pub refused_so : {S B : Type 0} (why : Status) (answer : Result (Result B Status) Status) (n : ℕ) → n ≡ status_number (status_of (flat answer))
    → (h k : Result S Status) → Asks (λ x a y. (y ≡ x) × (a ≡ Err why)) h answer k → IsRefused why h k n
refused_so why answer n told (Err empty) k asks = (asks.1, told ∙ ap (λ x. status_number (status_of (flat x))) asks.0)
refused_so why answer n told (Ok h) k asks = (asks.3 ∙ ap Ok asks.4.0, told ∙ ap (λ x. status_number (status_of (flat x))) asks.2 ∙ ap (λ x. status_number (status_of x)) asks.4.1)

-- the same where C would be told a value
pub kept_so : {B : Type 0} (why : Status) (answer : Result (Result B Status) Status) (before after : B) (n : ℕ) → IsTold (flat answer) before after n
    → (h k : Result OwnHeap Status) → Asks (λ x a y. (y ≡ x) × (a ≡ Err why)) h answer k → IsRefused why h k n × (after ≡ before)
kept_so {B} why answer before after n told (Err empty) k asks =
    let now : IsTold (Err empty) before after n = subst (λ (x : Result B Status). IsTold x before after n) (ap flat asks.0) told in ((asks.1, now.1), now.0)
kept_so {B} why answer before after n told (Ok h) k asks =
    let now : IsTold (Err why) before after n = subst (λ (x : Result B Status). IsTold x before after n) (ap flat asks.2 ∙ asks.4.1) told in
    ((asks.3 ∙ ap Ok asks.4.0, now.1), now.0)

-- all that is promised of a shared heap holds, and nothing changes
pub promised : (call : OwnHeap → Unit {0} → OwnHeap → Type 0) (also : MemberView → Unit {0} → MemberView → Type 0)
    → (old : Result Held Status) (answer : Result (Unit {0}) Status) (new : Result Held Status)
    → ((h : OwnHeap) (a : Unit {0}) (k : OwnHeap) → call h a k → k ≡ h)
    → ((v : MemberView) (a : Unit {0}) (w : MemberView) → also v a w → (w ≡ v) × IfSome v.turn (IsPromised v))
    → AsksEither call also old answer new → (new ≡ old) × IfOk old KeepsPromises
promised call also (Err why) answer new so too asked = (asked.1, tt)
promised call also (Ok (holds.Own h)) answer new so too asked = (asked.3 ∙ ap (λ (x : OwnHeap). Ok (holds.Own x)) (so h asked.0 asked.1 asked.4), tt)
promised call also (Ok (holds.Shared v)) answer new so too asked =
    let met = too v asked.0 asked.1 asked.4 in (asked.3 ∙ ap (λ (x : MemberView). Ok (holds.Shared x)) met.0, met.1)
