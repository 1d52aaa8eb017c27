-- The content of a handle: a heap of its own, a member of a shared one, or nothing.
use Rattle.std.proofs.Common.{◌≡◌, ◌==◌, ℕ, false, refl, sym, subst}
use Rattle.std.specs.Prelude.{Option, Some, None, Result, Ok, Err}
use Rattle.graph_heap.specs.declared.command.Command.{Command}
use Rattle.graph_heap.specs.declared.command.Command.TheVariants as commands
use Rattle.graph_heap.specs.declared.command.Reply.{Reply}
use Rattle.space.specs.Room.{asks}
use Rattle.fragmentation.specs.Flow.{words_of}
use Rattle.machine.specs.Plan as calls
use Rattle.paced.specs.Pacing.{MakesNothing}
use Rattle.heap_shared.specs.Members.{MemberView}
use Rattle.metronome_c.specs.declared.answer.Answer.{Answer}
use Rattle.metronome_c.specs.declared.held.Held.{Held}
use Rattle.metronome_c.specs.declared.held.Held.TheVariants as holds
use Rattle.metronome_c.specs.declared.own_heap.OwnHeap.{OwnHeap}
use Rattle.metronome_c.specs.declared.status.Status.{Status}
use Rattle.metronome_c.specs.Answer.{answered}
use Rattle.metronome_c.specs.Asking.{Asks}
use Rattle.metronome_c.specs.Commands.{Answers}
use Rattle.metronome_c.specs.Either.{holds_own, holds_shared, OnEither, AsksEither}
use Rattle.metronome_c.specs.Opened.{absence, held_by}
use Rattle.metronome_c.specs.OwnHeap.{AfterPaying}
use Rattle.metronome_c.specs.Sharing.{AnswersMember}
use Rattle.metronome_c.specs.Steps.{DoesCommand, Makes, Steps}
use Rattle.metronome_c.proofs.Holding.{IsTruth}

abbrev pub Own : Type 1
Own = Result OwnHeap Status → Result OwnHeap Status → Type 0

abbrev pub Shared : Type 1
Shared = Result MemberView Status → Result MemberView Status → Type 0

-- nothing is held
pub none_held : (own : Own) (shared : Shared) (check : ℕ) (old : Option Held) (why : Status) → holds_own old ≡ false → holds_shared old ≡ false → why ≡ absence (check == 0)
    → own (Err why) (Err why) → OnEither own shared (held_by check old) (held_by check old)
none_held own shared check (Some (holds.Own h)) why no_own no_shared is does = absurd (subst IsTruth no_own tt)
none_held own shared check (Some (holds.Shared v)) why no_own no_shared is does = absurd (subst IsTruth no_shared tt)
none_held own shared check None why no_own no_shared is does = (subst (λ (w : Status). own (Err w) (Err w)) is does, refl)

-- a heap of its own is held, and then it is left so
pub own_held : (own : Own) (shared : Shared) (check : ℕ) (old : Option Held) (h k : OwnHeap) → old ≡ Some (holds.Own h)
    → own (Ok h) (Ok k) → OnEither own shared (held_by check old) (Ok (holds.Own k))
own_held own shared check old h k is does = subst (λ (o : Option Held). OnEither own shared (held_by check o) (Ok (holds.Own k))) (sym is) (k, does, refl)

-- what each call says, said of the call that was made
pub either_so : (own Own' : Own) (shared Shared' : Shared) → ((h k : Result OwnHeap Status) → own h k → Own' h k) → ((v w : Result MemberView Status) → shared v w → Shared' v w)
    → (old new : Result Held Status) → OnEither own shared old new → OnEither Own' Shared' old new
either_so own Own' shared Shared' so also (Err why) new does = (so (Err why) (Err why) does.0, does.1)
either_so own Own' shared Shared' so also (Ok (holds.Own h)) new does = (does.0, so (Ok h) (Ok does.0) does.1, does.2)
either_so own Own' shared Shared' so also (Ok (holds.Shared v)) new does = (does.0, also (Ok v) (Ok does.0) does.1, does.2)

-- what was asked of either, said of a heap of its own and of a member
pub asked_either : {A : Type 0} (call : OwnHeap → A → OwnHeap → Type 0) (also : MemberView → A → MemberView → Type 0) (own : Own) (shared : Shared)
    → (old : Result Held Status) (answer : Result A Status) (new : Result Held Status)
    → ((h k : Result OwnHeap Status) → Asks call h answer k → own h k) → ((v w : Result MemberView Status) → Asks also v answer w → shared v w)
    → AsksEither call also old answer new → OnEither own shared old new
asked_either call also own shared (Err why) answer new so too asked = (so (Err why) (Err why) (asked.0, refl), asked.1)
asked_either call also own shared (Ok (holds.Own h)) answer new so too asked = (asked.1, so (Ok h) (Ok asked.1) (asked.0, asked.1, asked.2, refl, asked.4), asked.3)
asked_either call also own shared (Ok (holds.Shared v)) answer new so too asked =
    (asked.1, too (Ok v) (Ok asked.1) (asked.0, asked.1, asked.2, refl, asked.4), asked.3)

-- a command is done by the heap of its own, or an object is made after its words were paid for
pub own_answers : (m : ℕ) (c : Command) (check : ℕ) (old : Option Held) (h k : OwnHeap) (a : Answer) → old ≡ Some (holds.Own h)
    → DoesCommand (Ok h) m c (Ok k) a → Answers (held_by check old) m c (Ok (holds.Own k)) a
own_answers m c check old h k a is does = own_held (λ x y. DoesCommand x m c y a) (λ v w. AnswersMember v m c w a) check old h k is does

-- a command that makes no object is a step
does_step : (m : ℕ) (c : Command) (old new : Result OwnHeap Status) (a : Answer) → MakesNothing c → Steps old m c new a → DoesCommand old m c new a
does_step m (commands.New dst shape) old new a none does = absurd none
does_step m (commands.Load dst obj i) old new a none does = does
does_step m (commands.Store obj i src) old new a none does = does
does_step m (commands.CompareStore obj i expect rep) old new a none does = does
does_step m (commands.Get obj i) old new a none does = does
does_step m (commands.Put obj i word) old new a none does = does
does_step m (commands.ComparePut obj i was rep) old new a none does = does
does_step m (commands.Copy dst src) old new a none does = does
does_step m (commands.Clear dst) old new a none does = does
does_step m (commands.LoadStatic dst k) old new a none does = does
does_step m (commands.StoreStatic k src) old new a none does = does
does_step m (commands.CompareStatic k expect rep) old new a none does = does
does_step m (commands.Same x y) old new a none does = does
does_step m (commands.Describe x) old new a none does = does
does_step m commands.Join old new a none does = does
does_step m commands.Leave old new a none does = does

-- the heap's method for a command that makes no object was called
pub steps_own : (m : ℕ) (c : Command) (h k : OwnHeap) (r : Reply) (a : Answer) → MakesNothing c → k ≡ record h { heap = k.heap } → calls.Steps h.heap m c r k.heap → a ≡ answered (Ok r) → DoesCommand (Ok h) m c (Ok k) a
steps_own m c h k r a none only does told = does_step m c (Ok h) (Ok k) a none (Ok r, (r, k, refl, refl, (only, does)), told)

-- words were paid for first
pub makes_own : (m : ℕ) (c : Command) (h k : OwnHeap) (r : Result Reply Status) (a : Answer) → AfterPaying (words_of (asks c)) (λ x y z. calls.Steps x m c y z) h r k → a ≡ answered r → Makes (Ok h) m c (Ok k) a
makes_own m c h k r a paid told = (r, (k, refl, paid), told)

-- the heap of its own gives what was asked of it
pub own_asked : {A : Type 0} (call : OwnHeap → A → OwnHeap → Type 0) (also : MemberView → A → MemberView → Type 0) (check : ℕ) (old : Option Held) (h k : OwnHeap) (a : A)
    → old ≡ Some (holds.Own h) → call h a k → AsksEither call also (held_by check old) (Ok a) (Ok (holds.Own k))
own_asked {A} call also check old h k a is met =
    subst (λ (o : Option Held). AsksEither call also (held_by check o) (Ok a) (Ok (holds.Own k))) (sym is) (a, k, refl, refl, met)
