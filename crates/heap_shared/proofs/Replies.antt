-- The replies to commands that read or write a word, or clear a slot.
use Rattle.std.proofs.Common.{◌≡◌, ◌⊎◌, inl, inr, ℕ, Bool, refl, sym, subst}
use Rattle.std.specs.Prelude.{Result, Ok, Err, slice_index}
use Rattle.graph_heap.specs.declared.command.Change.{Change}
use Rattle.graph_heap.specs.declared.command.Command.{Command}
use Rattle.graph_heap.specs.declared.command.Command.TheVariants as commands
use Rattle.graph_heap.specs.declared.command.Refusal.{Refusal}
use Rattle.graph_heap.specs.declared.command.Reply.{Reply}
use Rattle.graph_heap.specs.declared.command.Reply.TheVariants as replies
use Rattle.graph_heap.specs.Effect.{◌>>=◌, settled, admitted, admitted_effect, reply_of, slot_at, word_at}
use Rattle.graph_heap.specs.Graph.{Graph}
use Rattle.heap_model.specs.Event.{Command_done}
use Rattle.heap_shared.specs.Ring.{Ringed, GoesBy}
use Rattle.heap_shared.specs.Lists.{by_shared}

-- a reply passes, or is a refusal
abbrev pub PassesOr : (Reply → Type 0) → Reply → Type 0
PassesOr Passes r = Passes r ⊎ ((why : Refusal) × (r ≡ replies.Refused why))

then_so : (Passes : Reply → Type 0) {A : Type 0} (a : Result A Refusal) (f : A → Result (Reply × Change) Refusal) → ((x : A) → PassesOr Passes (settled (f x)).0) → PassesOr Passes (settled (a >>= f)).0
then_so Passes (Ok x) f so = so x
then_so Passes (Err why) f so = inr (why, refl)

abbrev pub IsWord : Reply → Type 0
IsWord r = (w : ℕ) × (r ≡ replies.Word w)

abbrev pub IsDone : Reply → Type 0
IsDone r = r ≡ replies.Done

get_so : (room : Bool) (g : Graph) (m obj i : ℕ) → PassesOr IsWord (reply_of room g m (commands.Get obj i))
unfolding reply_of
get_so room g m obj i =
    then_so IsWord (admitted g m (commands.Get obj i)) (λ ok. admitted_effect room g m (commands.Get obj i)) (λ ok.
    then_so IsWord (slot_at g.limits m obj) _ (λ a. then_so IsWord (word_at g.objects (slice_index g.roots a) i) _ (λ v. inl (v, refl))))

put_so : (room : Bool) (g : Graph) (m obj i word : ℕ) → PassesOr IsDone (reply_of room g m (commands.Put obj i word))
unfolding reply_of
put_so room g m obj i word =
    then_so IsDone (admitted g m (commands.Put obj i word)) (λ ok. admitted_effect room g m (commands.Put obj i word)) (λ ok.
    then_so IsDone (slot_at g.limits m obj) _ (λ a. then_so IsDone (word_at g.objects (slice_index g.roots a) i) _ (λ v. inl refl)))

clear_so : (room : Bool) (g : Graph) (m dst : ℕ) → PassesOr IsDone (reply_of room g m (commands.Clear dst))
unfolding reply_of
clear_so room g m dst =
    then_so IsDone (admitted g m (commands.Clear dst)) (λ ok. admitted_effect room g m (commands.Clear dst)) (λ ok.
    then_so IsDone (slot_at g.limits m dst) _ (λ d. inl refl))

-- so it is at a shared heap
module _ (m : ℕ) (r k : Ringed) (reply : Reply) where
  pub got : (obj i : ℕ) → GoesBy r (Command_done m (commands.Get obj i) reply) k → PassesOr IsWord reply
  got obj i goes = subst (PassesOr IsWord) (sym goes.runs.1.replies) (get_so _ _ m obj i)

  pub put : (obj i word : ℕ) → GoesBy r (Command_done m (commands.Put obj i word) reply) k → PassesOr IsDone reply
  put obj i word goes = subst (PassesOr IsDone) (sym goes.runs.1.replies) (put_so _ _ m obj i word)

  pub cleared : (dst : ℕ) → GoesBy r (Command_done m (commands.Clear dst) reply) k → PassesOr IsDone reply
  cleared dst goes = subst (PassesOr IsDone) (sym goes.runs.1.replies) (clear_so _ _ m dst)

-- a reply that isn't a refusal passes
pub passes : (Passes : Reply → Type 0) (r : Reply) → PassesOr Passes r → ((why : Refusal) → r ≡ replies.Refused why → ⊥) → Passes r
passes Passes r (inl p) none = p
passes Passes r (inr refused) none = absurd (none refused.0 refused.1)

-- a command may be written another way, and its reply too
pub as_told : (m : ℕ) (r k : Ringed) (a b : Command) (p q : Reply) → a ≡ b → p ≡ q → by_shared m r a p k → by_shared m r b q k
as_told m r k a b p q same told w = subst (λ (x : Command). by_shared m r x q k) same (subst (λ (x : Reply). by_shared m r a x k) told w)
