-- A slot is checked by what the heap would answer.
use Rattle.std.proofs.Common.{◌≡◌, ◌∙◌, ℕ, Bool, true, false, refl, ap, sym, subst}
use Rattle.std.specs.Prelude.{nat_lt, if◌then◌else◌, slice_index_or, Option, Some, None, Result, Ok, Err}
use Rattle.graph_heap.specs.Graph.{Graph}
use Rattle.graph_heap.specs.declared.command.Change.TheVariants as changes
use Rattle.graph_heap.specs.declared.command.Command.TheVariants as commands
use Rattle.graph_heap.specs.declared.command.Refusal.TheVariants as refusals
use Rattle.graph_heap.specs.declared.command.Reply.{Reply}
use Rattle.graph_heap.specs.declared.command.Reply.TheVariants as replies
use Rattle.graph_heap.specs.Effect.{◌>>=◌, reply_of, admits, settled}
use Rattle.heap_model.specs.State.{HeapState}
use Rattle.heap_model.specs.Agreement.{Agrees}
use Rattle.metronome_c.specs.declared.held.Held.{Held}
use Rattle.metronome_c.specs.declared.status.Status.{Status}
use Rattle.metronome_c.specs.declared.status.Status.TheVariants.{NoMutator}
use Rattle.metronome_c.specs.Checking.{is_bad_slot, reply_status, slot_status, TellsSlot, ChecksSlot}
use Rattle.metronome_c.specs.Either.{heap_of, LooksAt, Looks}
use Rattle.metronome_c.specs.Status.{status_number}
use Rattle.metronome_c.specs.Steps.{reply_to}

abbrev checked_status : Result Status Status → ℕ
checked_status (Ok status) = status_number status
checked_status (Err why) = status_number why

checks_at : (m slot : ℕ) (look : HeapState → Status → Type 0) (heap : Option HeapState) (found : Result Status Status) (n : ℕ)
    → ((h : HeapState) (a : Status) → look h a → (g : Graph) → Agrees h g → a ≡ slot_status h g m slot)
    → LooksAt look heap found → n ≡ checked_status found → TellsSlot heap m slot n
checks_at m slot look None found n so looks told = told ∙ ap checked_status looks
checks_at m slot look (Some h) found n so looks told = λ g agrees. told ∙ ap checked_status looks.1 ∙ ap status_number (so h looks.0 looks.2 g agrees)

-- the status that each look finds, told
pub checks_slot : (m slot : ℕ) (look : HeapState → Status → Type 0) (old new : Result Held Status) (found : Result Status Status) (n : ℕ)
    → ((h : HeapState) (a : Status) → look h a → (g : Graph) → Agrees h g → a ≡ slot_status h g m slot)
    → new ≡ old → Looks look old found → n ≡ checked_status found → ChecksSlot old m slot new n
checks_slot m slot look (Err why) new found n so same looks told = (same, told ∙ ap checked_status looks)
checks_slot m slot look (Ok held) new found n so same looks told = (same, checks_at m slot look (heap_of held) found n so looks told)

-- the reply to a join, by whether there is such a mutator, and whether it is live
abbrev joined : ℕ → Bool → Bool → Reply
joined m there live = (settled ((if there then admits live true else Err refusals.BadSlot) >>= λ ok. Ok (replies.Done, changes.Join m))).0

not_there : (m : ℕ) (there live : Bool) → is_bad_slot (joined m there live) ≡ true → there ≡ false
not_there m false live is = refl
not_there m true true is = sym is
not_there m true false is = sym is

is_there : (m : ℕ) (there live : Bool) → is_bad_slot (joined m there live) ≡ false → there ≡ true
is_there m true live is = refl
is_there m false live is = sym is

module _ (h : HeapState) (g : Graph) (m slot : ℕ) where
  -- a join that is refused as of no such slot is of no mutator
  pub no_mutator : (r : Reply) → r ≡ reply_to h g m commands.Join → is_bad_slot r ≡ true → NoMutator ≡ slot_status h g m slot
  unfolding reply_of
  no_mutator r joins is =
      subst (λ (there : Bool). NoMutator ≡ (if there then reply_status (reply_to h g m (commands.Clear slot)) else NoMutator))
      (sym (not_there m (nat_lt m g.limits.mutators) (slice_index_or g.live m false) (subst (λ (q : Reply). is_bad_slot q ≡ true) joins is))) refl

  -- any other is of a mutator that is there
  pub a_mutator : (r s : Reply) (found : Status) → r ≡ reply_to h g m commands.Join → is_bad_slot r ≡ false
      → s ≡ reply_to h g m (commands.Clear slot) → found ≡ reply_status s → found ≡ slot_status h g m slot
  unfolding reply_of
  a_mutator r s found joins is clears told =
      told ∙ ap reply_status clears
      ∙ subst (λ (there : Bool). reply_status (reply_to h g m (commands.Clear slot)) ≡ (if there then reply_status (reply_to h g m (commands.Clear slot)) else NoMutator))
      (sym (is_there m (nat_lt m g.limits.mutators) (slice_index_or g.live m false) (subst (λ (q : Reply). is_bad_slot q ≡ false) joins is))) refl
