-- Calls leave a member at its heap.
use Rattle.std.proofs.Common.{◌≡◌, ℕ, refl, sym, subst}
use Rattle.std.specs.Prelude.{Option, Some, None, Result, Ok, Err, Bool, true, false}
use Rattle.graph_heap.specs.declared.command.Command.{Command}
use Rattle.graph_heap.specs.declared.command.Reply.{Reply}
use Rattle.heap_model.specs.Event.{Event}
use Rattle.heap_shared.specs.declared.fault.NoTurn.{NoTurn}
use Rattle.heap_shared.specs.declared.fault.NoTurn.TheVariants as turns
use Rattle.heap_shared.specs.declared.fault.NotDone.{NotDone}
use Rattle.heap_shared.specs.declared.fault.NotDone.TheVariants as undone
use Rattle.heap_shared.specs.Members.{MemberView, Enters, Leaves, Places, Calls, DoesIn, DoesInTurn, Adds}
use Rattle.heap_shared.specs.Ring.{Ringed}
use Rattle.metronome_c.specs.Sharing.{IsAtHeapOf}

-- a member that shows the same of its heap as another
as_shown : (old x new : MemberView) → new ≡ x → IsAtHeapOf old x → IsAtHeapOf old new
as_shown old x new is at = subst (IsAtHeapOf old) (sym is) at

still : (old new : MemberView) → new ≡ old → IsAtHeapOf old new
still old new is = as_shown old old new is (record { heap = refl; settings = refl; plan = refl; budget = refl })

-- each call leaves a member at its heap
pub entered : (old new : MemberView) (told : Result (Unit {0}) NoTurn) → Enters old told new → IsAtHeapOf old new
entered old new (Err turns.Inside) did = still old new did.1
entered old new (Err turns.Taken) did = still old new did.1
entered old new (Ok done) did = as_shown old _ new did.3 (record { heap = refl; settings = refl; plan = refl; budget = refl })

pub left : (old new : MemberView) (had : Bool) → Leaves old had new → IsAtHeapOf old new
left old new false did = still old new did.1
left old new true did = as_shown old _ new did.3 (record { heap = refl; settings = refl; plan = refl; budget = refl })

pub looked : (old new : MemberView) (told : Option ℕ) → Places old told new → IsAtHeapOf old new
looked old new None did = still old new did.1
looked old new (Some n) did = as_shown old _ new did.3 (record { heap = refl; settings = refl; plan = refl; budget = refl })

pub called : (old new : MemberView) (mutator : ℕ) (command : Command) (told : Result Reply NotDone) → Calls old mutator command told new → IsAtHeapOf old new
called old new mutator command (Err undone.Outside) did = still old new did.1
called old new mutator command (Err undone.NotYours) did = still old new did.2
called old new mutator command (Err undone.AbovePlan) did = still old new did.4
called old new mutator command (Ok reply) did = as_shown old _ new did.7 (record { heap = refl; settings = refl; plan = refl; budget = refl })

collected_in : (old new : MemberView) (done : Option Event) (turn : Option Ringed) → DoesIn turn (λ e. e) old done new → IsAtHeapOf old new
collected_in old new done None did = still old new did.1
collected_in old new done (Some r) did = as_shown old _ new did.4 (record { heap = refl; settings = refl; plan = refl; budget = refl })

pub collected : (old new : MemberView) (done : Option Event) → DoesInTurn (λ e. e) old done new → IsAtHeapOf old new
collected old new done did = collected_in old new done old.turn did

pub added : (old made new : MemberView) (from : ℕ) → Adds old from (Ok made) new → IsAtHeapOf old new × IsAtHeapOf old made
added old made new from did = (
  as_shown old _ new did.3 (record { heap = refl; settings = refl; plan = refl; budget = refl }),
  as_shown old _ made did.4 (record { heap = refl; settings = refl; plan = refl; budget = refl }),
)
