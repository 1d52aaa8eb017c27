-- Whether a mutator and its slot are there.
use Rattle.std.specs.Prelude.{◌≡◌, ℕ, Bool, true, false, nat_lt, if◌then◌else◌, Option, Some, None, Result, Ok, Err}
use Rattle.graph_heap.specs.Graph.{Graph}
use Rattle.graph_heap.specs.declared.command.Command.TheVariants as commands
use Rattle.graph_heap.specs.declared.command.Refusal.TheVariants.{BadSlot}
use Rattle.graph_heap.specs.declared.command.Reply.{Reply}
use Rattle.graph_heap.specs.declared.command.Reply.TheVariants as replies
use Rattle.heap_model.specs.State.{HeapState}
use Rattle.heap_model.specs.Agreement.{Agrees}
use Rattle.metronome_c.specs.declared.held.Held.{Held}
use Rattle.metronome_c.specs.declared.status.Status.{Status}
use Rattle.metronome_c.specs.declared.status.Status.TheVariants.{Done, Refused, NoMutator, Outside}
use Rattle.metronome_c.specs.Status.{status_number}
use Rattle.metronome_c.specs.Either.{heap_of}
use Rattle.metronome_c.specs.Steps.{reply_to}

-- the reply to a command that names a mutator or a slot that isn't there
abbrev pub is_bad_slot : Reply → Bool
is_bad_slot (replies.Refused BadSlot) = true
is_bad_slot _ = false

-- the status of a reply: that of its refusal, else done
abbrev pub reply_status : Reply → Status
reply_status (replies.Refused refusal) = Refused refusal
reply_status _ = Done

-- The status of a slot of a mutator: that of the reply to the command which clears it. If there is no such mutator, the status
-- says so.
abbrev pub slot_status : HeapState → Graph → ℕ → ℕ → Status
slot_status h g m slot =
    if nat_lt m g.limits.mutators then reply_status (reply_to h g m (commands.Clear slot)) else NoMutator

-- the status of a slot is told, for each graph heap with which the heap agrees; or that the handle doesn't have the turn
abbrev pub TellsSlot : Option HeapState → ℕ → ℕ → ℕ → Type 0
TellsSlot None m slot status = status ≡ status_number Outside
TellsSlot (Some h) m slot status = (g : Graph) → Agrees h g → status ≡ status_number (slot_status h g m slot)

-- C is told the status of a slot of the heap that a handle holds, in its turn, or why it holds none. Nothing changes.
abbrev pub ChecksSlot : Result Held Status → ℕ → ℕ → Result Held Status → ℕ → Type 0
ChecksSlot (Err why) m slot new status = (new ≡ Err why) × (status ≡ status_number why)
ChecksSlot (Ok held) m slot new status = (new ≡ Ok held) × TellsSlot (heap_of held) m slot status
