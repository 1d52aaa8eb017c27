-- The plan of a command, and the doing of a plan.
use Rattle.std.specs.Prelude.{◌≡◌, ◌≢◌, ◌⊎◌, ℕ, ◌^◌, ◌<◌, true, length, Result, Ok, Err}
use Rattle.graph_heap.specs.declared.command.Command.{Command}
use Rattle.graph_heap.specs.declared.command.Refusal.{Refusal}
use Rattle.graph_heap.specs.declared.command.Reply.{Reply}
use Rattle.graph_heap.specs.declared.command.Reply.TheVariants as replies
use Rattle.graph_heap.specs.declared.command.Change.{Change}
use Rattle.graph_heap.specs.declared.command.Change.TheVariants as changes
use Rattle.graph_heap.specs.Shape.{fits}
use Rattle.graph_heap.specs.Graph.{Graph, changed}
use Rattle.graph_heap.specs.Effect.{admitted_effect, settled, reply_of, next_of}
use Rattle.size_classes.specs.Need.{needed}
use Rattle.heap_model.specs.Pages.{has_room}
use Rattle.heap_model.specs.Agree.{IsMain}
use Rattle.heap_model.specs.Cut.{name_of}
use Rattle.heap_model.specs.State.{HeapState, seen}
use Rattle.heap_model.specs.Agreement.{Agrees}
use Rattle.heap_model.specs.Change.{DoesChange}
use Rattle.heap_model.specs.Written.{IsKnown}
use Rattle.heap_model.specs.Event.{room_for, change_by}
use Rattle.machine.specs.Reading.{IsRefPlace, IsWordPlace}
use Rattle.machine.specs.declared.plan.Planned.{Planned}
use Rattle.machine.specs.declared.plan.Target.{Target}
use Rattle.machine.specs.declared.plan.Target.TheVariants as targets
use Rattle.machine.specs.declared.plan.Write.{Write}
use Rattle.machine.specs.declared.plan.Write.TheVariants as writes

-- The write is that of a change of the graph heap. A root or a reference cell gets null or a known object, by the
-- reference of its main copy; a word cell gets the word; an object is made, with room for its parts; or an existing
-- mutator joins or leaves.
abbrev pub IsPlanned : HeapState → Graph → Change → Write → Type 0
IsPlanned h g c writes.Nothing = c ≡ changes.Nothing
IsPlanned h g c (writes.Root cell x) = (id : ℕ) × (c ≡ changes.Root cell id) × (cell < length h.roots) × IsKnown g id
    × IsMain (seen h) x (name_of id)
IsPlanned h g c (writes.Ref at x) = (id : ℕ) × (i : ℕ) × (value : ℕ) × (c ≡ changes.Ref id i value)
    × IsRefPlace h g id i at × IsKnown g value × IsMain (seen h) x (name_of value)
IsPlanned h g c (writes.Word at word) = (id : ℕ) × (i : ℕ) × (c ≡ changes.Word id i word) × IsWordPlace h g id i at
IsPlanned h g c (writes.New cell shape) = (c ≡ changes.New cell h.next shape) × (cell < length h.roots)
    × (h.next < 2 ^ 63) × (fits shape ≡ true) × (has_room h.store.pages (needed shape) ≡ true)
IsPlanned h g c (writes.Join m) = (c ≡ changes.Join m) × (m < h.limits.mutators)
IsPlanned h g c (writes.Leave m) = (c ≡ changes.Leave m) × (m < h.limits.mutators)

-- the plan of a command, by the reply and the change of the graph heap
abbrev pub PlansBy : HeapState → Graph → Result (Reply × Change) Refusal → Result Planned Refusal → Type 0
PlansBy h g done (Ok p) = (change : Change) × (done ≡ Ok (p.reply, change)) × IsPlanned h g change p.write
PlansBy h g done (Err e) = done ≡ Err e

-- the reply of a plan; a refusal is a reply
abbrev pub planned_reply : Result Planned Refusal → Reply
planned_reply (Ok p) = p.reply
planned_reply (Err e) = replies.Refused e

-- the write of a reference into a root or a reference cell
abbrev pub write_to : Target → ℕ → Write
write_to (targets.Root cell) x = writes.Root cell x
write_to (targets.Ref at) x = writes.Ref at x

-- the plan of a comparison: if the place holds the expected referent, the write is done; if not, the place keeps its
-- own
abbrev pub Compares : ℕ → ℕ → Write → Planned → Type 0
Compares referent expected write p = ((referent ≢ expected)
    × (p ≡ record { reply = replies.Kept referent; write = writes.Nothing }))
    ⊎ ((referent ≡ expected) × (p ≡ record { reply = replies.Stored; write = write }))

-- the plan of an admitted command, for each graph heap with which the heap agrees
abbrev pub IsPlan : HeapState → ℕ → Command → Result Planned Refusal → Type 0
IsPlan h m c result = (g : Graph) → Agrees h g → PlansBy h g (admitted_effect (room_for h c) g m c) result

-- for each graph heap with which the heap agrees, the plan is that of some command
abbrev pub CanCommit : HeapState → Result Planned Refusal → Type 0
CanCommit h planned = (g : Graph) → Agrees h g → (done : Result (Reply × Change) Refusal) × PlansBy h g done planned

-- The reply is that of the graph heap, and a refusal is a reply. The heap does the graph heap's change, and agrees
-- with the graph heap after it.
pub record Commits (h : HeapState) (g : Graph) (done : Result (Reply × Change) Refusal) (answer : Reply)
    (after : HeapState) : Type 0 where
  pub reply : answer ≡ (settled done).0
  pub change : DoesChange h g (settled done).1 after
  pub agrees : Agrees after (changed g (settled done).1)

-- the plan is committed for each graph heap for which it is the plan of some command
abbrev pub CommitsEach : HeapState → Result Planned Refusal → Reply → HeapState → Type 0
CommitsEach h planned reply after = (g : Graph) (done : Result (Reply × Change) Refusal) → Agrees h g
    → PlansBy h g done planned → Commits h g done reply after

-- for each graph heap with which the heap agrees, the write is that of some change
abbrev pub CanPerform : HeapState → Write → Type 0
CanPerform h w = (g : Graph) → Agrees h g → (change : Change) × IsPlanned h g change w

-- for each graph heap with which the heap agrees, the heap does each change of which the write is
abbrev pub DoesEach : HeapState → Write → HeapState → Type 0
DoesEach h w after = (g : Graph) (change : Change) → Agrees h g → IsPlanned h g change w → DoesChange h g change after

-- the contract of a command: for each graph heap with which the heap agrees, its reply, and the heap after it
pub record Steps (h : HeapState) (m : ℕ) (c : Command) (answer : Reply) (after : HeapState) : Type 0 where
  pub reply : (g : Graph) → Agrees h g → answer ≡ reply_of (room_for h c) g m c
  pub agrees : (g : Graph) → Agrees h g → Agrees after (next_of (room_for h c) g m c)
  pub does : (g : Graph) → Agrees h g → DoesChange h g (change_by (room_for h c) g m c) after
