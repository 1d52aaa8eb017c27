-- Commands on the heap that C holds.
use Rattle.std.specs.Prelude.{◌≡◌, ℕ, Result, Ok, Err}
use Rattle.graph_heap.specs.Graph.{Graph}
use Rattle.graph_heap.specs.declared.command.Command.{Command}
use Rattle.graph_heap.specs.declared.command.Command.TheVariants as commands
use Rattle.graph_heap.specs.declared.command.Reply.{Reply}
use Rattle.graph_heap.specs.Effect.{reply_of}
use Rattle.heap_model.specs.State.{HeapState}
use Rattle.heap_model.specs.Agreement.{Agrees}
use Rattle.heap_model.specs.Event.{room_for}
use Rattle.space.specs.Room.{asks}
use Rattle.fragmentation.specs.Flow.{words_of}
use Rattle.machine.specs.Plan as calls
use Rattle.metronome_c.specs.declared.answer.Answer.{Answer}
use Rattle.metronome_c.specs.declared.answer.MetronomeShape.{MetronomeShape}
use Rattle.metronome_c.specs.declared.own_heap.OwnHeap.{OwnHeap}
use Rattle.metronome_c.specs.declared.status.Status.{Status}
use Rattle.metronome_c.specs.Answer.{answered, shape_in}
use Rattle.metronome_c.specs.Asking.{AsksTold, AsksPaying}
use Rattle.metronome_c.specs.OwnHeap.{OnHeap}

-- A command is a step of the heap, as the heap's method for it says, and the answer tells its reply. Without a heap there is
-- none, and the answer says why.
abbrev pub Steps : Result OwnHeap Status → ℕ → Command → Result OwnHeap Status → Answer → Type 0
Steps old m c new a = AsksTold (λ h r k. calls.Steps h m c r k) old new a

-- A command that makes an object is such a step once its words were paid for, if a plan is kept. If they are more than the plan
-- has for a whole cycle, the answer says so, and nothing is done.
abbrev pub Makes : Result OwnHeap Status → ℕ → Command → Result OwnHeap Status → Answer → Type 0
Makes old m c new a = (reply : Result Reply Status)
    × AsksPaying (words_of (asks c)) (λ h r k. calls.Steps h m c r k) old reply new × (a ≡ answered reply)

-- a command is such a step of a heap of its own, and its reply is told
pub record StepsTold (old : OwnHeap) (m : ℕ) (c : Command) (answer : Result Reply Status) (new : OwnHeap) : Type 0 where
  pub reply : Reply
  pub does : OnHeap (λ h r k. calls.Steps h m c r k) old reply new
  pub is : answer ≡ Ok reply

-- a command, whether it makes an object or not
abbrev pub DoesCommand : Result OwnHeap Status → ℕ → Command → Result OwnHeap Status → Answer → Type 0
DoesCommand old m (commands.New dst shape) new a = Makes old m (commands.New dst shape) new a
DoesCommand old m c new a = Steps old m c new a

-- the graph heap's reply to a command, with the room that there is
abbrev pub reply_to : HeapState → Graph → ℕ → Command → Reply
reply_to h g m c = reply_of (room_for h c) g m c

-- The shape that Describe tells, or the one from before if it is refused.
abbrev pub TellsShape : Result OwnHeap Status → ℕ → Command → MetronomeShape → MetronomeShape → Type 0
TellsShape (Err why) m c before after = after ≡ before
TellsShape (Ok h) m c before after = (g : Graph) → Agrees h.heap g → after ≡ shape_in before (reply_to h.heap g m c)
