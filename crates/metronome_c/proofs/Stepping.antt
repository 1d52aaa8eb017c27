-- A command was done by the heap that C holds.
use Rattle.std.proofs.Common.{◌≡◌, ◌∙◌, ℕ, ap}
use Rattle.std.specs.Prelude.{Result, Ok, Err}
use Rattle.graph_heap.specs.declared.command.Command.{Command}
use Rattle.graph_heap.specs.declared.command.Reply.{Reply}
use Rattle.space.specs.Room.{asks}
use Rattle.fragmentation.specs.Flow.{words_of}
use Rattle.metronome_c.specs.declared.answer.Answer.{Answer}
use Rattle.metronome_c.specs.declared.own_heap.OwnHeap.{OwnHeap}
use Rattle.metronome_c.specs.declared.status.Status.{Status}
use Rattle.metronome_c.specs.declared.answer.MetronomeShape.{MetronomeShape}
use Rattle.metronome_c.specs.Answer.{answered, shape_in, shape_told}
use Rattle.machine.specs.Plan as calls
use Rattle.metronome_c.specs.Asking.{Asks, AsksHeap, AsksPaying}
use Rattle.metronome_c.specs.Either.{flat}
use Rattle.metronome_c.specs.Steps.{Steps, StepsTold, Makes, TellsShape}

pub steps : (m : ℕ) (c : Command) (old : Result OwnHeap Status) (reply : Result Reply Status) (new : Result OwnHeap Status) (a : Answer)
    → AsksHeap (λ h r k. calls.Steps h m c r k) old reply new → a ≡ answered reply → Steps old m c new a
steps m c old reply new a asks told = (reply, asks, told)

pub makes : (m : ℕ) (c : Command) (old : Result OwnHeap Status) (reply : Result Reply Status) (new : Result OwnHeap Status) (a : Answer)
    → AsksPaying (words_of (asks c)) (λ h r k. calls.Steps h m c r k) old reply new → a ≡ answered reply → Makes old m c new a
makes m c old reply new a asks told = (reply, asks, told)

pub tells_shape : (m : ℕ) (c : Command) (old : Result OwnHeap Status) (reply : Result Reply Status) (new : Result OwnHeap Status) (before after : MetronomeShape)
    → AsksHeap (λ h r k. calls.Steps h m c r k) old reply new → after ≡ shape_told before reply → TellsShape old m c before after
tells_shape m c (Err why) reply new before after asks told = told ∙ ap (shape_told before) asks.0
tells_shape m c (Ok h) reply new before after asks told = λ g agrees. told ∙ ap (shape_told before) asks.2 ∙ ap (shape_in before) (asks.4.1.reply g agrees)

-- a heap of its own did the command, and told the reply
pub step_told : (m : ℕ) (c : Command) (old : Result OwnHeap Status) (answer : Result (Result Reply Status) Status) (new : Result OwnHeap Status)
    → Asks (λ h r k. StepsTold h m c r k) old answer new → AsksHeap (λ h r k. calls.Steps h m c r k) old (flat answer) new
step_told m c (Err why) answer new asks = (ap flat asks.0, asks.1)
step_told m c (Ok h) answer new asks = let s = asks.4 in (s.reply, asks.1, ap flat asks.2 ∙ s.is, asks.3, s.does)
