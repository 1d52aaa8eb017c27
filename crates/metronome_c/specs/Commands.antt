-- Commands of mutators, by a handle of a heap of its own or in the turn of a member.
use Rattle.std.specs.Prelude.{ℕ, Result}
use Rattle.graph_heap.specs.declared.command.Command.{Command}
use Rattle.metronome_c.specs.declared.answer.Answer.{Answer}
use Rattle.metronome_c.specs.declared.answer.MetronomeShape.{MetronomeShape}
use Rattle.metronome_c.specs.declared.held.Held.{Held}
use Rattle.metronome_c.specs.declared.status.Status.{Status}
use Rattle.metronome_c.specs.Either.{OnEither}
use Rattle.metronome_c.specs.Sharing.{AnswersMember, ShapesMember}
use Rattle.metronome_c.specs.Steps.{DoesCommand, TellsShape}

-- a command of a mutator, and its answer
abbrev pub Answers : Result Held Status → ℕ → Command → Result Held Status → Answer → Type 0
Answers old m c new a = OnEither (λ h k. DoesCommand h m c k a) (λ v w. AnswersMember v m c w a) old new

-- a command that tells a shape, which C had before and has after it, and its answer
abbrev pub Describes : Result Held Status → ℕ → Command → Result Held Status → MetronomeShape × MetronomeShape → Answer → Type 0
Describes old m c new shapes a = OnEither (λ h k. DoesCommand h m c k a × TellsShape h m c shapes.0 shapes.1)
    (λ v w. ShapesMember v m c w shapes.0 (a, shapes.1)) old new
