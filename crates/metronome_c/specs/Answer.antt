-- Replies as C sees them.
use Rattle.std.specs.Prelude.{ℕ, Result, Ok, Err, if◌then◌else◌}
use Rattle.graph_heap.specs.declared.command.Shape.{Shape}
use Rattle.graph_heap.specs.declared.command.Shape.TheVariants.{Plain, RefArray, WordArray}
use Rattle.graph_heap.specs.declared.command.Reply.{Reply}
use Rattle.graph_heap.specs.declared.command.Reply.TheVariants as replies
use Rattle.graph_heap.specs.Refusal.{refusal_number}
use Rattle.metronome_c.specs.declared.answer.Answer.{Answer}
use Rattle.metronome_c.specs.declared.answer.MetronomeShape.{MetronomeShape}
use Rattle.metronome_c.specs.declared.status.Status.{Status}
use Rattle.metronome_c.specs.Status.{status_number}

-- an answer of this kind with this number
abbrev told : ℕ → ℕ → Answer
told k n = record { kind = k; number = n }

-- a reply, as an answer
abbrev pub answer_of : Reply → Answer
answer_of (replies.Refused refusal) = told 0 (refusal_number refusal)
answer_of (replies.Made id) = told 1 id
answer_of (replies.Ref id) = told 2 id
answer_of (replies.Word word) = told 3 word
answer_of replies.Done = told 4 0
answer_of replies.Stored = told 5 0
answer_of (replies.Kept id) = told 6 id
answer_of (replies.KeptWord word) = told 7 word
answer_of (replies.Is is) = told 8 (if is then 1 else 0)
answer_of (replies.Described id shape) = told 9 id

-- the answer of a handle that holds no heap, by the status that says why
abbrev pub refused : Status → Answer
refused why = told 0 (status_number why)

-- the answer to what may have no reply, as there may be no heap
abbrev pub answered : Result Reply Status → Answer
answered (Ok reply) = answer_of reply
answered (Err why) = refused why

-- a shape of this kind with this many cells
abbrev pub sized : ℕ → ℕ → ℕ → MetronomeShape
sized k r w = record { kind = k; refs = r; words = w }

-- a shape, as C sees it
abbrev pub shape_of : Shape → MetronomeShape
shape_of (Plain refs words) = sized 0 refs words
shape_of (RefArray refs) = sized 1 refs 0
shape_of (WordArray words) = sized 2 0 words

-- the shape that a reply tells, or the one from before if it tells none
abbrev pub shape_in : MetronomeShape → Reply → MetronomeShape
shape_in before (replies.Described id shape) = shape_of shape
shape_in before _ = before

-- the shape that a reply tells, or the one from before, if it tells none or there is no reply
abbrev pub shape_told : MetronomeShape → Result Reply Status → MetronomeShape
shape_told before (Ok reply) = shape_in before reply
shape_told before (Err why) = before
