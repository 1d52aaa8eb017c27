use Rattle.std.proofs.Common.{◌∙◌, sym}
use Rattle.metronome_c.proofs.Checks.{no_mutator, a_mutator}
use Rattle.metronome_c.proofs.checking.status_of_slot.Goals as goal

pub returns-then-is_bad_slot : goal.returns-then-is_bad_slot
returns-then-is_bad_slot c = λ g agrees.
    no_mutator c.args.heap.now g c.args.mutator c.args.slot _ (c.answer.ensures g agrees) (sym c.is_bad_slot.ensures ∙ c.if-is_bad_slot.true)

pub returns : goal.returns
returns c = λ g agrees.
    a_mutator c.args.heap.now g c.args.mutator c.args.slot _ _ _ (c.answer.ensures g agrees) (sym c.is_bad_slot.ensures ∙ c.if-is_bad_slot.false) (c.answer-2.ensures g agrees) c.status_of_reply.ensures
