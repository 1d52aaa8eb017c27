use Rattle.std.proofs.Common.{rules}
use Rattle.metronome_c.proofs.answer.Answer.from_reply.Goals as goal

pub returns-in-Kept : goal.returns-in-Kept
returns-in-Kept c = search rules
