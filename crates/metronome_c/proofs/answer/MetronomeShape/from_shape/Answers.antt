use Rattle.std.proofs.Common.{rules}
use Rattle.metronome_c.proofs.answer.MetronomeShape.from_shape.Goals as goal

pub returns-in-RefArray : goal.returns-in-RefArray
returns-in-RefArray c = search rules
