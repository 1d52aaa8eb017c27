use Rattle.std.proofs.Common.{arith}
use Rattle.command_line.proofs.words.within.Goals as goal

pub returns-then-number-greatest : goal.returns-then-number-greatest
returns-then-number-greatest c = (omega arith, omega arith)
