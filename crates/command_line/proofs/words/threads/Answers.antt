use Rattle.std.proofs.Common.{arith}
use Rattle.command_line.proofs.words.threads.Goals as goal

pub returns-clause-range : goal.returns-clause-range
returns-clause-range c = (omega arith, omega arith, omega arith)
