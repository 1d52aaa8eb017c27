use Rattle.std.specs.Prelude.{⊤}
use Rattle.command_line.proofs.words.chosen.Given as goal

abbrev pub invariant-loop-name : goal.invariant-loop-name
invariant-loop-name g l = ⊤
