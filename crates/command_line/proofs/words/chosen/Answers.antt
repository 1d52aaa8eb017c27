use Rattle.std.proofs.Common.{refl, rules, arith}
use Rattle.std.specs.Cmp.Lexicographic.{same_text}
use Rattle.command_line.proofs.words.chosen.Goals as goal

pub returns-then-eq : goal.returns-then-eq
returns-then-eq g c = (c.loop-name.name-index, c.loop-name-item.result, omega arith, search rules, (same_text _ _ c.if-eq.ensures, refl))
