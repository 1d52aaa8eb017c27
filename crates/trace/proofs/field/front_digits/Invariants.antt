use Rattle.std.proofs.Common.{◌-◌, ◌≤◌}
use Rattle.trace.specs.Numbers.{DigitsSpell}
use Rattle.trace.proofs.field.front_digits.Given as goal

abbrev pub invariant-loop-at : goal.invariant-loop-at
invariant-loop-at l = (l.at ≤ l.most) × DigitsSpell l.bytes l.n l.at

abbrev pub decreases-loop-at : goal.decreases-loop-at
decreases-loop-at l = l.most - l.at
