use Rattle.std.proofs.Common.{◌≡◌, ℕ, ◌<◌, get_or, length}
use Rattle.size_classes.specs.declared.class.TheConstants.{CLASSES}
use Rattle.sizing.proofs.blocks.needed_by.Given as goal

-- the classes so far
abbrev pub invariant-loop-number : goal.invariant-loop-number
invariant-loop-number l = record {
  long : length l.blocks ≡ CLASSES;
  done : (class : ℕ) → class < l.number → get_or l.blocks class 0 ≡ get_or l.need class 0;
}
