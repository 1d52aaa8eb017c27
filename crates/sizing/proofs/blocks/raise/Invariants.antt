use Rattle.std.proofs.Common.{◌≡◌, ℕ, ◌<◌, ◌≤◌, max, get_or}
use Rattle.sizing.proofs.blocks.raise.Given as goal

-- the classes so far, and those that are left
abbrev pub invariant-loop-number : goal.invariant-loop-number
invariant-loop-number l = record {
  done : (class : ℕ) → class < l.number → get_or l.blocks class 0 ≡ max (get_or l.fn.blocks class 0) (get_or l.least class 0);
  left : (class : ℕ) → l.number ≤ class → get_or l.blocks class 0 ≡ get_or l.fn.blocks class 0;
}
