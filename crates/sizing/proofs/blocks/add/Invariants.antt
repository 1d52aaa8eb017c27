use Rattle.std.proofs.Common.{◌≡◌, ℕ, ◌+◌, ◌<◌, ◌≤◌, min, get_or}
use Rattle.sizing.specs.Counts.{MOST}
use Rattle.sizing.proofs.blocks.add.Given as goal

-- the classes so far, and those that are left
abbrev pub invariant-loop-number : goal.invariant-loop-number
invariant-loop-number l = record {
  done : (class : ℕ) → class < l.number → get_or l.blocks class 0 ≡ min (get_or l.fn.blocks class 0 + get_or l.more class 0) MOST;
  left : (class : ℕ) → l.number ≤ class → get_or l.blocks class 0 ≡ get_or l.fn.blocks class 0;
}
