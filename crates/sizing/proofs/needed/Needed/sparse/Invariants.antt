use Rattle.std.proofs.Common.{◌≡◌, ◌*◌, ◌≤◌}
use Rattle.space.specs.Space.{class_sum}
use Rattle.space.specs.declared.pages.TheConstants.{MOST_CLASS_PAGES}
use Rattle.fragmentation.specs.Suffice.{gathered_pages}
use Rattle.sizing.specs.Measured.{together_in}
use Rattle.sizing.proofs.needed.Needed.sparse.Given as goal

-- the pages of the classes so far
abbrev pub invariant-loop-number : goal.invariant-loop-number
invariant-loop-number l = record {
  value : l.pages ≡ class_sum (λ class. gathered_pages class (together_in l.self class)) l.number;
  within : l.pages ≤ l.number * MOST_CLASS_PAGES;
}
