use Rattle.std.proofs.Common.{◌≡◌, ◌*◌, ◌≤◌}
use Rattle.space.specs.Space.{pages_for}
use Rattle.space.specs.declared.pages.TheConstants.{MOST_CLASS_PAGES}
use Rattle.sizing.specs.Measured.{together_in}
use Rattle.sizing.proofs.needed.Needed.pages.Given as goal

-- the pages of the classes so far
abbrev pub invariant-loop-number : goal.invariant-loop-number
invariant-loop-number l = record {
  value : l.pages ≡ pages_for (together_in l.self) l.spare l.number;
  within : l.pages ≤ l.number * MOST_CLASS_PAGES;
}
