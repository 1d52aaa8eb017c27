use Rattle.std.proofs.Common.{◌≡◌, ◌+◌, ◌*◌, ◌≤◌, get_or}
use Rattle.space.specs.Space.{pages_for}
use Rattle.space.specs.declared.pages.TheConstants.{MOST_CLASS_PAGES}
use Rattle.space.proofs.pace.Pace.pages.Given as goal

-- the pages of the classes so far
abbrev pub invariant-loop-number : goal.invariant-loop-number
invariant-loop-number l = record {
  value : l.pages ≡ pages_for (λ class. get_or l.self.live class 0 + (2 * (l.quanta * get_or l.self.busy class 0) + get_or l.self.idle class 0)) l.spare l.number;
  within : l.pages ≤ l.number * MOST_CLASS_PAGES;
}
