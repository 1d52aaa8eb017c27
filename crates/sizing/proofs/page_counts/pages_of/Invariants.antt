use Rattle.std.proofs.Common.{◌≡◌, ◌*◌, ◌≤◌, min, get_or}
use Rattle.heap_model.specs.Pages.{whole_pages}
use Rattle.space.specs.Space.{class_sum}
use Rattle.space.specs.declared.pages.TheConstants.{MOST_BLOCKS, MOST_CLASS_PAGES}
use Rattle.sizing.proofs.page_counts.pages_of.Given as goal

-- the pages of the classes so far
abbrev pub invariant-loop-number : goal.invariant-loop-number
invariant-loop-number l = record {
  value : l.pages ≡ class_sum (λ class. whole_pages class (min (get_or l.blocks class 0) MOST_BLOCKS)) l.number;
  within : l.pages ≤ l.number * MOST_CLASS_PAGES;
}
