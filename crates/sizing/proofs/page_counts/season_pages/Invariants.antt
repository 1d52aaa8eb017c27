use Rattle.std.proofs.Common.{◌≡◌, ◌+◌, ◌*◌, ◌≤◌, min, get_or}
use Rattle.heap_model.specs.Pages.{whole_pages}
use Rattle.space.specs.Space.{class_sum}
use Rattle.space.specs.declared.pages.TheConstants.{MOST_BLOCKS, MOST_CLASS_PAGES}
use Rattle.fragmentation.specs.Suffice.{gathered_pages}
use Rattle.sizing.proofs.page_counts.season_pages.Given as goal

-- the pages of the classes so far
abbrev pub invariant-loop-number : goal.invariant-loop-number
invariant-loop-number l = record {
  value : l.pages ≡ class_sum (λ class. gathered_pages class (min (get_or l.before class 0) MOST_BLOCKS) + whole_pages class (min (get_or l.made class 0) MOST_BLOCKS)) l.number;
  within : l.pages ≤ l.number * (2 * MOST_CLASS_PAGES);
}
