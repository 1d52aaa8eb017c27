use Rattle.std.proofs.Common.{◌≡◌, ◌+◌, min, get_or, arith, subst}
use Rattle.size_classes.specs.declared.class.TheConstants.{CLASSES}
use Rattle.heap_model.specs.Pages.{whole_pages}
use Rattle.space.specs.Space.{class_sum}
use Rattle.space.specs.declared.pages.TheConstants.{MOST_BLOCKS}
use Rattle.fragmentation.specs.Suffice.{gathered_pages}
use Rattle.sizing.proofs.Counts.Paging.{counted_gathered}
use Rattle.sizing.proofs.page_counts.season_pages.Goals as goal

pub returns : goal.returns
returns c = λ b m are made.
    let e : c.loop-number.number ≡ CLASSES = omega arith in
    counted_gathered c.loop-number.pages c.args.before.now c.args.made.now b m are made
    (subst (λ k. c.loop-number.pages ≡ class_sum (λ class. gathered_pages class (min (get_or c.args.before.now class 0) MOST_BLOCKS) + whole_pages class (min (get_or c.args.made.now class 0) MOST_BLOCKS)) k) e c.loop-number.invariant.value)
