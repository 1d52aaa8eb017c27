use Rattle.std.proofs.Common.{◌≡◌, min, get_or, arith, subst}
use Rattle.size_classes.specs.declared.class.TheConstants.{CLASSES}
use Rattle.heap_model.specs.Pages.{whole_pages}
use Rattle.space.specs.Space.{class_sum}
use Rattle.space.specs.declared.pages.TheConstants.{MOST_BLOCKS}
use Rattle.sizing.proofs.Counts.Paging.{counted_pages}
use Rattle.sizing.proofs.page_counts.pages_of.Goals as goal

pub returns : goal.returns
returns c = λ n are.
    let e : c.loop-number.number ≡ CLASSES = omega arith in
    counted_pages c.loop-number.pages c.args.blocks.now n are (subst (λ k. c.loop-number.pages ≡ class_sum (λ class. whole_pages class (min (get_or c.args.blocks.now class 0) MOST_BLOCKS)) k) e c.loop-number.invariant.value)
