use Rattle.std.proofs.Common.{◌≡◌, length, ap, ◌∙◌, arith}
use Rattle.pictures.specs.Allocated.{allocated_below}
use Rattle.pictures.proofs.Allocating.{none_below, one_more}
use Rattle.pictures.proofs.allocated.blocks_of.Goals as goal

pub loop-number-init : goal.loop-number-init
loop-number-init c = record {
  sum = none_below c.args.heap.now.store.pages;
  blocks = omega arith;
  words = omega arith;
}

pub loop-number-preserved : goal.loop-number-preserved
loop-number-preserved c =
    let n = c.loop-number.number in record {
      sum = one_more c.args.heap.now.store.pages n c.loop-number.all c.allocated_on-more.result c.loop-number.invariant.sum c.allocated_on-more.ensures.allocated;
      blocks = omega (arith, c.loop-number.invariant.blocks, c.allocated_on-more.ensures.within.0);
      words = omega (arith, c.loop-number.invariant.words, c.allocated_on-more.ensures.within.1);
    }

pub returns : goal.returns
returns c =
    let e : c.loop-number.number ≡ length c.args.heap.now.store.pages = omega (arith, c.pages-number-end.ensures.pages) in
    c.loop-number.invariant.sum ∙ ap (allocated_below c.args.heap.now.store.pages) e
