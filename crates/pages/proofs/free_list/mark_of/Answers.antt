use Rattle.std.proofs.Common.{arith, refl}
use Rattle.pages.specs.FreeList.{free_mark}
use Rattle.pages.proofs.Threading.{thread_within, flag_by}
use Rattle.pages.proofs.free_list.mark_of.Goals as goal

pub overflow_mul-block-2 : goal.overflow_mul-block-2
overflow_mul-block-2 c = omega (arith, thread_within c.args.page c.args.class c.args.index c.size.result c.size.ensures.size c.size.ensures.within.0 c.requires.block)

pub overflow_add-block : goal.overflow_add-block
overflow_add-block c = omega (arith, c.requires.page, thread_within c.args.page c.args.class c.args.index c.size.result c.size.ensures.size c.size.ensures.within.0 c.requires.block)

pub forward_of-requires : goal.forward_of-requires
forward_of-requires c = omega (arith, thread_within c.args.page c.args.class c.args.index c.size.result c.size.ensures.size c.size.ensures.within.0 c.requires.block, c.requires.within)

pub returns : goal.returns
unfolding free_mark
returns c = flag_by c.args.words.now c.args.page c.args.class c.size.result c.args.index c.forward_of.result _ c.size.ensures.size c.requires.block c.forward_of.ensures refl
