use Rattle.std.proofs.Common.{◌∙◌, arith}
use Rattle.pages.proofs.Sweeping.{colour_there}
use Rattle.pages.proofs.Threading.{thread_within}
use Rattle.pages.proofs.free_list.stays.Goals as goal

pub overflow_mul-block-then-is_taken_in : goal.overflow_mul-block-then-is_taken_in
overflow_mul-block-then-is_taken_in c = omega (arith, thread_within c.args.page c.args.class c.args.index c.size.result c.size.ensures.size c.size.ensures.within.0 c.requires.block)

pub overflow_add-block : goal.overflow_add-block
overflow_add-block c = omega (arith, c.requires.page, thread_within c.args.page c.args.class c.args.index c.size.result c.size.ensures.size c.size.ensures.within.0 c.requires.block)

pub has_colour-requires : goal.has_colour-requires
has_colour-requires c = omega (arith, thread_within c.args.page c.args.class c.args.index c.size.result c.size.ensures.size c.size.ensures.within.0 c.requires.block, c.requires.within)

pub returns-then-is_taken_in-clause-stays : goal.returns-then-is_taken_in-clause-stays
returns-then-is_taken_in-clause-stays c = λ e allocated. colour_there c.args.words.now c.args.colour c.args.page c.args.class c.args.index c.size.result c.has_colour.result c.size.ensures.size c.has_colour.ensures ∙ e

pub returns-then-is_taken_in-clause-goes : goal.returns-then-is_taken_in-clause-goes
returns-then-is_taken_in-clause-goes c = λ e. (c.if-is_taken_in.ensures, colour_there c.args.words.now c.args.colour c.args.page c.args.class c.args.index c.size.result c.has_colour.result c.size.ensures.size c.has_colour.ensures ∙ e)
