use Rattle.std.proofs.Common.{◌+◌, ◌-◌, ◌*◌, ap, arith}
use Rattle.pages.proofs.Threading.{push_within, push_some, push_words, push_flags, push_chain}
use Rattle.pages.proofs.free_list.push.Goals as goal

pub overflow_mul-block-2 : goal.overflow_mul-block-2
overflow_mul-block-2 c = omega (arith, push_within c.args.words.now c.args.page c.args.row.now.class c.args.row.now.first c.args.row.now.allocated c.size.result c.requires.page c.requires.within c.requires.chain c.size.ensures.size c.size.ensures.within.0 c.args.index c.requires.allocated)

pub overflow_add-block : goal.overflow_add-block
overflow_add-block c = omega (arith, push_within c.args.words.now c.args.page c.args.row.now.class c.args.row.now.first c.args.row.now.allocated c.size.result c.requires.page c.requires.within c.requires.chain c.size.ensures.size c.size.ensures.within.0 c.args.index c.requires.allocated, c.requires.page)

pub link_free-requires : goal.link_free-requires
link_free-requires c = omega (arith, push_within c.args.words.now c.args.page c.args.row.now.class c.args.row.now.first c.args.row.now.allocated c.size.result c.requires.page c.requires.within c.requires.chain c.size.ensures.size c.size.ensures.within.0 c.args.index c.requires.allocated, c.requires.within)

pub overflow_add-row : goal.overflow_add-row
overflow_add-row c = omega (arith, push_within c.args.words.now c.args.page c.args.row.now.class c.args.row.now.first c.args.row.now.allocated c.size.result c.requires.page c.requires.within c.requires.chain c.size.ensures.size c.size.ensures.within.0 c.args.index c.requires.allocated, c.requires.page)

pub overflow_sub-row : goal.overflow_sub-row
overflow_sub-row c = omega (arith, push_some c.args.words.now c.args.page c.args.row.now.class c.args.row.now.first c.args.row.now.allocated c.size.result c.requires.page c.requires.within c.requires.chain c.size.ensures.size c.size.ensures.within.0 c.args.index c.requires.allocated)

pub returns-clause-some : goal.returns-clause-some
returns-clause-some c = push_some c.args.words.now c.args.page c.args.row.now.class c.args.row.now.first c.args.row.now.allocated c.size.result c.requires.page c.requires.within c.requires.chain c.size.ensures.size c.size.ensures.within.0 c.args.index c.requires.allocated

pub returns-clause-flags : goal.returns-clause-flags
returns-clause-flags c = push_flags c.args.words.now c.args.page c.args.row.now.class c.args.row.now.first c.args.row.now.allocated c.size.result c.requires.page c.requires.within c.requires.chain c.size.ensures.size c.size.ensures.within.0 c.args.index c.requires.allocated c.link_free.new.words c.link_free.ensures

pub returns-clause-chain : goal.returns-clause-chain
returns-clause-chain c = push_chain c.args.words.now c.args.page c.args.row.now.class c.args.row.now.first c.args.row.now.allocated c.size.result c.requires.page c.requires.within c.requires.chain c.size.ensures.size c.size.ensures.within.0 c.args.index c.requires.allocated c.link_free.new.words c.link_free.ensures

pub returns-clause-words : goal.returns-clause-words
returns-clause-words c = push_words c.args.words.now c.args.page c.args.row.now.class c.args.row.now.first c.args.row.now.allocated c.size.result c.requires.page c.requires.within c.requires.chain c.size.ensures.size c.size.ensures.within.0 c.args.index c.requires.allocated c.link_free.new.words c.link_free.ensures

pub returns-clause-row : goal.returns-clause-row
returns-clause-row c = ap (λ n. record c.args.row.now { first = 2048 * c.args.page + c.args.index * n + 1; allocated = c.args.row.now.allocated - 1 }) c.size.ensures.size
