use Rattle.std.proofs.Common.{refl, ap, ◌∙◌, arith, set}
use Rattle.size_classes.specs.Sizes.{size_of}
use Rattle.pages.proofs.Flags.{size_some}
use Rattle.pages.proofs.Threading.{pop_within, pop_room, pop_place, pop_offset, pop_free, pop_flags, pop_chain}
use Rattle.pages.proofs.free_list.pop.Goals as goal

pub link-row-requires : goal.link-row-requires
link-row-requires c = pop_within c.args.arena.now.words c.args.page c.args.row.now.class c.args.row.now.first c.args.row.now.allocated (size_of c.args.row.now.class) c.requires.page c.requires.within c.requires.chain refl (size_some c.args.row.now.class c.args.row.now.allocated c.requires.some) c.requires.some

pub overflow_add-row : goal.overflow_add-row
overflow_add-row c = omega (arith, pop_room c.args.arena.now.words c.args.page c.args.row.now.class c.args.row.now.first c.args.row.now.allocated (size_of c.args.row.now.class) c.requires.page c.requires.within c.requires.chain refl (size_some c.args.row.now.class c.args.row.now.allocated c.requires.some) c.requires.some)

pub set_forward-requires : goal.set_forward-requires
set_forward-requires c = omega (arith, pop_within c.args.arena.now.words c.args.page c.args.row.now.class c.args.row.now.first c.args.row.now.allocated (size_of c.args.row.now.class) c.requires.page c.requires.within c.requires.chain refl (size_some c.args.row.now.class c.args.row.now.allocated c.requires.some) c.requires.some)

pub overflow_sub-offset : goal.overflow_sub-offset
overflow_sub-offset c = omega (arith, (pop_offset c.args.arena.now.words c.args.page c.args.row.now.class c.args.row.now.first c.args.row.now.allocated (size_of c.args.row.now.class) c.requires.page c.requires.within c.requires.chain refl (size_some c.args.row.now.class c.args.row.now.allocated c.requires.some) c.requires.some).0)

pub overflow_cast-offset : goal.overflow_cast-offset
overflow_cast-offset c = omega (arith, (pop_offset c.args.arena.now.words c.args.page c.args.row.now.class c.args.row.now.first c.args.row.now.allocated (size_of c.args.row.now.class) c.requires.page c.requires.within c.requires.chain refl (size_some c.args.row.now.class c.args.row.now.allocated c.requires.some) c.requires.some).1)

pub returns-clause-free : goal.returns-clause-free
returns-clause-free c = pop_free c.args.arena.now.words c.args.page c.args.row.now.class c.args.row.now.first c.args.row.now.allocated c.size.result c.requires.page c.requires.within c.requires.chain c.size.ensures.size c.size.ensures.within.0 c.requires.some

pub returns-clause-flags : goal.returns-clause-flags
returns-clause-flags c = pop_flags c.args.arena.now.words c.args.page c.args.row.now.class c.args.row.now.first c.args.row.now.allocated c.size.result c.requires.page c.requires.within c.requires.chain c.size.ensures.size c.size.ensures.within.0 c.requires.some c.set_forward.new.self.words c.set_forward.ensures.words

pub returns-clause-chain : goal.returns-clause-chain
returns-clause-chain c = pop_chain c.args.arena.now.words c.args.page c.args.row.now.class c.args.row.now.first c.args.row.now.allocated c.size.result c.requires.page c.requires.within c.requires.chain c.size.ensures.size c.size.ensures.within.0 c.requires.some c.set_forward.new.self.words c.set_forward.ensures.words c.link-row.result c.link-row.ensures

pub returns-clause-words : goal.returns-clause-words
returns-clause-words c = c.set_forward.ensures.words ∙ ap (λ n. set c.args.arena.now.words n n) (pop_place c.args.arena.now.words c.args.page c.args.row.now.class c.args.row.now.first c.args.row.now.allocated c.size.result c.requires.page c.requires.within c.requires.chain c.size.ensures.size c.size.ensures.within.0 c.requires.some)
