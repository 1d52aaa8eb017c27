use Rattle.std.proofs.Common.{arith}
use Rattle.pages.proofs.Indexing.{bit_was, fewer, few_had, update_by, row_room}
use Rattle.pages.proofs.table.PageTable.update.Goals as goal

pub change-requires-clause-was : goal.change-requires-clause-was
change-requires-clause-was c = bit_was c.self.inside.rows.items c.args.self.now c.self.view_is c.self.inside.usable.items c.self.inside.free c.self.inside.free_blocks.items c.self.inside.free_pages c.self.invariant c.args.page c.args.class c.index-old.result.now c.args.row c.requires.page c.requires.was c.requires.is (omega (arith, c.number-number.ensures.number, c.number-number.ensures.within)) c.number-number.result c.number-number.ensures.number c.index-old.ensures c.free_on-less.result c.free_on-more.result c.free_on-less.ensures.free c.free_on-more.ensures.free c.index_mut.result.now c.index_mut.ensures.value

pub overflow_sub-had : goal.overflow_sub-had
overflow_sub-had c = fewer c.self.inside.rows.items c.args.self.now c.self.view_is c.self.inside.usable.items c.self.inside.free c.self.inside.free_blocks.items c.self.inside.free_pages c.self.invariant c.args.page c.args.class c.index-old.result.now c.args.row c.requires.page c.requires.was c.requires.is (omega (arith, c.number-number.ensures.number, c.number-number.ensures.within)) c.number-number.result c.number-number.ensures.number c.index-old.ensures c.free_on-less.result c.free_on-more.result c.free_on-less.ensures.free c.free_on-more.ensures.free c.index_mut.result.now c.index_mut.ensures.value c.index-had.result.now c.index-had.ensures

pub overflow_add-had : goal.overflow_add-had
overflow_add-had c = omega (arith, few_had c.self.inside.rows.items c.args.self.now c.self.view_is c.self.inside.usable.items c.self.inside.free c.self.inside.free_blocks.items c.self.inside.free_pages c.self.invariant c.args.page c.args.class c.index-old.result.now c.args.row c.requires.page c.requires.was c.requires.is (omega (arith, c.number-number.ensures.number, c.number-number.ensures.within)) c.number-number.result c.number-number.ensures.number c.index-old.ensures c.free_on-less.result c.free_on-more.result c.free_on-less.ensures.free c.free_on-more.ensures.free c.index_mut.result.now c.index_mut.ensures.value c.index-had.result.now c.index-had.ensures, c.free_on-more.ensures.within)

pub invariant_of-self : goal.invariant_of-self
invariant_of-self c =
    update_by c.self.inside.rows.items c.args.self.now c.self.view_is c.self.inside.usable.items c.self.inside.free c.self.inside.free_blocks.items c.self.inside.free_pages c.self.invariant c.args.page c.args.class c.index-old.result.now c.args.row c.requires.page c.requires.was c.requires.is (omega (arith, c.number-number.ensures.number, c.number-number.ensures.within)) c.number-number.result c.number-number.ensures.number c.index-old.ensures c.free_on-less.result c.free_on-more.result c.free_on-less.ensures.free c.free_on-more.ensures.free c.index_mut.result.now c.index_mut.ensures.value c.index-had.result.now c.index-had.ensures
    c.change.new.self c.change.ensures.here c.change.ensures.others c.change.ensures.room

pub change-requires-clause-within : goal.change-requires-clause-within
change-requires-clause-within c = row_room c.self.inside.rows.items c.args.self.now c.self.view_is c.self.inside.usable.items c.self.inside.free c.self.inside.free_blocks.items c.self.inside.free_pages c.self.invariant c.args.page c.requires.page c.args.class c.number-number.result (omega (arith, c.number-number.ensures.number, c.number-number.ensures.within)) c.number-number.ensures.number c.index_mut.result.now c.index_mut.ensures.value
