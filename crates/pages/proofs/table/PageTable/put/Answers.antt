use Rattle.std.proofs.Common.{arith}
use Rattle.pages.proofs.Indexing.{bit_before, put_by, less_small, had_small, row_room, free_room}
use Rattle.pages.proofs.table.PageTable.put.Goals as goal

pub overflow_sub-index : goal.overflow_sub-index
overflow_sub-index c = less_small c.self.inside.rows.items c.args.self.now c.self.view_is c.self.inside.usable.items c.self.inside.free c.self.inside.free_blocks.items c.self.inside.free_pages c.self.invariant c.args.page c.args.class c.args.row c.requires.page c.requires.was c.requires.is (omega (arith, c.number-number.ensures.number, c.number-number.ensures.within)) c.number-number.result c.number-number.ensures.number c.index.result.now c.index.ensures c.free_on-less.result c.free_on-more.result c.free_on-less.ensures.free c.free_on-more.ensures.free c.index-2.result.now c.index-2.ensures

pub overflow_add-index : goal.overflow_add-index
overflow_add-index c = omega (arith, had_small c.self.inside.rows.items c.args.self.now c.self.view_is c.self.inside.usable.items c.self.inside.free c.self.inside.free_blocks.items c.self.inside.free_pages c.self.invariant c.args.page c.args.class c.args.row c.requires.page c.requires.was c.requires.is (omega (arith, c.number-number.ensures.number, c.number-number.ensures.within)) c.number-number.result c.number-number.ensures.number c.index.result.now c.index.ensures c.free_on-less.result c.free_on-more.result c.free_on-less.ensures.free c.free_on-more.ensures.free c.index-2.result.now c.index-2.ensures, c.free_on-more.ensures.within)

pub invariant_of-self : goal.invariant_of-self
invariant_of-self c =
    put_by c.self.inside.rows.items c.args.self.now c.self.view_is c.self.inside.usable.items c.self.inside.free c.self.inside.free_blocks.items c.self.inside.free_pages c.self.invariant c.args.page c.args.class c.args.row c.requires.page c.requires.was c.requires.is (omega (arith, c.number-number.ensures.number, c.number-number.ensures.within)) c.number-number.result c.number-number.ensures.number c.index.result.now c.index.ensures c.free_on-less.result c.free_on-more.result c.free_on-less.ensures.free c.free_on-more.ensures.free c.index-2.result.now c.index-2.ensures
    c.index_mut.result.now c.change.new.self c.set.new.self c.is_usable.result c.is_none-is_free.result c.is_none-was_free.result c.counted-self-inside.result c.index_mut.ensures.value
    c.change.ensures.here c.is_usable.ensures c.change.ensures.others c.change.ensures.room c.set.ensures.here c.is_none-is_free.ensures c.set.ensures.others c.set.ensures.room c.is_none-was_free.ensures c.counted-self-inside.ensures

pub change-requires-clause-within : goal.change-requires-clause-within
change-requires-clause-within c = row_room c.self.inside.rows.items c.args.self.now c.self.view_is c.self.inside.usable.items c.self.inside.free c.self.inside.free_blocks.items c.self.inside.free_pages c.self.invariant c.args.page c.requires.page c.args.class c.number-number.result (omega (arith, c.number-number.ensures.number, c.number-number.ensures.within)) c.number-number.ensures.number c.index_mut.result.now c.index_mut.ensures.value

pub change-requires-clause-was : goal.change-requires-clause-was
change-requires-clause-was c = bit_before c.self.inside.rows.items c.args.self.now c.self.view_is c.self.inside.usable.items c.self.inside.free c.self.inside.free_blocks.items c.self.inside.free_pages c.self.invariant c.args.page c.args.class c.index.result.now c.requires.page (omega (arith, c.number-number.ensures.number, c.number-number.ensures.within)) c.number-number.result c.number-number.ensures.number c.index.ensures c.free_on-less.result c.free_on-less.ensures.free c.index_mut.result.now c.index_mut.ensures.value

pub set-requires : goal.set-requires
set-requires c = free_room c.self.inside.rows.items c.args.self.now c.self.view_is c.self.inside.usable.items c.self.inside.free c.self.inside.free_blocks.items c.self.inside.free_pages c.self.invariant c.args.page c.requires.page
