use Rattle.std.proofs.Common.{◌≡◌, ◌<◌, ◌∙◌, List, Option, Some, length, length-set, ap, sym, subst, arith}
use Rattle.pages.specs.declared.page.PageRow.{PageRow}
use Rattle.pages.specs.Index.{row_at}
use Rattle.pages.proofs.Indexing.{row_room}
use Rattle.pages.proofs.InPlace.{lent, had_some, last_taken, one_taken, taken}
use Rattle.pages.proofs.table.PageTable.take_on.Goals.{After-pop-index}
use Rattle.pages.proofs.table.PageTable.take_on.Goals as goal

-- the record of the page, as it was lent
row_lent : (c : After-pop-index) → row_at c.self.inside.rows.items c.args.page ≡ Some c.unwrap-row.result.now
row_lent c = lent _ c.args.page c.index_mut.result.now c.as_mut.result c.unwrap-row.result (subst (λ l. c.args.page < length l) (sym c.self.view_is) c.requires.page) c.index_mut.ensures.value c.as_mut.ensures.value c.unwrap-row.ensures

pub overflow_sub-index_mut : goal.overflow_sub-index_mut
overflow_sub-index_mut c =
    had_some _ _ c.self.view_is _ _ _ _ c.self.invariant _ c.pop-index.new.arena.words c.requires.together c.args.page c.requires.page _ _ (row_lent (goal.at.overflow_sub-index_mut c).After-pop-index) c.args.class c.requires.usable c.pop-index.ensures.row
    c.number-number.result c.number-number.ensures.number c.index_mut-2.result.now c.index_mut-2.ensures.value

pub invariant_of-self : goal.invariant_of-self
invariant_of-self c =
    last_taken _ _ c.self.view_is _ _ _ _ c.self.invariant _ c.pop-index.new.arena.words c.requires.together c.args.page c.requires.page _ _ (row_lent (goal.at.invariant_of-self c).After-pop-index) c.args.class c.requires.usable c.pop-index.ensures.row
    c.number-number.result c.number-number.ensures.number c.index_mut-2.result.now c.index_mut-2.ensures.value c.blocks_per_page.result c.blocks_per_page.ensures.blocks
    c.if-is_full.true c.index_mut-then-is_full.result.now c.set.new.self c.index_mut-then-is_full.ensures.value c.set.ensures.here c.set.ensures.others c.set.ensures.room

pub invariant_of-self-else-is_full : goal.invariant_of-self-else-is_full
invariant_of-self-else-is_full c =
    one_taken _ _ c.self.view_is _ _ _ _ c.self.invariant _ c.pop-index.new.arena.words c.requires.together c.args.page c.requires.page _ _ (row_lent (goal.at.invariant_of-self-else-is_full c).After-pop-index) c.args.class c.requires.usable c.pop-index.ensures.row
    c.number-number.result c.number-number.ensures.number c.index_mut-2.result.now c.index_mut-2.ensures.value c.blocks_per_page.result c.blocks_per_page.ensures.blocks c.if-is_full.false

pub returns-then-is_full : goal.returns-then-is_full
returns-then-is_full c =
    let t = taken _ _ c.self.view_is _ _ _ _ c.self.invariant _ _ c.requires.together c.args.page c.requires.page _ _ (row_lent (goal.at.returns-then-is_full c).After-pop-index) c.args.class c.requires.usable c.pop-index.ensures.row
    c.pop-index.result c.pop-index.ensures.free c.pop-index.ensures.flags c.pop-index.ensures.chain c.pop-index.ensures.words in
    record { together = t.together; free = t.free; allocated = t.allocated; words = t.words; len = length-set _ _ _ ∙ ap (λ (l : List (Option PageRow)). length l) c.self.view_is; pages = c.pop-index.ensures.pages }

pub returns-else-is_full : goal.returns-else-is_full
returns-else-is_full c =
    let t = taken _ _ c.self.view_is _ _ _ _ c.self.invariant _ _ c.requires.together c.args.page c.requires.page _ _ (row_lent (goal.at.returns-else-is_full c).After-pop-index) c.args.class c.requires.usable c.pop-index.ensures.row
    c.pop-index.result c.pop-index.ensures.free c.pop-index.ensures.flags c.pop-index.ensures.chain c.pop-index.ensures.words in
    record { together = t.together; free = t.free; allocated = t.allocated; words = t.words; len = length-set _ _ _ ∙ ap (λ (l : List (Option PageRow)). length l) c.self.view_is; pages = c.pop-index.ensures.pages }

pub set-requires : goal.set-requires
set-requires c = row_room c.self.inside.rows.items c.args.self.now c.self.view_is c.self.inside.usable.items c.self.inside.free c.self.inside.free_blocks.items c.self.inside.free_pages c.self.invariant c.args.page c.requires.page c.args.class c.number-number.result (omega (arith, c.number-number.ensures.number, c.number-number.ensures.within)) c.number-number.ensures.number c.index_mut-then-is_full.result.now c.index_mut-then-is_full.ensures.value
