use Rattle.std.proofs.Common.{◌≡◌, ℕ, ◌+◌, ◌*◌, List, Option, length, length-set, set, true, false, Some, ap, ◌∙◌, sym, subst}
use Rattle.std.specs.Prelude.{IfSome, slice_get}
use Rattle.std.specs.List.{refill}
use Rattle.pages.specs.declared.page.PageRow.{PageRow}
use Rattle.heap_model.specs.Pages.{Page, page_at, with_allocated}
use Rattle.heap_model.specs.Store.{address_of}
use Rattle.pages.specs.FreeList.{flags_of, free_mark}
use Rattle.pages.specs.Together.{pages_in, Together, KeepsAllocated}
use Rattle.pages.proofs.Sweeping.{row_loose, written_back, goes_together, given_there, keeps}
use Rattle.pages.proofs.Telling.{some_there, allocated_by}
use Rattle.pages.proofs.table.PageTable.give.Goals.{After-push, After-update}
use Rattle.pages.proofs.table.PageTable.give.Goals as goal

pub unwrap-row-requires : goal.unwrap-row-requires
unwrap-row-requires c = some_there c.args.self.now c.args.arena.now.words c.args.block.page c.requires.page (λ (p : Page). slice_get p.allocated c.args.block.index ≡ Some true) c.requires.allocated c.row.result c.row.ensures.row

pub push-requires-clause-allocated : goal.push-requires-clause-allocated
push-requires-clause-allocated c = subst (λ w. slice_get (flags_of w (2048 * c.args.block.page) c.unwrap-row.result.class) c.args.block.index ≡ Some true) (sym c.words_mut.ensures.value) (allocated_by c.args.self.now c.args.arena.now.words c.args.block.page c.unwrap-row.result c.args.block.index c.requires.page (sym c.row.ensures.row ∙ c.unwrap-row.ensures) c.requires.allocated)

-- the flags and the words after, by the arena's words before
flags_now : (c : After-push) → flags_of c.push.new.words (2048 * c.args.block.page) c.unwrap-row.result.class ≡ set (flags_of c.args.arena.now.words (2048 * c.args.block.page) c.unwrap-row.result.class) c.args.block.index false
flags_now c = subst (λ w. flags_of c.push.new.words (2048 * c.args.block.page) c.unwrap-row.result.class ≡ set (flags_of w (2048 * c.args.block.page) c.unwrap-row.result.class) c.args.block.index false) c.words_mut.ensures.value c.push.ensures.flags

words_now : (c : After-push) → c.push.new.words ≡ set (set c.args.arena.now.words (address_of c.unwrap-row.result.class c.args.block.page c.args.block.index) free_mark) (address_of c.unwrap-row.result.class c.args.block.page c.args.block.index + 3) c.unwrap-row.result.first
words_now c = subst (λ w. c.push.new.words ≡ set (set w (address_of c.unwrap-row.result.class c.args.block.page c.args.block.index) free_mark) (address_of c.unwrap-row.result.class c.args.block.page c.args.block.index + 3) c.unwrap-row.result.first) c.words_mut.ensures.value c.push.ensures.words

-- what is said of the records and the words as they were written, is said of the table and the arena
after : (c : After-update) (P : List (Option PageRow) → List ℕ → Type 0) → P (set c.args.self.now c.args.block.page (Some c.push.new.row)) c.push.new.words → P c.update.new.self (refill (length c.args.arena.now.words) c.args.arena.now.words c.push.new.words)
after c P h =
    let len = ap (λ w. length w) c.push.ensures.words ∙ length-set _ _ _ ∙ length-set _ _ _ ∙ ap (λ w. length w) c.words_mut.ensures.value in
    subst (λ w. P c.update.new.self w) (sym (written_back c.args.arena.now.words c.push.new.words len)) (subst (λ l. P l c.push.new.words) (sym c.update.ensures) h)

pub returns-clause-together : goal.returns-clause-together
returns-clause-together c = after (goal.at.returns-clause-together c).After-update Together (goes_together c.args.self.now c.args.arena.now.words c.push.new.words c.requires.together c.args.block.page c.unwrap-row.result c.push.new.row (sym c.row.ensures.row ∙ c.unwrap-row.ensures) c.args.block.index (allocated_by c.args.self.now c.args.arena.now.words c.args.block.page c.unwrap-row.result c.args.block.index c.requires.page (sym c.row.ensures.row ∙ c.unwrap-row.ensures) c.requires.allocated) (row_loose c.args.block.page c.args.block.index c.unwrap-row.result c.push.new.row c.push.ensures.row) (flags_now (goal.at.returns-clause-together c).After-push) c.push.ensures.chain (words_now (goal.at.returns-clause-together c).After-push))

pub returns-clause-given : goal.returns-clause-given
returns-clause-given c =
    after (goal.at.returns-clause-given c).After-update (λ l w. IfSome (page_at (pages_in c.args.self.now c.args.arena.now.words) c.args.block.page) (λ p. pages_in l w ≡ set (pages_in c.args.self.now c.args.arena.now.words) c.args.block.page (Some (with_allocated p c.args.block.index false))))
    (given_there c.args.self.now c.args.arena.now.words c.push.new.words c.requires.together c.args.block.page c.unwrap-row.result c.push.new.row (sym c.row.ensures.row ∙ c.unwrap-row.ensures) c.args.block.index (allocated_by c.args.self.now c.args.arena.now.words c.args.block.page c.unwrap-row.result c.args.block.index c.requires.page (sym c.row.ensures.row ∙ c.unwrap-row.ensures) c.requires.allocated) (row_loose c.args.block.page c.args.block.index c.unwrap-row.result c.push.new.row c.push.ensures.row) (flags_now (goal.at.returns-clause-given c).After-push) c.push.ensures.chain (words_now (goal.at.returns-clause-given c).After-push))

pub returns-clause-words : goal.returns-clause-words
returns-clause-words c = after (goal.at.returns-clause-words c).After-update (λ l w. KeepsAllocated (pages_in l w) c.args.arena.now.words w) (keeps c.args.self.now c.args.arena.now.words c.push.new.words c.requires.together c.args.block.page c.unwrap-row.result c.push.new.row (sym c.row.ensures.row ∙ c.unwrap-row.ensures) c.args.block.index (allocated_by c.args.self.now c.args.arena.now.words c.args.block.page c.unwrap-row.result c.args.block.index c.requires.page (sym c.row.ensures.row ∙ c.unwrap-row.ensures) c.requires.allocated) (row_loose c.args.block.page c.args.block.index c.unwrap-row.result c.push.new.row c.push.ensures.row) (flags_now (goal.at.returns-clause-words c).After-push) c.push.ensures.chain (words_now (goal.at.returns-clause-words c).After-push))
