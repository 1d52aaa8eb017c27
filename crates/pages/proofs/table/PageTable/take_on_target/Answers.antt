use Rattle.std.proofs.Common.{◌≡◌, ℕ, Some, true, false, ap, ◌∙◌, sym, subst}
use Rattle.std.specs.Prelude.{IsSomeAnd, slice_get}
use Rattle.heap_model.specs.Pages.{Page, IsOpen}
use Rattle.pages.specs.declared.page.PageRow.{PageRow}
use Rattle.pages.proofs.Telling.{together_by, received_by, some_there, page_read}
use Rattle.pages.proofs.Writing.{popped_outside, popped_keeps}
use Rattle.pages.proofs.Reading.{room_told}
use Rattle.pages.proofs.table.PageTable.take_on_target.Goals as goal

pub unwrap-row-requires : goal.unwrap-row-requires
unwrap-row-requires c = some_there c.args.self.now c.args.arena.now.words c.args.page c.requires.page (λ (p : Page). (p.evacuating ≡ false) × ((i : ℕ) × IsOpen p i)) c.requires.free c.row.result c.row.ensures.row

pub pop-index-requires-clause-page : goal.pop-index-requires-clause-page
pop-index-requires-clause-page c = c.row.ensures.few

pub pop-index-requires-clause-some : goal.pop-index-requires-clause-some
pop-index-requires-clause-some c = room_told c.args.self.now c.args.arena.now.words c.requires.together c.args.page c.requires.page c.unwrap-row.result (sym c.unwrap-row.ensures ∙ c.row.ensures.row) c.requires.free

row_then : (c : goal.After-update) → PageRow
row_then c = record c.pop-index.new.row { is_target = true }

pub returns-clause-together : goal.returns-clause-together
unfolding row_then
returns-clause-together c = together_by c.args.self.now c.args.arena.now.words c.pop-index.new.arena.words c.requires.together c.args.page c.requires.page c.unwrap-row.result (row_then c) (sym c.row.ensures.row ∙ c.unwrap-row.ensures) _ true (ap (λ (r : PageRow). record r { is_target = true }) c.pop-index.ensures.row) c.pop-index.ensures.chain (popped_outside c.args.self.now c.args.arena.now.words c.pop-index.new.arena.words c.requires.together.classes c.args.page c.unwrap-row.result (sym c.row.ensures.row ∙ c.unwrap-row.ensures) c.pop-index.result _ c.pop-index.ensures.free c.pop-index.ensures.words) c.update.new.self c.update.ensures c.pop-index.result true c.pop-index.ensures.flags

pub returns-clause-open : goal.returns-clause-open
returns-clause-open c =
    subst (λ o. IsSomeAnd o (λ p. slice_get p.allocated c.pop-index.result ≡ Some false)) (sym (page_read c.args.self.now c.args.arena.now.words c.args.page c.unwrap-row.result c.requires.page (sym c.row.ensures.row ∙ c.unwrap-row.ensures))) c.pop-index.ensures.free

pub returns-clause-allocated : goal.returns-clause-allocated
unfolding row_then
returns-clause-allocated c =
    received_by c.args.self.now c.args.arena.now.words c.pop-index.new.arena.words c.requires.together c.args.page c.requires.page c.unwrap-row.result (row_then c) (sym c.row.ensures.row ∙ c.unwrap-row.ensures) _ true (ap (λ (r : PageRow). record r { is_target = true }) c.pop-index.ensures.row) c.pop-index.ensures.chain (popped_outside c.args.self.now c.args.arena.now.words c.pop-index.new.arena.words c.requires.together.classes c.args.page c.unwrap-row.result (sym c.row.ensures.row ∙ c.unwrap-row.ensures) c.pop-index.result _ c.pop-index.ensures.free c.pop-index.ensures.words) c.update.new.self c.update.ensures c.pop-index.result true c.pop-index.ensures.flags

pub returns-clause-words : goal.returns-clause-words
returns-clause-words c = popped_keeps c.args.self.now c.args.arena.now.words c.pop-index.new.arena.words c.requires.together.classes c.args.page c.unwrap-row.result (sym c.row.ensures.row ∙ c.unwrap-row.ensures) c.pop-index.result _ c.pop-index.ensures.free c.pop-index.ensures.words
