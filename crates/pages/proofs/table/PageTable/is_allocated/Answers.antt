use Rattle.std.proofs.Common.{◌≡◌, Some, true, ◌∙◌, sym, arith}
use Rattle.std.proofs.lemmas.Bool.{ltb-true}
use Rattle.std.specs.Prelude.{slice_get}
use Rattle.heap_model.specs.Pages.{Page}
use Rattle.pages.proofs.Reading.{flag_told, no_flag_told, no_page_told, never}
use Rattle.pages.proofs.table.PageTable.is_allocated.Goals as goal

pub is_taken-requires-clause-page : goal.is_taken-requires-clause-page
is_taken-requires-clause-page c = c.row.ensures.few

pub returns-then-block-blocks_per_page : goal.returns-then-block-blocks_per_page
returns-then-block-blocks_per_page c = flag_told c.args.self.now c.args.arena.now.words c.requires.together c.args.block.page c.requires.page c.in-Some.row c.args.block.index c.is_taken.result (sym c.in-Some.is ∙ c.row.ensures.row) c.is_taken.ensures

pub returns-else-block-blocks_per_page : goal.returns-else-block-blocks_per_page
returns-else-block-blocks_per_page c = (λ h. absurd (omega (arith, c.if-block-blocks_per_page.false, ltb-true c.args.block.index c.blocks_per_page.result h)), λ h. absurd (no_flag_told c.args.self.now c.args.arena.now.words c.requires.together c.args.block.page c.requires.page c.in-Some.row c.args.block.index (sym c.in-Some.is ∙ c.row.ensures.row) (omega (arith, c.if-block-blocks_per_page.false, c.blocks_per_page.ensures.blocks)) h))

pub returns-in-None : goal.returns-in-None
returns-in-None c = (never, λ h. absurd (no_page_told c.args.self.now c.args.arena.now.words c.requires.together c.args.block.page c.requires.page (λ (p : Page). slice_get p.allocated c.args.block.index ≡ Some true) c.row.result c.row.ensures.row c.in-None.is h))
