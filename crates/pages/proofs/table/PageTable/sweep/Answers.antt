use Rattle.std.proofs.Common.{◌+◌, ◌≤◌, ◌∙◌, sym, subst, length}
use Rattle.heap_model.specs.Pages.{Page}
use Rattle.pages.specs.Sweeping.{Looks}
use Rattle.pages.specs.Together.{joined, Together}
use Rattle.pages.proofs.Sweeping.{blocks_told}
use Rattle.pages.proofs.Telling.{some_there}
use Rattle.pages.proofs.table.PageTable.sweep.Goals as goal

pub unwrap-row-requires : goal.unwrap-row-requires
unwrap-row-requires c = some_there c.args.self.now c.args.arena.now.words c.args.block.page c.requires.page (λ (p : Page). c.args.block.index + c.args.count ≤ length p.allocated) c.requires.blocks c.row.result c.row.ensures.row

pub sweep-requires-clause-page : goal.sweep-requires-clause-page
sweep-requires-clause-page c = c.row.ensures.few

pub sweep-requires-clause-blocks : goal.sweep-requires-clause-blocks
sweep-requires-clause-blocks c = blocks_told c.args.self.now c.args.arena.now.words c.args.block.page c.unwrap-row.result (sym c.row.ensures.row ∙ c.unwrap-row.ensures) (c.args.block.index + c.args.count) c.requires.blocks

pub returns-clause-together : goal.returns-clause-together
returns-clause-together c = subst (λ l. Together l c.sweep.new.arena.words) (sym c.update.ensures) (c.sweep.ensures.together c.args.self.now c.requires.together (sym c.row.ensures.row ∙ c.unwrap-row.ensures))

pub returns-clause-looks : goal.returns-clause-looks
returns-clause-looks c =
    subst (λ l. Looks c.args.colour c.args.block.page c.args.block.index (joined c.args.self.now c.args.arena.now.words) c.args.count (joined l c.sweep.new.arena.words)) (sym c.update.ensures)
    (c.sweep.ensures.looks c.args.self.now c.requires.together (sym c.row.ensures.row ∙ c.unwrap-row.ensures))
