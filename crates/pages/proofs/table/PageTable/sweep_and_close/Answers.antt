use Rattle.std.proofs.Common.{◌+◌, ◌≤◌, ◌∙◌, sym, subst, length}
use Rattle.heap_model.specs.Pages.{Page}
use Rattle.pages.specs.Together.{Together}
use Rattle.pages.proofs.Closing.{closed_together, looks_and_closes}
use Rattle.pages.proofs.Sweeping.{blocks_told}
use Rattle.pages.proofs.Telling.{some_there}
use Rattle.pages.proofs.table.PageTable.sweep_and_close.Goals as goal

pub unwrap-swept-requires : goal.unwrap-swept-requires
unwrap-swept-requires c = some_there c.args.self.now c.args.arena.now.words c.args.block.page c.requires.page (λ (p : Page). c.args.block.index + c.args.count ≤ length p.allocated) c.requires.blocks c.row.result c.row.ensures.row

pub sweep-requires-clause-blocks : goal.sweep-requires-clause-blocks
sweep-requires-clause-blocks c = blocks_told c.args.self.now c.args.arena.now.words c.args.block.page c.unwrap-swept.result (sym c.row.ensures.row ∙ c.unwrap-swept.ensures) (c.args.block.index + c.args.count) c.requires.blocks

pub returns-clause-does : goal.returns-clause-does
returns-clause-does c =
    let there = sym c.row.ensures.row ∙ c.unwrap-swept.ensures in
    looks_and_closes c.args.self.now c.sweep.new.arena.words c.args.block.page c.sweep.new.row c.requires.page (c.sweep.ensures.together c.args.self.now c.requires.together there)
    c.args.colour c.args.block.index c.args.count c.args.arena.now.words c.close_as.new.self c.close_as.ensures
    (c.sweep.ensures.looks c.args.self.now c.requires.together there)

pub returns-clause-together : goal.returns-clause-together
returns-clause-together c =
    let there = sym c.row.ensures.row ∙ c.unwrap-swept.ensures in
    subst (λ l. Together l c.sweep.new.arena.words) (sym c.close_as.ensures)
    (closed_together c.args.self.now c.sweep.new.arena.words c.args.block.page c.sweep.new.row c.requires.page (c.sweep.ensures.together c.args.self.now c.requires.together there))
