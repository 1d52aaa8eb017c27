use Rattle.std.proofs.Common.{arith, ap, ◌-◌, ◌∙◌}
use Rattle.heap_model.specs.Pages.{whole_pages}
use Rattle.pages.proofs.Needing.{rounded_up}
use Rattle.pages.proofs.table.PageTable.pages_for.Goals as goal

pub returns-clause-pages : goal.returns-clause-pages
returns-clause-pages c = λ words t.
    rounded_up c.saturating_sub-missing.result c.from-2.result c.args.class c.div_ceil.result (c.from-2.ensures ∙ c.blocks_per_page.ensures.blocks) (omega (arith, c.from-2.ensures, c.blocks_per_page.ensures.within.0)) c.div_ceil.ensures
    ∙ ap (whole_pages c.args.class) (c.saturating_sub-missing.ensures ∙ ap (λ n. n - c.free_blocks.result) c.from.ensures ∙ ap (λ n. c.args.blocks - n) (c.free_blocks.ensures.free words t))
