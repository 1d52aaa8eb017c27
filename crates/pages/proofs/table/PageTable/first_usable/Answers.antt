use Rattle.std.proofs.Common.{ap, ◌∙◌, arith}
use Rattle.std.specs.Prelude.{position}
use Rattle.pages.specs.Index.{row_usable}
use Rattle.pages.proofs.Indexing.{usable_is}
use Rattle.pages.proofs.table.PageTable.first_usable.Goals as goal

pub returns : goal.returns
returns c =
    usable_is c.self.inside.rows.items c.self.inside.usable.items c.self.inside.free c.self.inside.free_blocks.items c.self.inside.free_pages c.self.invariant c.args.class c.number.result
    (omega (arith, c.number.ensures.number, c.number.ensures.within)) c.number.ensures.number c.index.result.now c.index.ensures
    c.first.result c.first.ensures.here c.first.ensures.first c.first.ensures.none ∙ ap (position (row_usable c.args.class)) c.self.view_is
