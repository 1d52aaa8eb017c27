use Rattle.std.proofs.Common.{◌≡◌, ◌<◌, get_or, ap, ◌∙◌, arith}
use Rattle.std.specs.Prelude.{sum_by}
use Rattle.std.proofs.lemmas.List.{get_or_read}
use Rattle.size_classes.specs.declared.class.TheConstants.{CLASSES}
use Rattle.pages.specs.Index.{row_free_on}
use Rattle.pages.proofs.Indexing.{rows_few}
use Rattle.pages.proofs.Telling.{free_sum}
use Rattle.pages.proofs.table.PageTable.free_blocks.Goals as goal

read : (c : goal.After-row_known-1) → c.index.result.now ≡ sum_by (row_free_on c.args.class) c.self.inside.rows.items
read c =
    let known : c.args.class < CLASSES = omega (arith, c.number.ensures.number, c.number.ensures.within) in
    get_or_read c.self.inside.free_blocks.items c.number.result c.index.result.now (omega (arith, c.number.ensures.within, c.self.invariant.counts)) c.index.ensures 0
    ∙ ap (λ n. get_or c.self.inside.free_blocks.items n 0) c.number.ensures.number ∙ c.self.invariant.blocks_are c.args.class known

pub returns-clause-free : goal.returns-clause-free
returns-clause-free c = λ words t. read c ∙ ap (sum_by (row_free_on c.args.class)) c.self.view_is ∙ free_sum c.args.self.now words t c.args.class

pub returns-clause-within : goal.returns-clause-within
returns-clause-within c =
    let known : c.args.class < CLASSES = omega (arith, c.number.ensures.number, c.number.ensures.within) in
    let few = rows_few c.args.class known c.self.inside.rows.items in
    omega (arith, read c, few, c.self.invariant.few)
