use Rattle.std.proofs.Common.{ap, ◌∙◌}
use Rattle.std.specs.Prelude.{count_by}
use Rattle.pages.specs.Index.{row_free}
use Rattle.pages.proofs.Telling.{free_count}
use Rattle.pages.proofs.table.PageTable.free_pages.Goals as goal

pub returns-clause-free : goal.returns-clause-free
returns-clause-free c = λ words t. c.self.invariant.pages_are ∙ ap (count_by row_free) c.self.view_is ∙ free_count c.args.self.now words t
