use Rattle.std.proofs.Common.{◌∙◌}
use Rattle.pages.proofs.Reading.{free_on_told}
use Rattle.pages.proofs.table.PageTable.free_on.Goals as goal

pub returns-clause-free : goal.returns-clause-free
returns-clause-free c = λ words t. c.free_on.ensures.free ∙ free_on_told c.args.self.now words t c.args.page c.requires c.args.class c.row.result c.row.ensures.row
