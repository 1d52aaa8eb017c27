use Rattle.std.proofs.Common.{◌∙◌, sym}
use Rattle.pages.proofs.Reading.{left_by}
use Rattle.pages.proofs.table.PageTable.leave.Goals as goal

pub returns-clause-mark : goal.returns-clause-mark
returns-clause-mark c = λ words t. left_by c.args.self.now words t c.args.page c.requires.page c.unwrap-row.result c.update.new.self (sym c.unwrap-row.ensures ∙ c.row.ensures.row) c.update.ensures
