use Rattle.std.proofs.Common.{◌∙◌}
use Rattle.pages.proofs.Reading.{choosable_told}
use Rattle.pages.proofs.table.PageTable.is_choosable.Goals as goal

pub returns : goal.returns
returns c = λ words t. c.is_choosable.ensures ∙ choosable_told c.args.self.now words t c.args.page c.requires c.args.class c.row.result c.row.ensures.row
