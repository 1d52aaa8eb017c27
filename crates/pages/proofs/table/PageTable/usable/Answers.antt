use Rattle.std.proofs.Common.{◌∙◌}
use Rattle.pages.proofs.Telling.{usable_pages}
use Rattle.pages.proofs.table.PageTable.usable.Goals as goal

pub returns : goal.returns
returns c = λ words t. c.first_usable.ensures ∙ usable_pages c.args.self.now words t c.args.class
