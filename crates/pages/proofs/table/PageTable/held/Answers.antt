use Rattle.std.proofs.Common.{◌∙◌, sym}
use Rattle.heap_model.specs.Action.{allocated_on}
use Rattle.pages.proofs.Reading.{allocated_told, allocated_count, none_told}
use Rattle.pages.proofs.table.PageTable.held.Goals as goal

pub returns-in-Some-clause-allocated : goal.returns-in-Some-clause-allocated
returns-in-Some-clause-allocated c = λ words t. allocated_told c.args.self.now words t c.args.page c.requires c.in-Some.row (sym c.in-Some.is ∙ c.row.ensures.row)

pub returns-in-Some-clause-within : goal.returns-in-Some-clause-within
returns-in-Some-clause-within c = λ words t. (allocated_count c.args.self.now words t c.args.page c.requires c.in-Some.row (sym c.row.ensures.row ∙ c.in-Some.is)).1

pub returns-in-None-clause-allocated : goal.returns-in-None-clause-allocated
returns-in-None-clause-allocated c = λ words t. sym (none_told c.args.self.now words t c.args.page c.requires allocated_on c.row.result c.row.ensures.row c.in-None.is)
