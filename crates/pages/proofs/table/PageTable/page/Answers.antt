use Rattle.std.proofs.Common.{List, Option, ◌∙◌, sym, ap, length, arith}
use Rattle.pages.specs.declared.page.PageRow.{PageRow}
use Rattle.pages.specs.View.{view_of}
use Rattle.pages.proofs.Reading.{view_told, allocated_count, none_told, past_told}
use Rattle.pages.proofs.table.PageTable.page.Goals as goal

pub returns-then-page-len-clause-view : goal.returns-then-page-len-clause-view
returns-then-page-len-clause-view c = λ words t. sym (past_told view_of c.args.self.now words c.args.page (omega (arith, c.if-page-len.true, c.len.ensures, ap (λ (l : List (Option PageRow)). length l) c.self.view_is)))

pub returns-in_err-row-clause-view : goal.returns-in_err-row-clause-view
returns-in_err-row-clause-view c = λ words t. c.from_residual.ensures ∙ sym (none_told c.args.self.now words t c.args.page (omega (arith, c.if-page-len.false, c.len.ensures, ap (λ (l : List (Option PageRow)). length l) c.self.view_is)) view_of c.row.result c.row.ensures.row c.in_err-row.was)

pub returns-clause-view : goal.returns-clause-view
returns-clause-view c = λ words t. view_told c.args.self.now words t c.args.page (omega (arith, c.if-page-len.false, c.len.ensures, ap (λ (l : List (Option PageRow)). length l) c.self.view_is)) c.in_ok-row.row (sym c.in_ok-row.was ∙ c.row.ensures.row)

pub returns-clause-within : goal.returns-clause-within
returns-clause-within c = λ words t. (allocated_count c.args.self.now words t c.args.page (omega (arith, c.if-page-len.false, c.len.ensures, ap (λ (l : List (Option PageRow)). length l) c.self.view_is)) c.in_ok-row.row (sym c.row.ensures.row ∙ c.in_ok-row.was)).1
