use Rattle.std.proofs.Common.{Some, ◌∙◌, sym, refl}
use Rattle.std.specs.Prelude.{option_map}
use Rattle.heap_model.specs.Pages.{Page}
use Rattle.pages.specs.declared.page.PageRow.{PageRow}
use Rattle.pages.proofs.Reading.{told, none_told}
use Rattle.pages.proofs.table.PageTable.class.Goals as goal

pub returns-in_err-row : goal.returns-in_err-row
returns-in_err-row c = λ words t. c.from_residual.ensures ∙ sym (none_told c.args.self.now words t c.args.page c.requires (option_map (λ (p : Page). p.class)) c.row.result c.row.ensures.row c.in_err-row.was)

pub returns : goal.returns
returns c = λ words t. told c.args.self.now words t c.args.page c.requires (option_map (λ (r : PageRow). r.class)) (option_map (λ (p : Page). p.class)) (Some c.in_ok-row.field-0) (sym c.in_ok-row.was ∙ c.row.ensures.row) refl
