use Rattle.std.proofs.Common.{false, Some, None, ap, ◌∙◌, sym, set, cond, eq-eqb}
use Rattle.std.proofs.lemmas.Bool.{ne_eqb}
use Rattle.pages.proofs.Reading.{closed_by, unchanged_by}
use Rattle.pages.proofs.table.PageTable.close_page.Goals as goal

pub returns-then-row-eq0-clause-closed : goal.returns-then-row-eq0-clause-closed
returns-then-row-eq0-clause-closed c = λ words t.
    let r = c.in-Some.row in
    closed_by c.args.self.now words t c.args.page c.requires (Some r) c.put.new.self (sym c.in-Some.is ∙ c.row.ensures.row)
    (c.put.ensures ∙ ap (λ b. set c.args.self.now c.args.page (cond b None (Some (record r { evacuating = false; is_target = false })))) (sym (eq-eqb r.allocated 0 c.if-row-eq0.true)))

pub returns-else-row-eq0-clause-closed : goal.returns-else-row-eq0-clause-closed
returns-else-row-eq0-clause-closed c = λ words t.
    let r = c.in-Some.row in
    closed_by c.args.self.now words t c.args.page c.requires (Some r) c.update.new.self (sym c.in-Some.is ∙ c.row.ensures.row)
    (c.update.ensures ∙ ap (λ b. set c.args.self.now c.args.page (cond b None (Some (record r { evacuating = false; is_target = false })))) (sym (ne_eqb r.allocated 0 c.if-row-eq0.false)))

pub returns-in_default-clause-closed : goal.returns-in_default-clause-closed
returns-in_default-clause-closed c = λ words t.
    closed_by c.args.self.now words t c.args.page c.requires None c.args.self.now (sym c.in_default.is ∙ c.row.ensures.row) (unchanged_by c.args.self.now words t c.args.page c.requires c.row.result c.row.ensures.row c.in_default.is)
