use Rattle.std.proofs.Common.{◌∙◌, ap, sym}
use Rattle.std.proofs.lemmas.Result.{err_from_is_err_and}
use Rattle.size_classes.specs.Config.{budget_fault, fault_by}
use Rattle.toml.specs.View.{table_view}
use Rattle.documents.proofs.Faults.{document_fault-key, document_fault-budget}
use Rattle.documents.proofs.config_file.config_in.Goals as goal

pub returns-in_err-settings-clause-fault : goal.returns-in_err-settings-clause-fault
returns-in_err-settings-clause-fault c =
    let p = err_from_is_err_and c.from_residual.result c.from_residual.ensures.1 in
    let known = sym c.has_unknown_key.ensures ∙ c.if-has_unknown_key.false in
    rw (p.1, p.2) (sym (document_fault-key (table_view c.args.document.now) c.in_err-settings.field-0.0 known (sym c.in_err-settings.ensures.fault)))

pub returns-clause-fault : goal.returns-clause-fault
returns-clause-fault c =
    let known = sym c.has_unknown_key.ensures ∙ c.if-has_unknown_key.false in
    c.check.ensures.fault
    ∙ ap (λ key. fault_by key (budget_fault c.in_ok-settings.settings)) c.in_ok-settings.ensures.ranges
    ∙ ap budget_fault c.in_ok-settings.ensures.values
    ∙ sym (document_fault-budget (table_view c.args.document.now) known (sym c.in_ok-settings.ensures.fault))
