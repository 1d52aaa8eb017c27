use Rattle.std.proofs.Common.{◌++◌, append-nil, ap, ◌∙◌, subst}
use Rattle.std.specs.Prelude.{string_bytes}
use Rattle.std.proofs.lemmas.Result.{IfOk-weaker}
use Rattle.plans.specs.Report.{IsClassesLine}
use Rattle.plans.specs.Live.{IsRunPlans}
use Rattle.plans.proofs.runs.run_plans.Goals as goal

pub returns : goal.returns
returns c =
    let report = string_bytes c.in_ok-plans_report.field-0 in
    let line = string_bytes c.in_ok-classes_line.field-0 in
    IfOk-weaker c.concat.result _ (λ text. IsRunPlans c.args.config.now c.args.live.now (string_bytes text)) (λ text same. record {
      report = report;
      of_all = c.in_ok-plans_report.ensures;
      used = c.in_ok-used.used.items;
      made = c.in_ok-used.ensures;
      line = line;
      of_used = subst (λ used. IsClassesLine c.args.config.now c.args.live.now.words used line) c.as_slice.ensures.value (c.in_ok-classes_line.ensures);
      told = same ∙ ap (λ z. report ++ z) (append-nil line);
    }) c.concat.ensures.ok
