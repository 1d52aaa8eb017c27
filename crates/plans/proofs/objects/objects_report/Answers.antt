use Rattle.std.proofs.Common.{ℕ, List, ◌++◌, append-nil, ap, ap₂, ◌∙◌, subst}
use Rattle.std.specs.Prelude.{option_map, string_bytes}
use Rattle.std.proofs.lemmas.Result.{IfOk-weaker}
use Rattle.paced.specs.Planning.{IsLeastPagesFor}
use Rattle.paced.specs.Rooms.{made_of}
use Rattle.plans.specs.Objects.{IsObjectsReport}
use Rattle.plans.specs.Report.{IsPlansReport}
use Rattle.plans.proofs.objects.objects_report.Goals as goal

pub returns : goal.returns
returns c =
    let classes = option_map (λ used. used.now) c.args.classes in
    let report = string_bytes c.in_ok-plans_report.field-0 in
    let last = string_bytes c.in_ok-megabytes_line.field-0 in
    IfOk-weaker c.concat.result _ (λ text. IsObjectsReport classes c.args.config.now c.args.groups.now c.args.largest c.args.asks.now (string_bytes text)) (λ text same. record {
      report = report;
      of_words = subst (λ (live : ℕ). IsPlansReport classes c.args.config.now (record { live = live; largest = c.args.largest }) c.args.asks.now report) c.words_of_objects-live.ensures c.in_ok-plans_report.ensures;
      least = c.least_pages_for.result;
      is_least = subst (λ (live : ℕ). IsLeastPagesFor (made_of classes) c.args.config.now live c.args.largest c.least_pages_for.result) c.words_of_objects-live.ensures c.least_pages_for.ensures;
      told = same ∙ ap₂ (λ (x y : List ℕ). x ++ y) c.in_ok-group_lines.ensures (ap (λ z. report ++ z) (append-nil last ∙ c.in_ok-megabytes_line.ensures));
    }) c.concat.ensures.ok
