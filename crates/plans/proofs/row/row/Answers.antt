use Rattle.std.proofs.Common.{◌++◌, List, ℕ, append-nil, ap₂, ◌∙◌}
use Rattle.std.specs.Prelude.{option_map, string_bytes}
use Rattle.std.proofs.lemmas.Result.{IfOk-weaker}
use Rattle.paced.specs.Rooms.{made_of}
use Rattle.plans.specs.Report.{IsRow}
use Rattle.plans.proofs.Rows.{fastest_words}
use Rattle.plans.proofs.row.row.Goals as goal

pub plan_line-requires : goal.plan_line-requires
plan_line-requires c = fastest_words (made_of (option_map (λ used. used.now) c.args.classes)) c.on_pages-on.result c.args.needs.live c.args.needs.largest c.planned_for-plan.result c.planned_for-plan.ensures

pub waits_lines-requires : goal.waits_lines-requires
waits_lines-requires c = fastest_words (made_of (option_map (λ used. used.now) c.args.classes)) c.on_pages-on.result c.args.needs.live c.args.needs.largest c.planned_for-plan.result c.planned_for-plan.ensures

pub returns : goal.returns
returns c =
    let on = c.on_pages-on.result in
    let plan = c.planned_for-plan.result in
    let waits = string_bytes c.in_ok-waits_lines.field-0 in
    IfOk-weaker c.concat.result _ (λ text. IsRow (made_of (option_map (λ used. used.now) c.args.classes)) c.args.config.now c.args.needs c.args.asks.now c.args.pages (string_bytes text))
    (λ text same. (record { on = on; is_on = c.on_pages-on.ensures; plan = plan; fastest = c.planned_for-plan.ensures }, same ∙ ap₂ (λ (x y : List ℕ). x ++ y) c.in_ok-plan_line.ensures (append-nil waits ∙ c.in_ok-waits_lines.ensures))) c.concat.ensures.ok
