use Rattle.std.proofs.Common.{rules, ◌≡◌, ◌∙◌, sym, ap}
use Rattle.std.specs.Prelude.{Some, None}
use Rattle.std.specs.Result.{result_err}
use Rattle.size_classes.specs.declared.ranges.Ranges.TheVariants.{Library}
use Rattle.size_classes.specs.Config.{fault_of}
use Rattle.metronome_c.proofs.Fitting.{plan_told, plan_refused}
use Rattle.metronome_c.proofs.planning.tell_plan.Goals as goal

pub returns-in-Err : goal.returns-in-Err
returns-in-Err c =
    let s = c.args.settings.now in
    let f : Some c.in-Err.fault ≡ fault_of Library s = ap result_err (sym c.in-Err.is) ∙ c.check_for_library.ensures.fault in
    plan_refused s c.in-Err.fault c.args.live_words c.args.largest _ _ f (search rules)

pub returns : goal.returns
returns c =
    let s = c.args.settings.now in
    let f : None ≡ fault_of Library s = ap result_err (sym c.in-Ok.is) ∙ c.check_for_library.ensures.fault in
    plan_told s c.in-Ok.config c.args.live_words c.args.largest c.of_plan.ensures.0 c.planned_in-plan.result _ _ _ f c.in-Ok.ensures.values c.of_plan.ensures.1 c.planned_in-plan.ensures c.of_plan.ensures.2 (search rules)
