use Rattle.std.proofs.Common.{rules, ◌≡◌, ◌∙◌, sym, ap}
use Rattle.std.specs.Prelude.{Some, None}
use Rattle.std.specs.Result.{result_err}
use Rattle.size_classes.specs.declared.ranges.Ranges.TheVariants.{Library}
use Rattle.size_classes.specs.Config.{fault_of}
use Rattle.metronome_c.proofs.Limits.{limit_told, limit_refused}
use Rattle.metronome_c.proofs.limit.metronome_cycle_limit.Goals as goal

pub returns-in-Ok : goal.returns-in-Ok
returns-in-Ok c =
    let s = c.args.settings.now in
    let f : None ≡ fault_of Library s = ap result_err (sym c.in-Ok.is) ∙ c.check_for_library.ensures.fault in
    limit_told s c.in-Ok.config _ _ _ f c.in-Ok.ensures.values (search rules) (search rules)

pub returns-in-Err : goal.returns-in-Err
returns-in-Err c =
    let s = c.args.settings.now in
    let f : Some c.in-Err.fault ≡ fault_of Library s = ap result_err (sym c.in-Err.is) ∙ c.check_for_library.ensures.fault in
    limit_refused s c.in-Err.fault _ _ f (search rules)
