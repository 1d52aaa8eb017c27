use Rattle.std.proofs.Common.{◌≡◌, ◌∙◌, sym, ap}
use Rattle.std.specs.Prelude.{Some, None}
use Rattle.std.specs.Result.{result_err}
use Rattle.size_classes.specs.declared.ranges.Ranges.TheVariants.{Library}
use Rattle.size_classes.specs.Config.{fault_of}
use Rattle.metronome_c.proofs.Fitting.{suits_each, suits_faulty, unsuited}
use Rattle.metronome_c.proofs.planning.MetronomeFlow.suits_settings.Goals as goal

pub returns-in-Ok-clause-yes : goal.returns-in-Ok-clause-yes
returns-in-Ok-clause-yes c is = suits_each c.args.settings.now c.in-Ok.config c.args.self.now c.in-Ok.ensures.values (c.suits.ensures.yes is)

pub returns-in-Ok-clause-no : goal.returns-in-Ok-clause-no
returns-in-Ok-clause-no c isnt =
    let s = c.args.settings.now in
    let f : None ≡ fault_of Library s = ap result_err (sym c.in-Ok.is) ∙ c.check_for_library.ensures.fault in
    unsuited s c.in-Ok.config c.args.self.now f c.in-Ok.ensures.values (c.suits.ensures.no isnt)

pub returns-in-Err-clause-yes : goal.returns-in-Err-clause-yes
returns-in-Err-clause-yes c is =
    let s = c.args.settings.now in
    let f : Some c.in-Err._fault ≡ fault_of Library s = ap result_err (sym c.in-Err.is) ∙ c.check_for_library.ensures.fault in
    suits_faulty s c.in-Err._fault c.args.self.now f
