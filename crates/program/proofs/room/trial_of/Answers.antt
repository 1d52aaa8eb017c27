use Rattle.std.proofs.Common.{sym}
use Rattle.program.specs.Demand.{Measures}
use Rattle.program.proofs.Trials.{handed_on}
use Rattle.program.proofs.room.trial_of.Goals as goal

pub returns-in_err-needed-clause-trial : goal.returns-in_err-needed-clause-trial
returns-in_err-needed-clause-trial c =
    handed_on c.args.config.now c.args.text.now (λ trial. Measures c.args.config.now c.args.text.now c.args.moves c.args.pages trial.enough trial.config) c.from_residual.result c.in_err-needed.field-0.0 c.from_residual.ensures.1 (c.args.moves, c.args.pages, c.on_pages-config.result, c.on_pages-config.ensures, c.in_err-needed.ensures.measured)

pub returns-clause-trial : goal.returns-clause-trial
returns-clause-trial c = (c.on_pages-config.ensures, c.in_ok-needed.field-0, c.in_ok-needed.ensures.measured, sym c.is_enough-enough.ensures)
