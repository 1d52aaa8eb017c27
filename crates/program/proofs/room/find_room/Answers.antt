use Rattle.program.specs.Demand.{IsFound}
use Rattle.program.proofs.Trials.{handed_on}
use Rattle.program.proofs.room.find_room.Goals as goal

pub returns-in_err-bounds-clause-found : goal.returns-in_err-bounds-clause-found
returns-in_err-bounds-clause-found c =
    handed_on c.args.config.now c.args.text.now (IsFound c.args.config.now c.args.text.now) c.from_residual.result c.in_err-bounds.field-0.0 c.from_residual.ensures.1 c.in_err-bounds.ensures.found

pub returns-in_err-narrow-in-Some-clause-found : goal.returns-in_err-narrow-in-Some-clause-found
returns-in_err-narrow-in-Some-clause-found c =
    handed_on c.args.config.now c.args.text.now (IsFound c.args.config.now c.args.text.now) c.from_residual-in_err-narrow-in-Some.result c.in_err-narrow-in-Some.field-0.0 c.from_residual-in_err-narrow-in-Some.ensures.1 c.in_err-narrow-in-Some.ensures.found
