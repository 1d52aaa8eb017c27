use Rattle.std.proofs.Common.{true}
use Rattle.program.specs.Demand.{Measures, IsEnoughOn}
use Rattle.program.specs.Bounds.{enough_of}
use Rattle.program.proofs.Trials.{or_fault, still_enough, still_few, moved_decides}
use Rattle.program.proofs.room.trial_on.Goals as goal

pub returns-then-still-clause-trial : goal.returns-then-still-clause-trial
returns-then-still-clause-trial c = still_enough c.args.config.now c.args.text.now c.args.pages c.in_ok-still.still c.if-still.true c.in_ok-still.ensures.trial

pub returns-clause-trial : goal.returns-clause-trial
returns-clause-trial c =
    let k = c.args.config.now in
    let text = c.args.text.now in
    let none = still_few k text c.args.pages c.in_ok-still.still c.if-still.false c.in_ok-still.ensures.trial in
    or_fault k text (λ t. Measures k text true c.args.pages t.enough t.config) (λ t. IsEnoughOn k text c.args.pages (enough_of t)) c.trial_of-2.result (λ t m. moved_decides k text c.args.pages none t m) c.trial_of-2.ensures.trial
