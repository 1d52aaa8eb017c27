use Rattle.space.proofs.Space.{bounded_action as it}
use Rattle.space.proofs.steps.actions_stay_bounded.Goals as goal

pub returns : goal.returns
returns c = it
