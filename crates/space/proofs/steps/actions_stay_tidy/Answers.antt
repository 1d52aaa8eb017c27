use Rattle.space.proofs.Placement.Acting.{tidy_action as it0, only_action as it1}
use Rattle.space.proofs.steps.actions_stay_tidy.Goals as goal

pub returns-clause-tidy : goal.returns-clause-tidy
returns-clause-tidy c = it0

pub returns-clause-only : goal.returns-clause-only
returns-clause-only c = it1
