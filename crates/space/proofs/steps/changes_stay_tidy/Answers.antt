use Rattle.space.proofs.Placement.Changing.{tidy_change, only_change, bounded_change}
use Rattle.space.proofs.steps.changes_stay_tidy.Goals as goal

pub returns : goal.returns
returns c = record { tidy = tidy_change; only = only_change; bounded = bounded_change }
