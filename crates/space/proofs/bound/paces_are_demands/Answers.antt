use Rattle.space.proofs.Paces.Moved.{pace_keeps as it}
use Rattle.space.proofs.bound.paces_are_demands.Goals as goal

pub returns : goal.returns
returns c = it
