use Rattle.space.proofs.Tally.{space_suffices as it}
use Rattle.space.proofs.bound.space_suffices.Goals as goal

pub returns : goal.returns
returns c = it
