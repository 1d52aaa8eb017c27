use Rattle.space.proofs.Paces.Unmoved.{unmoved_suffices as it}
use Rattle.space.proofs.bound.space_suffices_unmoved.Goals as goal

pub returns : goal.returns
returns c = it
