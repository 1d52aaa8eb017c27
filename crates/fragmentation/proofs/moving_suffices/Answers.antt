use Rattle.fragmentation.proofs.Suffice.Moving.{moving_suffices as it}
use Rattle.fragmentation.proofs.moving_suffices.Goals as goal

pub returns : goal.returns
returns c = it
