use Rattle.space.proofs.Counts.{bounded_room as it}
use Rattle.space.proofs.steps.bounded_pages_have_room.Goals as goal

pub returns : goal.returns
returns c = it
