use Rattle.space.proofs.Rooms.{asks_less}
use Rattle.space.proofs.bound.commands_ask_for_their_shapes.Goals as goal

pub returns : goal.returns
returns c = asks_less
