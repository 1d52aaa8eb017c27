use Rattle.heap_model.proofs.Rooms.{first_same as it}
use Rattle.heap_model.proofs.room.room_for_first.Goals as goal

pub returns : goal.returns
returns c = it
