use Rattle.heap_model.proofs.Rooms.{next_given as it0}
use Rattle.heap_model.proofs.Rooms.{next_left as it1}
use Rattle.heap_model.proofs.room.room_for_next.Goals as goal

pub returns-clause-gives : goal.returns-clause-gives
returns-clause-gives c = it0

pub returns-clause-left : goal.returns-clause-left
returns-clause-left c = it1
