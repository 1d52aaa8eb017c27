use Rattle.space.proofs.Rooms.{all_have_room}
use Rattle.space.proofs.bound.only_new_needs_room.Goals as goal

pub returns : goal.returns
returns c = λ r new es runs none. all_have_room es r new runs none
