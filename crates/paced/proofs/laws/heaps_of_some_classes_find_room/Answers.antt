use Rattle.paced.proofs.Opened.{finds_room_for}
use Rattle.paced.proofs.laws.heaps_of_some_classes_find_room.Goals as goal

pub returns : goal.returns
returns c = λ config plan live makes old new es made moves fits only path. finds_room_for makes config plan live old new es made moves fits only path
