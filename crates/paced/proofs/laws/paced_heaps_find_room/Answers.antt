use Rattle.paced.proofs.Opened.{finds_room}
use Rattle.paced.proofs.laws.paced_heaps_find_room.Goals as goal

pub returns : goal.returns
returns c = λ config plan live old new es made moves fits path. finds_room config plan live old new es made moves fits path
