use Rattle.metronome_c.proofs.Rooms.{room_found}
use Rattle.metronome_c.proofs.sharing_laws.members_find_room.Goals as goal

pub returns-clause-room : goal.returns-clause-room
returns-clause-room c = λ s log status flow first created. room_found _ c.members_keep_promises.ensures.promised s log status flow first created
