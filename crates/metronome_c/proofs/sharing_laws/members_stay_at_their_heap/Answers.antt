use Rattle.metronome_c.proofs.Staying.{entered, left, looked, called, collected, added}
use Rattle.metronome_c.proofs.sharing_laws.members_stay_at_their_heap.Goals as goal

pub returns : goal.returns
returns c = record { entering = entered; leaving = left; looking = looked; calling = called; collecting = collected; adding = added }
