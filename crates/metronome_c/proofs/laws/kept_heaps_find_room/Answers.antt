use Rattle.metronome_c.proofs.Calling.{made_by}
use Rattle.metronome_c.proofs.KeptCalling.{keeps_room}
use Rattle.metronome_c.proofs.TouchedPages.{touched_made}
use Rattle.metronome_c.specs.Touching.{touched_held}
use Rattle.metronome_c.proofs.laws.kept_heaps_find_room.Goals as goal

pub returns : goal.returns
returns c = record {
  kept = λ s h k made status flow calls new created keeps done called. keeps_room s h (made_by s h made created) flow calls new k status keeps done called;
  touched = λ s h k made status pages flow calls new created keeps done called. keeps_room s (touched_held h pages) (touched_made s h pages (made_by s h made created)) flow calls new k status keeps done called;
}
