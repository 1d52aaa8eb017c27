use Rattle.metronome_c.proofs.Calling.{made_by, promised, are_events}
use Rattle.metronome_c.proofs.TouchedPages.{touched_made}
use Rattle.metronome_c.specs.Touching.{touched_held}
use Rattle.metronome_c.proofs.laws.calls_are_events.Goals as goal

pub returns : goal.returns
returns c = record {
  made = λ s h status created. promised s h (made_by s h status created);
  calls = λ s h status calls new created called. are_events s h (made_by s h status created) calls new called;
  touched = λ s h status pages created. promised s (touched_held h pages) (touched_made s h pages (made_by s h status created));
  after = λ s h status pages calls new created called. are_events s (touched_held h pages) (touched_made s h pages (made_by s h status created)) calls new called;
}
