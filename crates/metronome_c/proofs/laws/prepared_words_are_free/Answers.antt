use Rattle.metronome_c.proofs.Calling.{made_by}
use Rattle.metronome_c.proofs.Costing.{are_free}
use Rattle.metronome_c.proofs.Soon.{ends_soon}
use Rattle.metronome_c.proofs.TouchedPages.{touched_made}
use Rattle.metronome_c.specs.Touching.{touched_held}
use Rattle.metronome_c.proofs.laws.prepared_words_are_free.Goals as goal

pub returns : goal.returns
returns c = record {
  free = λ s h k made status flow before stretch mid ready new words was left told created keeps done called prepares ok none again. are_free s h (made_by s h made created) flow k status keeps done before mid called stretch ready new words was left told prepares ok none again;
  soon = λ s h k made status flow before row mid ready new words was left told created keeps done called prepares ok are few again. ends_soon s h (made_by s h made created) flow k status keeps done before row mid ready new words was left told called prepares ok are few again;
  free_touched = λ s h k made status pages flow before stretch mid ready new words was left told created keeps done called prepares ok none again. are_free s (touched_held h pages) (touched_made s h pages (made_by s h made created)) flow k status keeps done before mid called stretch ready new words was left told prepares ok none again;
  soon_touched = λ s h k made status pages flow before row mid ready new words was left told created keeps done called prepares ok are few again. ends_soon s (touched_held h pages) (touched_made s h pages (made_by s h made created)) flow k status keeps done before row mid ready new words was left told called prepares ok are few again;
}
