use Rattle.metronome_c.proofs.Calling.{made_by}
use Rattle.metronome_c.proofs.Costing.{keeps_costs}
use Rattle.metronome_c.proofs.TouchedPages.{touched_made}
use Rattle.metronome_c.specs.Touching.{touched_held}
use Rattle.metronome_c.proofs.laws.kept_heaps_cost_few_quanta.Goals as goal

pub returns : goal.returns
returns c = record {
  kept = λ s h k made status flow before stretch mid new created keeps done called again. keeps_costs s h (made_by s h made created) flow k status keeps done before mid called stretch new again;
  touched = λ s h k made status pages flow before stretch mid new created keeps done called again. keeps_costs s (touched_held h pages) (touched_made s h pages (made_by s h made created)) flow k status keeps done before mid called stretch new again;
}
