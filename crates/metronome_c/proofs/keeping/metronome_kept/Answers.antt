use Rattle.std.proofs.Common.{rules}
use Rattle.metronome_c.specs.Keeping.{work_of}
use Rattle.metronome_c.proofs.Telling.{finds, found_in_turn}
use Rattle.metronome_c.proofs.keeping.metronome_kept.Goals as goal

pub returns : goal.returns
returns c = finds work_of _ _ _ c.ask-found.result _ _ _ (λ h a k met. search rules) (λ v a w met. search (rules, found_in_turn)) c.ask-found.ensures (search rules)
