use Rattle.std.proofs.Common.{rules}
use Rattle.metronome_c.specs.Figures.{last_ended}
use Rattle.metronome_c.proofs.Telling.{finds, found_in_turn}
use Rattle.metronome_c.proofs.figures.metronome_last_cycle.Goals as goal

pub returns : goal.returns
returns c = finds last_ended _ _ _ c.ask-found.result _ _ _ (λ h a k met. search rules) (λ v a w met. search (rules, found_in_turn)) c.ask-found.ensures (search rules)
