use Rattle.std.proofs.Common.{rules}
use Rattle.metronome_c.specs.Collecting.{phase_number}
use Rattle.metronome_c.specs.Figures.{RepresentsSome}
use Rattle.metronome_c.proofs.Telling.{tells, shows}
use Rattle.metronome_c.proofs.figures.metronome_phase.Goals as goal

pub returns-clause-phase : goal.returns-clause-phase
returns-clause-phase c = tells (λ h. phase_number h.phase) _ _ _ _ _ _ (λ h a met. search rules) c.inspect.ensures.same c.inspect.ensures.looks c.tell.ensures

pub returns-clause-represents : goal.returns-clause-represents
returns-clause-represents c = shows RepresentsSome _ _ _ (λ h a met. search rules) c.inspect.ensures.looks
