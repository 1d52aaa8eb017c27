use Rattle.std.proofs.Common.{rules, ◌≤◌}
use Rattle.heap_model.specs.Spent.{cycle_limit}
use Rattle.metronome_c.proofs.Telling.{tells, shows}
use Rattle.metronome_c.proofs.figures.metronome_units.Goals as goal

pub returns-clause-units : goal.returns-clause-units
returns-clause-units c = tells (λ h. h.units) _ _ _ _ _ _ (λ h a met. search rules) c.inspect.ensures.same c.inspect.ensures.looks c.tell.ensures

pub returns-clause-within : goal.returns-clause-within
returns-clause-within c = shows (λ h. h.units ≤ cycle_limit h) _ _ _ (λ h a met. search rules) c.inspect.ensures.looks
