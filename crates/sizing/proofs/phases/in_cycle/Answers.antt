use Rattle.std.proofs.Common.{◌≡◌, refl, ap, ◌∙◌}
use Rattle.std.specs.Prelude.{not}
use Rattle.heap_model.specs.declared.phase.Phase.{Phase}
use Rattle.heap_model.specs.declared.phase.Phase.TheVariants as phases
use Rattle.heap_model.specs.Phases.{is_idle}
use Rattle.space.specs.Pace.{in_cycle}
use Rattle.sizing.proofs.phases.in_cycle.Goals as goal

busy : (p : Phase) → not (is_idle p) ≡ in_cycle p
busy phases.Idle = refl
busy (phases.Roots next) = refl
busy (phases.Marking part cell) = refl
busy (phases.Sweeping page block) = refl
busy (phases.Moving m) = refl

pub returns : goal.returns
returns c = ap not c.is_idle.ensures ∙ busy c.args.phase
