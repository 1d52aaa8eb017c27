-- How quanta started.
use Rattle.heap_model.specs.declared.phase.Phase.{Phase}
use Rattle.heap_model.specs.declared.phase.Phase.TheVariants as phases
use Rattle.trace.specs.declared.player.start.PhaseName.{PhaseName}
use Rattle.trace.specs.declared.player.start.PhaseName.TheVariants.{Idle, Roots, Marking, Sweeping, Moving}

-- the phase, without its progress
abbrev pub name_of : Phase → PhaseName
name_of phases.Idle = Idle
name_of (phases.Roots next) = Roots
name_of (phases.Marking part cell) = Marking
name_of (phases.Sweeping page block) = Sweeping
name_of (phases.Moving m) = Moving
