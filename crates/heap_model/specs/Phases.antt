-- Whether a cycle is running, by the phase.
use Rattle.std.specs.Prelude.{Bool, true, false}
use Rattle.heap_model.specs.declared.phase.Phase.{Phase}
use Rattle.heap_model.specs.declared.phase.Phase.TheVariants as phases

-- no cycle is running
abbrev pub is_idle : Phase → Bool
is_idle phases.Idle = true
is_idle phase = false

-- a cycle is running whose sweep hasn't ended
abbrev pub awaits_sweep_end : Phase → Bool
awaits_sweep_end phases.Idle = false
awaits_sweep_end (phases.Moving m) = false
awaits_sweep_end phase = true
