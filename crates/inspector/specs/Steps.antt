-- The effect of a step of a run on the cycle that it found.
use Rattle.std.specs.Prelude.{Bool, true, false, ◌&&◌, not}
use Rattle.heap_model.specs.Event.{Event, Cycle_begun, Quantum_done}
use Rattle.heap_model.specs.Phases.{awaits_sweep_end}
use Rattle.space.specs.Pace.{in_cycle}
use Rattle.trace.specs.Steps.{Step}

-- the event is the beginning of a cycle
abbrev pub is_beginning : Event → Bool
is_beginning Cycle_begun = true
is_beginning event = false

-- the event is a quantum
abbrev pub is_quantum : Event → Bool
is_quantum (Quantum_done budget units phase) = true
is_quantum event = false

-- the step begins a cycle
abbrev pub begins : Step → Bool
begins s = is_beginning s.event

-- the step is a quantum that finds a cycle running
abbrev pub works : Step → Bool
works s = is_quantum s.event && in_cycle s.before.heap.phase

-- the step is a quantum that ends the sweep
abbrev pub ends_sweep : Step → Bool
ends_sweep s = works s && (awaits_sweep_end s.before.heap.phase && not (awaits_sweep_end s.after.heap.phase))

-- the step is a quantum that ends the cycle
abbrev pub ends_cycle : Step → Bool
ends_cycle s = works s && not (in_cycle s.after.heap.phase)
