-- The quanta of a run that found a cycle running.
use Rattle.std.specs.Prelude.{◌≡◌, ℕ, ◌-◌, false, List, length, map}
use Rattle.std.specs.List.{filter}
use Rattle.heap_model.specs.Event.{Event, Quantum_done}
use Rattle.trace.specs.Steps.{Step}
use Rattle.inspector.specs.Steps.{works}
use Rattle.pictures.specs.declared.quantum_log.Quantum.{Quantum}
use Rattle.pictures.specs.declared.quantum_log.QuantumLog.{QuantumLog}
use Rattle.pictures.specs.Samples.{phases_of}

-- the units that a quantum might spend
abbrev pub budget_of : Event → ℕ
budget_of (Quantum_done budget units phase) = budget
budget_of event = 0

-- a quantum: after how many commands it was, the units that it spent of its budget, and the phase that it found
abbrev pub quantum_of : Step → Quantum
quantum_of s = record {
  commands = length s.after.history;
  units = s.after.heap.units - s.before.heap.units;
  budget = budget_of s.event;
  phase = phases_of s.before.heap.phase;
}

-- the quanta of steps that found a cycle running
abbrev pub quanta_of : List Step → List Quantum
quanta_of steps = map quantum_of (filter works steps)

-- a log of the quanta of steps, if memory was refused for none
abbrev pub HasQuanta : List Step → QuantumLog → Type 0
HasQuanta steps log = log.is_refused ≡ false → log.items.items ≡ quanta_of steps
