-- Events as a log keeps them.
use Rattle.std.specs.Prelude.{◌≡◌, List, [], ◌∷◌}
use Rattle.heap_model.specs.Event.{Event, Command_done, Cycle_begun, Begin_refused, Quantum_done, Quantum_refused}
use Rattle.paced.specs.declared.logged.Logged.{Logged}
use Rattle.paced.specs.declared.logged.Logged.TheVariants as logged

-- the event that a log keeps so
abbrev pub event_of : Logged → Event
event_of (logged.Command m c reply) = Command_done m c reply
event_of logged.Begun = Cycle_begun
event_of logged.BeginRefused = Begin_refused
event_of (logged.Quantum budget units phase) = Quantum_done budget units phase
event_of (logged.QuantumRefused budget) = Quantum_refused budget

-- events were entered in a log, one after the other
abbrev pub Enters : {S : Type 0} → (S → Event → S → Type 0) → S → List Event → S → Type 0
Enters enters old [] new = new ≡ old
Enters {S} enters old (e ∷ es) new = (mid : S) × enters old e mid × Enters enters mid es new
