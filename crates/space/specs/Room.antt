-- The object that a command requests, whatever the heap is; and that no reply is the refusal for lack of space.
use Rattle.std.specs.Prelude.{◌≡◌, ℕ, true, if◌then◌else◌, List, [], ◌∷◌}
use Rattle.graph_heap.specs.declared.command.Command.{Command}
use Rattle.graph_heap.specs.declared.command.Command.TheVariants as commands
use Rattle.graph_heap.specs.Shape.{fits}
use Rattle.graph_heap.specs.History.{had_room}
use Rattle.size_classes.specs.Need.{needed}
use Rattle.heap_model.specs.Event.{Event, Command_done, Cycle_begun, Begin_refused, Quantum_done, Quantum_refused}

-- the blocks of a class for which a command asks at most: those of a new object, if its shape isn't too large
abbrev pub asks : Command → ℕ → ℕ
asks (commands.New dst shape) class = if fits shape then needed shape class else 0
asks _ class = 0

-- no reply is the refusal for lack of space
abbrev pub HasRoom : Event → Type 0
HasRoom (Command_done m c reply) = had_room reply ≡ true
HasRoom Cycle_begun = Unit {0}
HasRoom Begin_refused = Unit {0}
HasRoom (Quantum_done budget units phase) = Unit {0}
HasRoom (Quantum_refused budget) = Unit {0}

-- no reply among events is the refusal for lack of space
abbrev pub AllHaveRoom : List Event → Type 0
AllHaveRoom [] = Unit {0}
AllHaveRoom (e ∷ es) = HasRoom e × AllHaveRoom es
