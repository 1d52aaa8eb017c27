-- The last events of a shared heap's log, as C sees them.
use Rattle.std.specs.Prelude.{ℕ, slice_index, List, [], ◌∷◌, Option, Some, None, Result, Ok, Err}
use Rattle.graph_heap.specs.declared.command.Command.{Command}
use Rattle.graph_heap.specs.declared.command.Command.TheVariants as commands
use Rattle.graph_heap.specs.declared.command.Reply.{Reply}
use Rattle.graph_heap.specs.declared.command.Reply.TheVariants.{Done}
use Rattle.heap_model.specs.Event.{Event, Command_done, Cycle_begun, Begin_refused, Quantum_done, Quantum_refused}
use Rattle.paced.specs.declared.logged.Logged.{Logged}
use Rattle.heap_shared.specs.declared.fault.NoEntry.{NoEntry}
use Rattle.heap_shared.specs.declared.fault.NoEntry.TheVariants.{Gone, NotYet}
use Rattle.paced.specs.Logged.{event_of}
use Rattle.metronome_c.specs.declared.answer.MetronomeShape.{MetronomeShape}
use Rattle.metronome_c.specs.declared.entry.MetronomeCommand.{MetronomeCommand}
use Rattle.metronome_c.specs.declared.entry.MetronomeEvent.{MetronomeEvent}
use Rattle.metronome_c.specs.declared.status.Status.{Status}
use Rattle.metronome_c.specs.declared.status.Status.TheVariants.{Outside, Busy, BudgetOutOfRange}
use Rattle.metronome_c.specs.Answer.{answer_of, answered, sized, shape_of, shape_in}
use Rattle.metronome_c.specs.Collecting.{phase_number}

-- a command of this kind, with four numbers and two words
abbrev pub asked : ℕ → List ℕ → List ℕ → MetronomeCommand
asked k ns ws = record {
  kind = k;
  first = slice_index ns 0;
  second = slice_index ns 1;
  third = slice_index ns 2;
  fourth = slice_index ns 3;
  first_word = slice_index ws 0;
  second_word = slice_index ws 1;
}

-- a command of this kind with these numbers, and 0 for all that are missing
abbrev plainly : ℕ → List ℕ → MetronomeCommand
plainly k ns = asked k ns []

-- a new object of this shape, as a command of this kind
abbrev made : ℕ → ℕ → MetronomeShape → MetronomeCommand
made k dst s = plainly k (dst ∷ s.kind ∷ s.refs ∷ s.words ∷ [])

-- a command, as C sees it: its kind, and its numbers and words in their order
abbrev pub command_of : Command → MetronomeCommand
command_of (commands.New dst shape) = made 0 dst (shape_of shape)
command_of (commands.Load dst obj i) = plainly 1 (dst ∷ obj ∷ i ∷ [])
command_of (commands.Store obj i src) = plainly 2 (obj ∷ i ∷ src ∷ [])
command_of (commands.CompareStore obj i expect new) = plainly 3 (obj ∷ i ∷ expect ∷ new ∷ [])
command_of (commands.Get obj i) = plainly 4 (obj ∷ i ∷ [])
command_of (commands.Put obj i word) = asked 5 (obj ∷ i ∷ []) (word ∷ [])
command_of (commands.ComparePut obj i old new) = asked 6 (obj ∷ i ∷ []) (old ∷ new ∷ [])
command_of (commands.Copy dst src) = plainly 7 (dst ∷ src ∷ [])
command_of (commands.Clear dst) = plainly 8 (dst ∷ [])
command_of (commands.LoadStatic dst k) = plainly 9 (dst ∷ k ∷ [])
command_of (commands.StoreStatic k src) = plainly 10 (k ∷ src ∷ [])
command_of (commands.CompareStatic k expect new) = plainly 11 (k ∷ expect ∷ new ∷ [])
command_of (commands.Same a b) = plainly 12 (a ∷ b ∷ [])
command_of (commands.Describe a) = plainly 13 (a ∷ [])
command_of commands.Join = plainly 14 []
command_of commands.Leave = plainly 15 []

-- a command that was done, as C sees it: the shape is the one that its reply tells, or a plain one without cells
abbrev done_by : ℕ → Command → Reply → MetronomeEvent
done_by m c reply = record { kind = 1; mutator = m; command = command_of c; answer = answer_of reply; shape = shape_in (sized 0 0 0) reply }

-- what the collector was asked to do, as C sees it: a command of this kind, with four numbers, and how it ended
abbrev pub collected : ℕ → List ℕ → Result Reply Status → MetronomeEvent
collected k ns told = record { kind = 1; mutator = 0; command = plainly k ns; answer = answered told; shape = sized 0 0 0 }

-- an event, as C sees it; of a quantum the numbers are its budget, the units that it spent, and the phase behind it
abbrev pub entry_of : Event → MetronomeEvent
entry_of (Command_done m c reply) = done_by m c reply
entry_of Cycle_begun = collected 16 [] (Ok Done)
entry_of Begin_refused = collected 16 [] (Err Busy)
entry_of (Quantum_done budget units phase) = collected 17 (budget ∷ units ∷ phase_number phase ∷ []) (Ok Done)
entry_of (Quantum_refused budget) = collected 17 (budget ∷ []) (Err BudgetOutOfRange)

-- no event: all numbers are 0, except the kind
abbrev none_there : ℕ → MetronomeEvent
none_there k = record {
  kind = k;
  mutator = 0;
  command = plainly 0 [];
  answer = record { kind = 0; number = 0 };
  shape = sized 0 0 0;
}

-- what there is at a place, as C sees it: an event, or none any more, or none yet
abbrev pub entry_found : Result Logged NoEntry → MetronomeEvent
entry_found (Ok e) = entry_of (event_of e)
entry_found (Err Gone) = none_there 0
entry_found (Err NotYet) = none_there 2

-- what there is at a place, or the handle doesn't have the turn
abbrev pub entry_told : Option (Result Logged NoEntry) → Result MetronomeEvent Status
entry_told (Some found) = Ok (entry_found found)
entry_told None = Err Outside
