-- The objects that entries of a history made.
use Rattle.std.specs.Prelude.{ℕ, Bool, true, false, if◌then◌else◌, List, drop, length, Option, Some, None}
use Rattle.graph_heap.specs.declared.command.Command.{Command}
use Rattle.graph_heap.specs.declared.command.Command.TheVariants.{New}
use Rattle.graph_heap.specs.declared.command.Reply.{Reply}
use Rattle.graph_heap.specs.declared.command.Reply.TheVariants.{Made as Made_one}
use Rattle.graph_heap.specs.declared.command.Entry.{Entry}
use Rattle.graph_heap.specs.Shape.{fits}
use Rattle.size_classes.specs.Parts.{cells_of, parts_in}
use Rattle.heap_model.specs.Event.{Course}

-- whether a reply says that an object was made
abbrev pub tells_new : Reply → Bool
tells_new (Made_one id) = true
tells_new reply = false

-- an entry made an object
abbrev pub makes : Entry → Bool
makes e = tells_new e.reply

-- the blocks that the object of a command takes, one for each part, if its reply says that it was made
abbrev pub blocks_by : Command → Reply → ℕ
blocks_by (New dst shape) (Made_one id) = if fits shape then parts_in (cells_of shape) else 0
blocks_by command reply = 0

-- the blocks of the object that an entry made
abbrev pub blocks_made : Entry → ℕ
blocks_made e = blocks_by e.command e.reply

-- the entries since an earlier moment, or since the start
abbrev pub entered_since : Option Course → Course → List Entry
entered_since None r = r.history
entered_since (Some earlier) r = drop (length earlier.history) r.history
