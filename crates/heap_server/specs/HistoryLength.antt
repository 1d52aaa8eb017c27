-- The place word, and the steps on it.
use Rattle.std.specs.Prelude.{ℕ, ◌≡◌, ◌<◌, ◌==◌, true, List, [], ◌∷◌, ◌++◌, length, MatchBool}
use mathlib.Core.List.{IsPrefix}
use Rattle.logbook.specs.Pages.{Cell, Step, View, Book, Named}
use Rattle.graph_heap.specs.declared.command.Command.{Command}
use Rattle.graph_heap.specs.declared.command.Entry.{Entry}
use Rattle.graph_heap.specs.Effect.{reply_of}
use Rattle.heap_model.specs.Event.{Course, present_of, room_for}

-- the one word is the length of the log of entries
abbrev pub IsLength : List Cell → List Entry → Type 0
IsLength cells log = cells ≡ (length log, true) ∷ []

-- which word it is, in the book of the log
abbrev pub word_of : Book → Named
word_of b = record { tracked = true; key = 0; book = b }

-- the log so far was seen, and its length found
abbrev pub Loads : Step Entry → View Entry ℕ → ℕ → View Entry ℕ → Type 0
Loads s v found w = found ≡ length w.0

-- An exchange: the entry was added to all that had been seen, which was the whole log; or the log had another
-- length, and was seen.
abbrev pub Appends : Step Entry → View Entry ℕ → ℕ → View Entry ℕ → Type 0
Appends s v found w =
    MatchBool (found == s.old) ((w.0 ≡ v.0 ++ s.ask ∷ []) × (length v.0 ≡ s.old)) (found ≡ length w.0)

-- the entry of a command of mutator m, if it is done at this heap with its history
abbrev pub next_entry : Course → ℕ → Command → Entry
next_entry r m c = record { mutator = m; command = c; reply = reply_of (room_for r.heap c) (present_of r) m c }

-- A commit to a log, if one front knew the whole log and another a part. Either the entry is added, and both know the
-- log; or the log is longer, its length is the one that was found, and the other front knows it.
abbrev pub Commits : List Entry → List Entry → Entry → ℕ → List Entry → List Entry → Type 0
Commits whole part e found whole_after part_after =
    MatchBool (found == length whole)
    ((whole_after ≡ whole ++ e ∷ []) × (part_after ≡ whole_after) × IsPrefix part whole)
    ((whole_after ≡ whole) × (found ≡ length part_after) × IsPrefix whole part_after
    × (length whole < length part_after))
