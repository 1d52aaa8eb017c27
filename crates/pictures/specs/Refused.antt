-- How many commands of a history were refused, and for which reasons.
use Rattle.std.specs.Prelude.{ℕ, Bool, false, ◌==◌, List, [], ◌∷◌, count_by, map}
use Rattle.graph_heap.specs.declared.command.Entry.{Entry}
use Rattle.graph_heap.specs.declared.command.Reply.{Reply}
use Rattle.graph_heap.specs.declared.command.Reply.TheVariants.{Refused as Refused_for}
use Rattle.graph_heap.specs.Refusal.{refusal_number}
use Rattle.inspector.specs.Made as made
use Rattle.pictures.specs.declared.refusals.Refused.{Refused}

-- a reply refuses a command for the reason of this number
abbrev pub refuses : ℕ → Reply → Bool
refuses number (Refused_for why) = refusal_number why == number
refuses number reply = false

-- an entry is of a command that was refused so
abbrev pub is_refused : ℕ → Entry → Bool
is_refused number e = refuses number e.reply

-- how many entries of a history are
abbrev pub refused_in : List Entry → ℕ → Refused
refused_in history number = record { number = number; count = count_by (is_refused number) history }

-- the refusals for each reason, in the order of their numbers
abbrev pub refusals_of : List Entry → List Refused
refusals_of history = map (refused_in history) (1 ∷ 2 ∷ 3 ∷ 4 ∷ 5 ∷ 6 ∷ 7 ∷ 8 ∷ 14 ∷ 15 ∷ [])

-- an entry made an object
abbrev pub makes : Entry → Bool
makes = made.makes
