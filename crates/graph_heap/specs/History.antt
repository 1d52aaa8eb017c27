-- Histories: entries one after the other, each with its command and its reply.
use Rattle.std.specs.Prelude.{◌≡◌, Bool, true, false, List, [], ◌∷◌}
use Rattle.graph_heap.specs.declared.command.Reply.{Reply}
use Rattle.graph_heap.specs.declared.command.Reply.TheVariants as replies
use Rattle.graph_heap.specs.declared.command.Refusal.TheVariants as refusals
use Rattle.graph_heap.specs.declared.command.Entry.{Entry}
use Rattle.graph_heap.specs.Graph.{Graph}
use Rattle.graph_heap.specs.Effect.{reply_of, next_of}

-- whether there was room, by the reply: there was none if it is the refusal for lack of space
abbrev pub had_room : Reply → Bool
had_room (replies.Refused refusals.NoSpace) = false
had_room _ = true

-- the entry's reply is that of the graph heap, with room or without, as the reply shows
abbrev pub IsEntryOf : Graph → Entry → Type 0
IsEntryOf g e = reply_of (had_room e.reply) g e.mutator e.command ≡ e.reply

-- the graph heap after an entry
abbrev pub after_entry : Graph → Entry → Graph
after_entry g e = next_of (had_room e.reply) g e.mutator e.command

-- the graph heap to which the entries lead
abbrev pub after : Graph → List Entry → Graph
after g [] = g
after g (e ∷ es) = after (after_entry g e) es

-- legal: each entry is a step at its place
abbrev pub IsLegal : Graph → List Entry → Type 0
IsLegal g [] = Unit {0}
IsLegal g (e ∷ es) = IsEntryOf g e × IsLegal (after_entry g e) es
