-- Deeds at a shared heap, and the account of them that a member has.
use Rattle.std.specs.Prelude.{ℕ, ◌≡◌, ◌%◌, ◌<◌, ◌≤◌, List, ◌++◌, map}
use Rattle.std.specs.List.{All}
use Rattle.graph_heap.specs.declared.command.Entry.{Entry}
use Rattle.heap_model.specs.Event.{Event, Command_done}
use Rattle.heap_shared.specs.declared.deed.Deed.{Deed}
use Rattle.heap_shared.specs.declared.rule.Account.{Account}
use Rattle.heap_shared.specs.declared.rule.Known.{Known}
use Rattle.heap_shared.specs.Past.{history_of}

-- the log's events, without the members that did them
abbrev pub events_of : List Deed → List Event
events_of log = map (λ d. d.event) log

-- the history that a log makes: an entry for each command
abbrev pub history_by : List Deed → List Entry
history_by log = history_of (events_of log)

-- events, done by the member of this number
abbrev pub signed : ℕ → List Event → List Deed
signed n es = map (λ e. record { by = n; event = e }) es

-- a mutator is one of those from the first number on and below the second
abbrev pub IsWithin : ℕ → ℕ → ℕ → Type 0
IsWithin from to m = (from ≤ m) × (m < to)

-- A deed has two doers: the mutator whose command it is, if it is a command, and the member of a number.
pub data Doer : Type 0 where
  mutator_of : ℕ → Doer
  member_of : ℕ → Doer

-- an event is a command of this mutator
abbrev pub IsCommandOf : ℕ → Event → Type 0
IsCommandOf m (Command_done k c reply) = k ≡ m
IsCommandOf m e = ⊥

-- a deed is one of this doer's
abbrev pub IsOf : Doer → Deed → Type 0
IsOf (mutator_of m) d = IsCommandOf m d.event
IsOf (member_of n) d = d.by ≡ n

-- An account has a mutator, or a number. Its numbers are its member's own, and each that comes a whole number of steps later.
abbrev pub Has : Account → Doer → Type 0
Has a (mutator_of m) = IsWithin a.from a.to m
Has a (member_of n) = n % a.step ≡ a.number

-- an account has no doer of this deed
abbrev pub IsOthers : Account → Deed → Type 0
IsOthers a d = (x : Doer) → Has a x → IsOf x d → ⊥

-- A log begins with the deeds that an account's member has seen, and goes on with deeds of others alone.
abbrev pub BearsOut : List Deed → Account → Type 0
BearsOut log a = (added : List Deed) × (a.seen ++ added ≡ log) × All (IsOthers a) added

-- a member with these mutators may do an event: a command of one of them, or one of the collector's
abbrev pub IsAllowed : ℕ → ℕ → Event → Type 0
IsAllowed from to e = (m : ℕ) → IsCommandOf m e → IsWithin from to m

-- events go on with events that a member with these mutators may do
abbrev pub GoesOn : ℕ → ℕ → List Event → List Event → Type 0
GoesOn from to old new = (did : List Event) × (old ++ did ≡ new) × All (IsAllowed from to) did

-- each command of the log is of a mutator below this number
abbrev pub AreBelow : ℕ → List Deed → Type 0
AreBelow mutators log = All (λ d. IsAllowed 0 mutators d.event) log

-- the account of a member, in what it knows
abbrev pub account_of : Known → Account
account_of v = record { from = v.from; to = v.to; number = v.number; step = v.step; seen = v.seen }
