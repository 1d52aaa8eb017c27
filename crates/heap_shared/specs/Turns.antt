-- Members of a heap take turns.
use Rattle.std.specs.Prelude.{ℕ, ◌≡◌, ◌≢◌, ◌+◌, ◌-◌, ◌*◌, ◌/◌, ◌%◌, ◌<◌, ◌≤◌, true, false, List, [], ◌∷◌, ◌++◌, length, drop, slice_index, Option, Some, None}
use Rattle.std.specs.List.{All}
use mathlib.Core.Option as home
use lib.ListN.{get_elem?}
use Rattle.atomic_table.specs.Table.{State, Me, Step}
use Rattle.heap_model.specs.Event.{Course, Event}
use Rattle.heap_shared.specs.declared.deed.Deed.{Deed}
use Rattle.heap_shared.specs.declared.rule.Account.{Account}
use Rattle.heap_shared.specs.declared.rule.Known.{Known}
use Rattle.heap_shared.specs.declared.rule.Last.{Last}
use Rattle.heap_shared.specs.declared.rule.TheConstants.{TURN_WORD}
use Rattle.heap_shared.specs.declared.shared_heap.SharedConfig.{SharedConfig}
use Rattle.heap_shared.specs.Accounts.{Doer, Has, BearsOut, AreBelow, account_of, events_of, signed}
use Rattle.heap_shared.specs.Past.{IsTouched}
use Rattle.heap_shared.specs.Ring.{Ringed, IsAsAsked}

-- a member that has seen nothing of the log, and has all mutators and all numbers
abbrev pub newcomer : SharedConfig → Known
newcomer c = record {
  config = Some c;
  from = 0;
  to = c.config.mutators;
  number = 0;
  step = 1;
  cut = 0;
  seen = [];
  learnt = [];
  inside = false;
  last = None;
}

-- a member that keeps the mutators before the cut, and every other number, its own among them
abbrev pub before_cut : Known → Known
before_cut v = record v { to = v.cut; step = v.step + v.step }

-- a member that gets the mutators from the cut on, and the other numbers; it has seen the same log, and doesn't have the turn
abbrev pub behind_cut : Known → Known
behind_cut v = record v { from = v.cut; number = v.number + v.step; step = v.step + v.step; learnt = []; inside = false }

-- the accounts of a member of a heap: its own, and those that it has learnt; there are none without a heap
abbrev pub told_by : Option SharedConfig → Known → List Account
told_by None w = []
told_by (Some c) w = account_of w ∷ w.learnt

-- a member that has learnt another's accounts
abbrev pub learning : Known → Known → Known
learning v w = record v { learnt = v.learnt ++ told_by w.config w }

-- a member that took back what it gave to another: the mutators from the cut on, and every other number
abbrev pub rejoined : Known → Known → Known
rejoined v w = record v { to = w.to; step = w.number - v.number }

-- nobody: no member, or none any more, without mutators, numbers and accounts
abbrev pub nobody : Known
nobody = record { config = None; from = 0; to = 0; number = 1; step = 1; cut = 0; seen = []; learnt = []; inside = false; last = None }

-- the word after this many events: twice their number, as it wraps
abbrev pub word_of : ℕ → ℕ
word_of events = (2 * events) % 18446744073709551616

-- nobody has the turn, and this heap lies in the slot; or the member of this number has it, and found this heap there
pub data Turn : Type 0 where
  free : Ringed → Turn
  taken : ℕ → Course → Turn

-- the heap to which exactly the log led
abbrev pub heap_at : Turn → Course
heap_at (free r) = r.course
heap_at (taken by found) = found

-- The table at a log, while nobody has the turn or a member has it. A heap in the slot is one to which exactly this log led. Only
-- the member that has the turn is inside. It has seen the whole log, and remembers the heap that it found.
abbrev pub IsTurn : SharedConfig → State Ringed Known → List Deed → Turn → Type 0
IsTurn c s log (free r) = (slice_index s.words TURN_WORD ≡ word_of (length log)) × (s.homes ≡ home.some r ∷ [])
    × (events_of log ≡ r.events) × IsAsAsked c r
    × ((k : ℕ) (v : Known) → get_elem? s.views k ≡ home.some v → v.inside ≡ false)
IsTurn c s log (taken by found) = (slice_index s.words TURN_WORD ≡ word_of (length log) + 1) × (s.homes ≡ home.none ∷ [])
    × ((k : ℕ) (v : Known) → get_elem? s.views k ≡ home.some v → v.inside ≡ true
    → (k ≡ by) × (v.seen ≡ log) × (v.last ≡ Some (record { length = length log; heap = found })))

-- The knowledge of member k, at a log, if each mutator and each number belongs to one member or to none. Its own number is one of
-- its numbers. The log bears out its account, and those that it has learnt. Its mutators and numbers belong to it, and those of
-- learnt accounts to nobody.
pub record Knows (c : SharedConfig) (log : List Deed) (owner : Doer → home.Option ℕ) (k : ℕ) (v : Known) : Type 0 where
  pub config : (d : SharedConfig) → v.config ≡ Some d → d ≡ c
  pub numbered : (d : SharedConfig) → v.config ≡ Some d → v.number < v.step
  pub range : v.to ≤ c.config.mutators
  pub own : BearsOut log (account_of v)
  pub owns : (x : Doer) → Has (account_of v) x → owner x ≡ home.some k
  pub learnt : All (BearsOut log) v.learnt
  pub gone : All (λ a. (x : Doer) → Has a x → owner x ≡ home.none) v.learnt

-- the heap that a member found or put back last is the heap that is there, except for touched pages, unless the log went on since
abbrev pub Remembers : List Deed → Course → Known → Type 0
Remembers log heap v = (x : Last) → v.last ≡ Some x → (x.length ≤ length log) × (x.length ≡ length log → IsTouched x.heap heap)

-- The rule of the word: there is one log, with commands of the heap's mutators alone. At most one member has the turn. All that a
-- member knows is so.
pub record Keeps (c : SharedConfig) (s : State Ringed Known) : Type 0 where
  pub log : List Deed
  pub turn : Turn
  pub owner : Doer → home.Option ℕ
  pub has_word : TURN_WORD < length s.words
  pub stands : IsTurn c s log turn
  pub known : (k : ℕ) (v : Known) → get_elem? s.views k ≡ home.some v → Knows c log owner k v
  pub remembered : (k : ℕ) (v : Known) → get_elem? s.views k ≡ home.some v → Remembers log (heap_at turn) v
  pub below : AreBelow c.config.mutators log

-- A member that steps on the word learns this of the log: it bears out the member's own account and each that it has learnt. All
-- its commands are of the configuration's mutators.
pub record Told (log : List Deed) (v : Known) : Type 0 where
  pub own : BearsOut log (account_of v)
  pub learnt : All (BearsOut log) v.learnt
  pub below : (d : SharedConfig) → v.config ≡ Some d → AreBelow d.config.mutators log

-- A member has got the turn, and the heap to which exactly the log led. If the log is as long as when the member found or put back a
-- heap last, it is the same heap, except for touched pages.
pub record HasTurn (v : Known) (found : ℕ) (m : Me Ringed Known) : Type 0 where
  pub log : List Deed
  pub held : Ringed
  pub has : m ≡ (record v { seen = log; inside = true; last = Some (record { length = length log; heap = held.course }) }, (0, held) ∷ [])
  pub same : (x : Last) → v.last ≡ Some x → x.length ≡ length log → IsTouched x.heap held.course
  pub told : Told log v
  pub events : events_of log ≡ held.events
  pub asked : (d : SharedConfig) → v.config ≡ Some d → IsAsAsked d held
  pub word : found ≡ word_of (length log)

-- the turn was taken where the word was the number expected; else nothing has changed
abbrev pub Entered : Step Ringed → Me Ringed Known → ℕ → Me Ringed Known → Type 0
Entered st m found n = (found ≡ st.first → HasTurn m.0 found n) × (found ≢ st.first → n ≡ m)

-- the events that were done at the heap that is carried, since this log was seen
abbrev pub done_since : List Deed → List (ℕ × Ringed) → List Event
done_since seen [] = []
done_since seen (x ∷ xs) = drop (length seen) x.1.events

-- the log that a member has seen, and the deeds that it did since
abbrev pub seen_now : Me Ringed Known → List Deed
seen_now m = m.0.seen ++ signed m.0.number (done_since m.0.seen m.1)

-- the heap that is carried, put back at a log of this length; or what was remembered before
abbrev pub put_back : ℕ → Option Last → List (ℕ × Ringed) → Option Last
put_back n was [] = was
put_back n was (x ∷ xs) = Some (record { length = n; heap = x.1.course })

-- the turn was given back
abbrev pub Left : Step Ringed → Me Ringed Known → ℕ → Me Ringed Known → Type 0
Left st m stored n = n ≡ (record m.0 { seen = seen_now m; inside = false; last = put_back (length (seen_now m)) m.0.last m.1 }, [])

-- all of the log was seen, and its length found, as it wraps
abbrev pub Looked : Step Ringed → Me Ringed Known → ℕ → Me Ringed Known → Type 0
Looked st m found n = (n ≡ (record m.0 { seen = n.0.seen }, m.1)) × Told n.0.seen m.0
    × (found / 2 ≡ length n.0.seen % 9223372036854775808)

-- the member's mutators are cut in two at the number that was expected
abbrev pub Cut : Step Ringed → Me Ringed Known → ℕ → Me Ringed Known → Type 0
Cut st m found n = n ≡ (record m.0 { cut = st.first }, m.1)
