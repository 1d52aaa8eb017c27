-- The view of a member of a shared heap, and the effects of its calls.
use Rattle.std.specs.Prelude.{ℕ, ◌≡◌, ◌≢◌, ◌+◌, ◌-◌, ◌*◌, ◌≤◌, ◌%◌, Bool, true, false, List, [], ◌∷◌, ◌++◌, length, take, Option, Some, None, IfSome, Result, Ok, Err}
use Rattle.std.specs.List.{All}
use Rattle.std.specs.Option.{option_map}
use Rattle.graph_heap.specs.declared.command.Command.{Command}
use Rattle.graph_heap.specs.declared.command.Reply.{Reply}
use Rattle.atomic_table.specs.Table.{Me}
use Rattle.atomic_table.specs.Seated.{TableId}
use Rattle.size_classes.specs.declared.config.Config.{Config}
use Rattle.heap_model.specs.Event.{Course, Event, Command_done, Runs}
use Rattle.heap_model.specs.Opening.{IsOpening}
use Rattle.heap_model.specs.Settings.{HeapSettings, settings_of, settings_by}
use Rattle.heap_model.specs.State.{HeapState}
use Rattle.space.specs.Room.{asks}
use Rattle.fragmentation.specs.Flow.{words_of}
use Rattle.fragmentation.specs.Configured.{MovesAll, FlowFitsIn}
use Rattle.machine.specs.Headline.{AlwaysHolds}
use Rattle.machine.specs.Space.{SpaceSuffices}
use Rattle.paced.specs.declared.plan.Plan.{Plan}
use Rattle.paced.specs.Rooms.{planned_flow, FindsRoom}
use Rattle.bulk.specs.declared.progress.Progress.{Progress}
use Rattle.bulk.specs.InOrder.{with_refusal, words_told, events_of as commands_done}
use Rattle.heap_shared.specs.declared.deed.Deed.{Deed}
use Rattle.paced.specs.declared.logged.Logged.{Logged}
use Rattle.heap_shared.specs.declared.rule.Account.{Account}
use Rattle.heap_shared.specs.declared.rule.Known.{Known}
use Rattle.heap_shared.specs.declared.rule.Last.{Last}
use Rattle.heap_shared.specs.declared.fault.NoTurn.{NoTurn}
use Rattle.heap_shared.specs.declared.fault.NoTurn.TheVariants as turns
use Rattle.heap_shared.specs.declared.fault.NoMember.{NoMember}
use Rattle.heap_shared.specs.declared.fault.NoMember.TheVariants as members
use Rattle.heap_shared.specs.declared.fault.NotDone.{NotDone}
use Rattle.heap_shared.specs.declared.fault.NotDone.TheVariants as undone
use Rattle.heap_shared.specs.declared.fault.NotPrepared.{NotPrepared}
use Rattle.heap_shared.specs.declared.fault.NotPrepared.TheVariants as unprepared
use Rattle.heap_shared.specs.declared.fault.NoEntry.{NoEntry}
use Rattle.heap_shared.specs.declared.shared_heap.SharedConfig.{SharedConfig}
use Rattle.heap_shared.specs.Past.{IsTouched, IsLed}
use Rattle.heap_shared.specs.Accounts.{IsWithin, BearsOut, GoesOn, AreBelow, IsAllowed, events_of, signed}
use Rattle.heap_shared.specs.Lists.{WorksBefore, words_first, DoesList}
use Rattle.heap_shared.specs.Ring.{Ringed, IsAsAsked, Goes, GoesBy, IsAbove, WorksAhead, TellsEntry}
use Rattle.heap_shared.specs.Turns.{done_since}

-- The view of a member has these parts:
-- - the heap, its settings, how many of the last entries it keeps, its plan, and the budget of its schedule;
-- - the member's own account: its mutators, its number, the step to the next number that it can give away, and the log that it
--   has seen up to its last turn or look;
-- - the accounts that it has learnt;
-- - in its turn the heap with its history, and the events of this turn;
-- - the heap that it found or put back last, with the length of the log then.
pub record MemberView : Type 0 where
  pub heap : TableId
  pub settings : HeapSettings
  pub ring : ℕ
  pub plan : Option Plan
  pub budget : ℕ
  pub from : ℕ
  pub to : ℕ
  pub number : ℕ
  pub step : ℕ
  pub seen : List Deed
  pub learnt : List Account
  pub turn : Option Ringed
  pub did : List Event
  pub last : Option Last

-- the heap that a member carries
abbrev pub turn_of : List (ℕ × Ringed) → Option Ringed
turn_of [] = None
turn_of (x ∷ xs) = Some x.1

-- the view of a member of a heap
abbrev pub shown_by : TableId → SharedConfig → Me Ringed Known → MemberView
shown_by id c m = record {
  heap = id;
  settings = settings_by c.config;
  ring = c.ring;
  plan = c.plan;
  budget = c.config.collector_ticks * c.config.rate;
  from = m.0.from;
  to = m.0.to;
  number = m.0.number;
  step = m.0.step;
  seen = m.0.seen;
  learnt = m.0.learnt;
  turn = turn_of m.1;
  did = done_since m.0.seen m.1;
  last = m.0.last;
}

-- A member that has the turn carries the heap, which is as it was asked for. The events that the member has seen, and then events
-- that it may do, led to it. If it did none yet, it is the heap that the member found, except for touched pages.
pub record HasHeap (c : SharedConfig) (m : Me Ringed Known) : Type 0 where
  pub held : Ringed
  pub inside : m.0.inside ≡ true
  pub carried : m.1 ≡ (0, held) ∷ []
  pub goes : GoesOn m.0.from m.0.to (events_of m.0.seen) held.events
  pub asked : IsAsAsked c held
  pub still : length held.events ≡ length m.0.seen → IfSome m.0.last (λ x. IsTouched x.heap held.course)

-- whether a member has the turn
abbrev pub IsMember : SharedConfig → Bool → Me Ringed Known → Type 0
IsMember c false m = (m.1 ≡ []) × (m.0.inside ≡ false)
IsMember c true m = HasHeap c m

-- the account of a member, up to its last turn or look
abbrev pub own_account : MemberView → Account
own_account v = record { from = v.from; to = v.to; number = v.number; step = v.step; seen = v.seen }

-- all events up to now, of a member that has the turn
abbrev pub events_up_to : MemberView → List Event
events_up_to v = events_of v.seen ++ v.did

-- A log has commands of the settings' mutators alone, and bears out the member's account and those that it has learnt.
pub record BearsAll (log : List Deed) (v : MemberView) : Type 0 where
  pub own : BearsOut log (own_account v)
  pub learnt : All (BearsOut log) v.learnt
  pub below : AreBelow v.settings.limits.mutators log

-- A member asks for the turn. If it has the turn already, or another member has it, nothing changes. Else the member gets it, with
-- a heap to which exactly a log led, from a heap that was just made. This log bears out all accounts that the member has. If nothing
-- was done since the member found or put back a heap, it finds the same one, except for touched pages. The heap keeps the plan
-- that was asked for.
abbrev pub Enters : MemberView → Result (Unit {0}) NoTurn → MemberView → Type 0
Enters old (Err turns.Inside) new = (old.turn ≢ None) × (new ≡ old)
Enters old (Err turns.Taken) new = (old.turn ≡ None) × (new ≡ old)
Enters old (Ok done) new = (log : List Deed) × (r : Ringed) × (old.turn ≡ None)
    × (new ≡ record old { seen = log; turn = Some r; did = []; last = Some (record { length = length log; heap = r.course }) })
    × BearsAll log old × IsLed (events_of log) r.course × (settings_of r.course.heap ≡ old.settings)
    × ((x : Last) → old.last ≡ Some x → x.length ≡ length log → IsTouched x.heap r.course)
    × (option_map (λ p. p.counts.plan) r.pacer ≡ old.plan)

-- A member gives the turn and the heap back. It has seen the log, which went on with its events of the turn alone: commands of its
-- own mutators, and the collector's work. If it doesn't have the turn, nothing changes.
abbrev pub Leaves : MemberView → Bool → MemberView → Type 0
Leaves old false new = (old.turn ≡ None) × (new ≡ old)
Leaves old true new = (r : Ringed) × (old.turn ≡ Some r) × All (IsAllowed old.from old.to) old.did
    × (new ≡ record old {
      seen = old.seen ++ signed old.number old.did;
      turn = None;
      did = [];
      last = Some (record { length = length (old.seen ++ signed old.number old.did); heap = r.course });
    })

-- A member does an event in its turn: it is one event of the heap with its history. Without the turn nothing is done.
abbrev pub DoesIn : {A : Type 0} → Option Ringed → (A → Event) → MemberView → Option A → MemberView → Type 0
DoesIn None event old answer new = (answer ≡ None) × (new ≡ old)
DoesIn {A} (Some r) event old answer new = (a : A) × (k : Ringed) × (answer ≡ Some a) × GoesBy r (event a) k
    × (new ≡ record old { turn = Some k; did = old.did ++ event a ∷ [] })

-- a member does an event, if it has the turn
abbrev pub DoesInTurn : {A : Type 0} → (A → Event) → MemberView → Option A → MemberView → Type 0
DoesInTurn event old answer new = DoesIn old.turn event old answer new

-- In its turn a member finds something of its heap; without the turn it finds nothing. Nothing changes.
abbrev pub FindsIn : {A : Type 0} → (Ringed → A → Type 0) → MemberView → Option A → MemberView → Type 0
FindsIn look old None new = (old.turn ≡ None) × (new ≡ old)
FindsIn look old (Some a) new = (r : Ringed) × (old.turn ≡ Some r) × look r a × (new ≡ old)

-- a member finds something of the heap without its log
abbrev pub Finds : {A : Type 0} → (HeapState → A → Type 0) → MemberView → Option A → MemberView → Type 0
Finds look old answer new = FindsIn (λ r a. look r.course.heap a) old answer new

-- In its turn a member finds the entry at a place of the log; without the turn it finds nothing. Nothing changes.
abbrev pub FindsEntry : ℕ → MemberView → Option (Result Logged NoEntry) → MemberView → Type 0
FindsEntry place old None new = (old.turn ≡ None) × (new ≡ old)
FindsEntry place old (Some told) new = (old.turn ≢ None) × TellsEntry old.ring (events_up_to old) place told × (new ≡ old)

-- Nothing is done for mutator m. The member doesn't have the turn, the mutator isn't its own, or the new object has more words than
-- the plan has for a whole cycle.
abbrev pub Refuses : MemberView → ℕ → ℕ → NotDone → MemberView → Type 0
Refuses old m words undone.Outside new = (old.turn ≡ None) × (new ≡ old)
Refuses old m words undone.NotYours new = (old.turn ≢ None) × (¬ IsWithin old.from old.to m) × (new ≡ old)
Refuses old m words undone.AbovePlan new = (r : Ringed) × (old.turn ≡ Some r) × IsWithin old.from old.to m
    × IsAbove r.pacer words × (new ≡ old)

-- a member may call for mutator m: it has the turn, and the mutator is its own
abbrev pub MayCall : MemberView → ℕ → Result (Unit {0}) NotDone → Type 0
MayCall v m (Ok may) = (v.turn ≢ None) × IsWithin v.from v.to m
MayCall v m (Err undone.Outside) = v.turn ≡ None
MayCall v m (Err undone.NotYours) = (v.turn ≢ None) × (¬ IsWithin v.from v.to m)
MayCall v m (Err undone.AbovePlan) = ⊥

-- A command of one of the member's mutators is one event of the heap with its history, after the collector's work if a plan
-- requires any. Without the turn, for another mutator, or for an object above the plan, nothing is done.
abbrev pub Calls : MemberView → ℕ → Command → Result Reply NotDone → MemberView → Type 0
Calls old m c (Err why) new = Refuses old m (words_of (asks c)) why new
Calls old m c (Ok reply) new = (r : Ringed) × (k : Ringed) × (work : List Event) × (old.turn ≡ Some r)
    × IsWithin old.from old.to m × WorksBefore c r work k × Goes r (work ++ Command_done m c reply ∷ []) k
    × (new ≡ record old { turn = Some k; did = old.did ++ (work ++ Command_done m c reply ∷ []) })

-- the front of a list of commands is done in the turn, for one of the member's mutators
abbrev pub DoesListIn : MemberView → ℕ → List Command → List Reply → Progress → MemberView → Type 0
DoesListIn old m cs rs p new = (r : Ringed) × (k : Ringed) × (old.turn ≡ Some r) × IsWithin old.from old.to m
    × (d : DoesList r m cs rs p k)
    × (new ≡ record old { turn = Some k; did = old.did ++ (d.work ++ commands_done m cs (with_refusal rs p.refused)) })

-- The front of a list of commands is done so, whatever was replied. Without the turn, for another mutator, or for an object above
-- the plan, nothing is done.
abbrev pub CallsList : MemberView → ℕ → List Command → Result Progress NotDone → MemberView → Type 0
CallsList old m cs (Err why) new = Refuses old m (words_first cs) why new
CallsList old m cs (Ok p) new = (rs : List Reply) × DoesListIn old m cs rs p new

-- So it is of reads, and the replies are the words at the front of a row, as many as were read.
abbrev pub ReadsList : MemberView → ℕ → List Command → List ℕ → Result Progress NotDone → MemberView → Type 0
ReadsList old m cs words (Err why) new = Refuses old m (words_first cs) why new
ReadsList old m cs words (Ok p) new = DoesListIn old m cs (words_told (take p.done words)) p new

-- the number of commands of a list that were done
abbrev pub done_of : Result Progress NotDone → ℕ
done_of (Ok p) = p.done
done_of (Err why) = 0

-- In its turn a member has the collector work ahead for words. Without the turn nothing is done.
abbrev pub PreparesIn : MemberView → ℕ → Result ℕ NotPrepared → MemberView → Type 0
PreparesIn old words (Err unprepared.Outside) new = (old.turn ≡ None) × (new ≡ old)
PreparesIn old words (Err unprepared.NoPlan) new = (r : Ringed) × (old.turn ≡ Some r) × (r.pacer ≡ None) × (new ≡ old)
PreparesIn old words (Err unprepared.AbovePlan) new = (r : Ringed) × (old.turn ≡ Some r) × IsAbove r.pacer words × (new ≡ old)
PreparesIn old words (Ok left) new = (r : Ringed) × (k : Ringed) × (old.turn ≡ Some r) × (w : WorksAhead r words left k)
    × (new ≡ record old { turn = Some k; did = old.did ++ w.prepares.work })

-- In its turn a member changes the heap without an event. Without the turn nothing is done.
abbrev pub ChangesIn : {A : Type 0} → (Ringed → A → Ringed → Type 0) → MemberView → Option A → MemberView → Type 0
ChangesIn change old None new = (old.turn ≡ None) × (new ≡ old)
ChangesIn change old (Some a) new = (r : Ringed) × (k : Ringed) × (old.turn ≡ Some r) × change r a k
    × (new ≡ record old { turn = Some k })

-- Out of its turn a member gets the length of the log, as it wraps. It has then seen this log, which bears out all accounts that
-- it has. In its turn nothing changes.
abbrev pub Places : MemberView → Option ℕ → MemberView → Type 0
Places old None new = (old.turn ≢ None) × (new ≡ old)
Places old (Some n) new = (old.turn ≡ None) × BearsAll new.seen old
    × (n ≡ length new.seen % 9223372036854775808) × (new ≡ record old { seen = new.seen })

-- One more member of the same heap gets the mutators from a number on, and every other number, beginning with the next. It has
-- seen the same log. Nothing changes if the member has the turn, if the number is neither one of its mutators nor the next, or if
-- there is no memory.
abbrev pub Adds : MemberView → ℕ → Result MemberView NoMember → MemberView → Type 0
Adds old from (Err members.Inside) new = (old.turn ≢ None) × (new ≡ old)
Adds old from (Err members.NotYours) new = (old.turn ≡ None) × (¬ ((old.from ≤ from) × (from ≤ old.to))) × (new ≡ old)
Adds old from (Err members.NoMemory) new = new ≡ old
Adds old from (Ok made) new = (old.turn ≡ None) × (old.from ≤ from) × (from ≤ old.to)
    × (new ≡ record old { to = from; step = old.step + old.step })
    × (made ≡ record old { from = from; number = old.number + old.step; step = old.step + old.step; learnt = [] })

-- a member before it gave this one its upper mutators, and every other number
abbrev pub before_giving : MemberView → MemberView → MemberView
before_giving v made = record v { to = made.to; step = made.number - v.number }

-- If both members are at one heap, the one learns the other's account, and all accounts that the other had learnt; else nothing.
abbrev pub Learns : MemberView → MemberView → MemberView → Type 0
Learns old other new =
    (other.heap ≡ old.heap → new ≡ record old { learnt = old.learnt ++ own_account other ∷ other.learnt })
    × (other.heap ≢ old.heap → new ≡ old)

-- These are the promises of a heap with its history, in the turn of a member.
-- - All holds that always holds, and the events of the log led to this heap from one that was just made.
-- - In each configuration of its settings, space sufficed for these events, and suffices for them and any that follow.
-- - If it keeps a plan whose flow fits there, no reply was the refusal for lack of space, if live objects were within the plan
--   whenever a cycle began, by whichever member.
pub record IsPromised (v : MemberView) (r : Ringed) : Type 0 where
  pub headline : AlwaysHolds r.course
  pub led : IsLed (events_up_to v) r.course
  pub space : (config : Config) (es : List Event) (new : Course) → v.settings ≡ settings_by config → Runs r.course es new
      → SpaceSuffices config (events_up_to v ++ es)
  pub room : (config : Config) (plan : Plan) (live : ℕ) → v.settings ≡ settings_by config
      → v.budget ≡ config.collector_ticks * config.rate → v.plan ≡ Some plan → MovesAll config
      → FlowFitsIn config (planned_flow live plan)
      → (first : HeapState) × IsOpening first
      × FindsRoom config (planned_flow live plan) first r.course.heap (events_up_to v)
