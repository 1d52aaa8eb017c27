-- Heaps that threads share: their members, and the outcomes of their calls as C sees them.
use Rattle.std.specs.Prelude.{◌≡◌, ◌⊎◌, ℕ, ◌*◌, Bool, true, false, [], Option, Some, None, Result, Ok, Err, IfSome}
use Rattle.graph_heap.specs.declared.command.Command.{Command}
use Rattle.graph_heap.specs.declared.command.Reply.{Reply}
use Rattle.size_classes.specs.declared.settings.Settings.{Settings}
use Rattle.size_classes.specs.declared.config.Config.{Config}
use Rattle.size_classes.specs.Config.{IsOf}
use Rattle.heap_model.specs.Opening.{IsOpening}
use Rattle.heap_model.specs.Settings.{settings_by}
use Rattle.heap_model.specs.State.{HeapState}
use Rattle.paced.specs.declared.plan.Plan.{Plan}
use Rattle.paced.specs.Rooms.{FindsRoom}
use Rattle.heap_shared.specs.declared.fault.NoMember.{NoMember}
use Rattle.heap_shared.specs.Members.{MemberView, events_up_to, Enters, Leaves, Calls, Adds, IsPromised}
use Rattle.heap_shared.specs.Ring.{Ringed}
use Rattle.metronome_c.specs.declared.answer.Answer.{Answer}
use Rattle.metronome_c.specs.declared.answer.MetronomeShape.{MetronomeShape}
use Rattle.metronome_c.specs.declared.held.Held.{Held}
use Rattle.metronome_c.specs.declared.held.Held.TheVariants as holds
use Rattle.metronome_c.specs.declared.planning.MetronomeFlow.{MetronomeFlow}
use Rattle.metronome_c.specs.declared.status.Status.{Status}
use Rattle.metronome_c.specs.declared.status.Status.TheVariants.{Closed, Inside, NoPlan, NotShared, Open, Outside}
use Rattle.metronome_c.specs.Answer.{answered, shape_told}
use Rattle.metronome_c.specs.Asking.{AsksMember, TellsStatus, status_of, told_by}
use Rattle.metronome_c.specs.Either.{OnEither, IsRefused}
use Rattle.metronome_c.specs.Figures.{IsTold}
use Rattle.metronome_c.specs.Lifetime.{Creates}
use Rattle.metronome_c.specs.Planning.{plan_in, flow_of, SuitsSettings}
use Rattle.metronome_c.specs.Status.{status_number, no_turn_status, not_done_status, no_member_status}

-- the turn is given back, or the member hasn't it
abbrev pub left_told : Bool → Result (Unit {0}) Status
left_told true = Ok tt
left_told false = Err Outside

-- A command of one of a member's mutators is one event of the heap with its history, in the member's turn. Else C is told why
-- nothing is done.
abbrev pub DoesMember : Result MemberView Status → ℕ → Command → Result MemberView Status
    → (Result Reply Status → Type 0) → Type 0
DoesMember old m c new Says = AsksMember (λ s reply k. Calls s m c reply k) (told_by not_done_status) old new Says

-- a command by a member, where C is told the reply, or why there is none
abbrev pub AnswersMember : Result MemberView Status → ℕ → Command → Result MemberView Status → Answer → Type 0
AnswersMember old m c new answer = DoesMember old m c new (λ outcome. answer ≡ answered outcome)

-- a command by a member, where C is told the reply, or why there is none, and the shape that it tells
abbrev pub ShapesMember : Result MemberView Status → ℕ → Command → Result MemberView Status → MetronomeShape
    → Answer × MetronomeShape → Type 0
ShapesMember old m c new before told =
    DoesMember old m c new (λ outcome. (told.0 ≡ answered outcome) × (told.1 ≡ shape_told before outcome))

-- The first member of a new heap of these settings, which keeps the last `log` events, and a plan, if there is one. It calls for all mutators, and has all
-- numbers. It has seen an empty log, which is all that was done, as no one else has a number. It doesn't have the turn.
pub record IsFirstMember (log : ℕ) (plan : Option Plan) (s : Settings) (m : MemberView) : Type 0 where
  pub config : Config
  pub of : IsOf s config
  pub settings : (m.settings ≡ settings_by config) × (m.ring ≡ log) × (m.plan ≡ plan)
  pub budget : m.budget ≡ config.collector_ticks * config.rate
  pub mutators : (m.from ≡ 0) × (m.to ≡ config.mutators)
  pub numbers : (m.number ≡ 0) × (m.step ≡ 1)
  pub seen : (m.seen ≡ []) × (m.learnt ≡ [])
  pub turn : (m.turn ≡ None) × (m.did ≡ [])

-- such a member is held
abbrev pub IsFirst : ℕ → Option Plan → Settings → Held → Type 0
IsFirst log plan s (holds.Own h) = ⊥
IsFirst log plan s (holds.Shared m) = IsFirstMember log plan s m

-- If a plan suits the settings, the first member of a heap that keeps it is made. Else C is told that there is no such plan, and
-- nothing changes.
abbrev pub CreatesKept : ℕ → MetronomeFlow → Result Held Status → Settings → Result Held Status → ℕ → Type 0
CreatesKept log flow old s new status =
    (SuitsSettings s flow × Creates (IsFirst log (Some (plan_in flow))) old s new status)
    ⊎ ((SuitsSettings s flow → ⊥) × (new ≡ old) × (status ≡ status_number NoPlan))

-- Two members are at one heap: they have the same settings, plan and budget.
pub record IsAtHeapOf (first v : MemberView) : Type 0 where
  pub heap : v.heap ≡ first.heap
  pub settings : v.settings ≡ first.settings
  pub plan : v.plan ≡ first.plan
  pub budget : v.budget ≡ first.budget

-- The events up to now led from a heap of these settings that was just made. No reply among them is the refusal for lack of space,
-- if live objects were within the flow whenever one of them began a cycle.
abbrev pub HasFoundRoom : Settings → MetronomeFlow → MemberView → Ringed → Type 0
HasFoundRoom s flow v r = (c : Config) × IsOf s c × (opening : HeapState) × IsOpening opening
    × FindsRoom c (flow_of flow) opening r.course.heap (events_up_to v)

-- all that is promised of a shared heap with its history holds, in the turn of the member that is held
abbrev pub KeepsPromises : Held → Type 0
KeepsPromises (holds.Own h) = Unit {0}
KeepsPromises (holds.Shared v) = IfSome v.turn (IsPromised v)

-- If a handle is at the heap of a first member that was made so, with a plan, and has the turn, no reply was the refusal for lack of
-- space.
abbrev pub FindsRoomAt : Settings → MetronomeFlow → Held → Held → Type 0
FindsRoomAt s flow first (holds.Own h) = Unit {0}
FindsRoomAt s flow (holds.Own h) (holds.Shared v) = Unit {0}
FindsRoomAt s flow (holds.Shared first) (holds.Shared v) = IsAtHeapOf first v → IfSome v.turn (HasFoundRoom s flow v)

-- A handle asks for the turn, as its member does. A heap of its own has only one handle, which is inside for ever.
abbrev pub EntersTurn : Result Held Status → Result Held Status → ℕ → Type 0
EntersTurn old new status = OnEither (λ h k. IsRefused Inside h k status)
    (λ v w. TellsStatus Enters (told_by no_turn_status) v w status) old new

-- A handle gives the turn back, as its member does. A heap of its own isn't shared.
abbrev pub LeavesTurn : Result Held Status → Result Held Status → ℕ → Type 0
LeavesTurn old new status = OnEither (λ h k. IsRefused NotShared h k status) (λ v w. TellsStatus Leaves left_told v w status) old new

-- C is told something of a shared heap by a member's call, which finds it or tells why not. The value that C had before stands first.
abbrev pub TellsShared : {A B : Type 0} → (MemberView → A → MemberView → Type 0) → (A → Result B Status) → Result Held Status
    → Result Held Status → B × B → ℕ → Type 0
TellsShared call told old new values status =
    OnEither (λ h k. IsRefused NotShared h k status × (values.1 ≡ values.0))
    (λ v w. AsksMember call told v w (λ found. IsTold found values.0 values.1 status)) old new

-- what a closed handle holds after another member was asked for: that member, or nothing
abbrev pub made_of : Result MemberView Status → Result Held Status
made_of (Ok made) = Ok (holds.Shared made)
made_of (Err why) = Err Closed

-- A member adds another one at its heap, which a closed handle gets.
abbrev pub AddsTo : MemberView → ℕ → MemberView → Result Held Status → ℕ → Type 0
AddsTo v from w after status = (told : Result MemberView NoMember) × Adds v from told w
    × (after ≡ made_of (told_by no_member_status told)) × (status ≡ status_number (status_of (told_by no_member_status told)))

-- The member does so if the other handle is closed. Else that handle stays as it is, and nothing changes.
abbrev pub AddsFor : MemberView → Result Held Status → ℕ → Result Held Status → Result Held Status → ℕ → Type 0
AddsFor v (Err Closed) from new after status = (w : MemberView) × (new ≡ Ok (holds.Shared w)) × AddsTo v from w after status
AddsFor v (Err why) from new after status = (new ≡ Ok (holds.Shared v)) × (after ≡ Err why) × (status ≡ status_number why)
AddsFor v (Ok held) from new after status = (new ≡ Ok (holds.Shared v)) × (after ≡ Ok held) × (status ≡ status_number Open)

-- A handle at a shared heap makes another one so. If it is at no shared heap, nothing changes.
abbrev pub Sits : Result Held Status → Result Held Status → ℕ → Result Held Status → Result Held Status → ℕ → Type 0
Sits (Err why) made from new after status = (new ≡ Err why) × (after ≡ made) × (status ≡ status_number why)
Sits (Ok (holds.Own h)) made from new after status =
    (new ≡ Ok (holds.Own h)) × (after ≡ made) × (status ≡ status_number NotShared)
Sits (Ok (holds.Shared v)) made from new after status = AddsFor v made from new after status
