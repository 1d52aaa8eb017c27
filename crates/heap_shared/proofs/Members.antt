-- Members before and after their steps.
use Rattle.std.proofs.Common.{◌≡◌, ◌≢◌, ℕ, ◌*◌, ◌%◌, ◌≤◌, Bool, true, false, true≢false, List, [], ◌∷◌, ◌++◌, length, drop, get_or, refl, sym, ap, ◌∙◌, subst, arith, append-nil, length-append, Some, None, Ok, Err}
use Rattle.std.specs.Prelude.{Option, Result, IfSome}
use Rattle.std.specs.List.{All}
use Rattle.std.specs.Option.{option_map}
use Rattle.std.proofs.lemmas.List.{length-map, drop-append-le}
use Rattle.std.proofs.lemmas.List.Elements.{All-append}
use mathlib.Core.List.{IsPrefix}
use Rattle.atomic_table.specs.Table.{Me, rest}
use Rattle.atomic_table.specs.Seated.{TableId}
use Rattle.graph_heap.specs.declared.command.Command.{Command}
use Rattle.graph_heap.specs.declared.command.Command.TheVariants as commands
use Rattle.graph_heap.specs.declared.command.Reply.{Reply}
use Rattle.heap_model.specs.Event.{Course, Event, Command_done}
use Rattle.space.specs.Room.{asks}
use Rattle.fragmentation.specs.Flow.{words_of}
use Rattle.paced.specs.declared.pacer.AbovePlan.{AbovePlan}
use Rattle.paced.specs.Pacing.{PacerView, MakesNothing}
use Rattle.heap_model.specs.ReachedFrom.{opened}
use Rattle.machine.specs.declared.collector.Busy.{Busy}
use Rattle.machine.specs.declared.collector.BudgetOutOfRange.{BudgetOutOfRange}
use Rattle.machine.specs.declared.collector.Spent.{Spent}
use Rattle.machine.specs.Recorded.{begin_done, quantum_done}
use Rattle.machine.proofs.Courses.{runs_then}
use Rattle.machine.proofs.Headline.{always_holds}
use Rattle.machine.proofs.Space.{found_space, runs_settings}
use Rattle.heap_shared.specs.declared.deed.Deed.{Deed}
use Rattle.heap_shared.specs.declared.rule.Account.{Account}
use Rattle.heap_shared.specs.declared.rule.Known.{Known}
use Rattle.heap_shared.specs.declared.shared_heap.SharedConfig.{SharedConfig}
use Rattle.heap_shared.specs.declared.rule.Last.{Last}
use Rattle.heap_shared.specs.Past.{IsTouched, IsLed}
use Rattle.heap_shared.specs.Lists.{WorksBefore}
use Rattle.heap_shared.specs.Accounts.{IsWithin, IsAllowed, GoesOn, events_of, signed}
use Rattle.paced.specs.declared.logged.Logged.{Logged}
use Rattle.heap_shared.specs.declared.fault.NoEntry.{NoEntry}
use Rattle.heap_shared.specs.declared.fault.NotDone.TheVariants as undone
use Rattle.heap_shared.specs.Ring.{Ringed, IsAsAsked, HasKept, Goes, GoesBy, figures_of, IsAbove, Makes, TellsEntry}
use Rattle.heap_shared.specs.Turns.{done_since, seen_now, put_back, Told, HasTurn}
use Rattle.heap_shared.specs.Members.{MemberView, turn_of, shown_by, HasHeap, IsMember, events_up_to, BearsAll, Enters, Leaves, Places, DoesIn, DoesInTurn, FindsEntry, Calls, ChangesIn, IsPromised}
use Rattle.heap_shared.proofs.Accounts.{goes_none, goes_more, all_one, command_allowed}
use Rattle.heap_shared.proofs.Paid.{work_allowed}
use Rattle.heap_shared.proofs.Pasts.{led_more, led_course, done_is, touched_then}
use Rattle.heap_shared.proofs.Plans.{plan_still, kept_still, room_kept}

abbrev M : Type 0
M = Me Ringed Known

-- a member without the turn carries nothing
pub carries_none : (c : SharedConfig) (b : Bool) (m : M) → b ≡ false → IsMember c b m → (m.1 ≡ []) × (m.0.inside ≡ false)
carries_none c true m e is = absurd (true≢false e)
carries_none c false m e is = is

-- a member with the turn carries the heap
pub carries_one : (c : SharedConfig) (b : Bool) (m : M) → b ≡ true → IsMember c b m → HasHeap c m
carries_one c true m e is = is
carries_one c false m e is = absurd (true≢false (sym e))

pub carried : (c : SharedConfig) (b : Bool) (m : M) → b ≡ true → IsMember c b m → (old : Ringed) × (m.1 ≡ (0, old) ∷ rest m.1)
carried c b m e is = let one = carries_one c b m e is in (one.held, one.carried ∙ ap (λ (l : List (ℕ × Ringed)). (0, one.held) ∷ rest l) (sym one.carried))

-- replaces the last part of a member's invariant
pub with_last : {A B C D E F G : Type 0} → A × B × C × D × E × F → G → A × B × C × D × E × G
with_last i x = (i.0, i.1, i.2, i.3, i.4, x)

inside_still : (c : SharedConfig) (b : Bool) (m : M) → b ≡ true → HasHeap c m → IsMember c b m
inside_still c b m has held = subst (λ (x : Bool). IsMember c x m) (sym has) held

-- the heap that is lent is the one that is carried
pub lent : (r now : Ringed) (l : List (ℕ × Ringed)) → l ≡ (0, r) ∷ [] → l ≡ (0, now) ∷ rest l → r ≡ now
lent r now l is e = ap (λ (x : List (ℕ × Ringed)). (get_or x 0 (0, r)).1) (sym is ∙ e)

-- so the heap is as it was asked for
asked_still : (c : SharedConfig) (r k : Ringed) (es : List Event) → Goes r es k → IsAsAsked c r → IsAsAsked c k
asked_still c r k es d asked =
    let same = runs_settings es r.course k.course d.runs in
    record {
      settings = same ∙ asked.settings;
      ring = d.ring ∙ asked.ring;
      plan = plan_still r.pacer k.pacer r.course.heap k.course.heap es d.keeps ∙ asked.plan;
      led = subst (λ (xs : List Event). IsLed xs k.course) (sym d.events) (led_more r.events es r.course k.course asked.led d.runs);
      kept = subst (λ (xs : List Event). HasKept k.pacer (c.config.collector_ticks * c.config.rate) xs k.course.heap) (sym d.events)
          (kept_still r.pacer k.pacer (c.config.collector_ticks * c.config.rate) r.course.heap k.course.heap r.events es same d.keeps asked.kept);
    }

-- it is the heap that was found, except for touched pages, unless something was done
abbrev pub Still : Option Last → ℕ → Ringed → Type 0
Still last n r = length r.events ≡ n → IfSome last (λ x. IsTouched x.heap r.course)

still_after : (last : Option Last) (n : ℕ) (r k : Ringed) (es : List Event) → Goes r es k → n ≤ length r.events → Still last n r → Still last n k
still_after last n r k [] d long was same =
    subst (λ (x : Course). IfSome last (λ y. IsTouched y.heap x)) (sym d.runs) (was (let e = ap length d.events in let l = length-append r.events [] in omega (arith, same, e, l)))
still_after last n r k (x ∷ es) d long was same = absurd (let e = ap length d.events in let l = length-append r.events (x ∷ es) in omega (arith, same, e, l, long))

still_touched : (last : Option Last) (a b : Course) → IfSome last (λ x. IsTouched x.heap a) → IsTouched a b → IfSome last (λ x. IsTouched x.heap b)
still_touched None a b was on = was
still_touched (Some x) a b was on = touched_then x.heap a b was on

module _ (c : SharedConfig) (b : Bool) (m : M) (now k : Ringed) (yes : b ≡ true) (is : IsMember c b m) (at : m.1 ≡ (0, now) ∷ rest m.1) where
  abbrev one : HasHeap c m
  one = carries_one c b m yes is

  abbrev same : one.held ≡ now
  same = lent one.held now m.1 one.carried at

  pub none_left : rest m.1 ≡ []
  none_left = ap rest one.carried

  pub turn_was : turn_of m.1 ≡ Some now
  turn_was = ap turn_of at

  pub asked_now : IsAsAsked c now
  asked_now = subst (IsAsAsked c) same one.asked

  pub goes_now : GoesOn m.0.from m.0.to (events_of m.0.seen) now.events
  goes_now = subst (λ (r : Ringed). GoesOn m.0.from m.0.to (events_of m.0.seen) r.events) same one.goes

  pub still_now : Still m.0.last (length m.0.seen) now
  still_now = subst (Still m.0.last (length m.0.seen)) same one.still

  long_now : length m.0.seen ≤ length now.events
  long_now = omega (arith, ap length goes_now.1, length-append (events_of m.0.seen) goes_now.0, length-map m.0.seen (λ (x : Deed). x.event))

  -- the heap that is lent lies where it was
  abbrev pub carried_now : HasHeap c (m.0, (0, now) ∷ rest m.1)
  carried_now = record {
    held = now;
    inside = one.inside;
    carried = ap (λ (l : List (ℕ × Ringed)). (0, now) ∷ l) none_left;
    goes = goes_now;
    asked = asked_now;
    still = still_now;
  }

  -- events were done
  pub gone_by : (es : List Event) → All (IsAllowed m.0.from m.0.to) es → Goes now es k → IsMember c b (m.0, (0, k) ∷ rest m.1)
  gone_by es may d = inside_still c b _ yes (record {
    held = k;
    inside = one.inside;
    carried = ap (λ (l : List (ℕ × Ringed)). (0, k) ∷ l) none_left;
    goes = subst (GoesOn m.0.from m.0.to (events_of m.0.seen)) (sym d.events) (goes_more m.0.from m.0.to (events_of m.0.seen) now.events es may goes_now);
    asked = asked_still c now k es d asked_now;
    still = still_after m.0.last (length m.0.seen) now k es d long_now still_now;
  })

  -- the heap was changed without an event
  pub changed : k.events ≡ now.events → IsTouched now.course k.course → IsAsAsked c k → IsMember c b (m.0, (0, k) ∷ rest m.1)
  changed same_events touched asked = inside_still c b _ yes (record {
    held = k;
    inside = one.inside;
    carried = ap (λ (l : List (ℕ × Ringed)). (0, k) ∷ l) none_left;
    goes = subst (GoesOn m.0.from m.0.to (events_of m.0.seen)) (sym same_events) goes_now;
    asked = asked;
    still = λ e. still_touched m.0.last now.course k.course (still_now (sym (ap length same_events) ∙ e)) touched;
  })

  pub changed_in : (id : TableId) (v : MemberView) → shown_by id c m ≡ v → {A : Type 0} (change : Ringed → A → Ringed → Type 0) (a : A) → k.events ≡ now.events → change now a k
      → ChangesIn change v (Some a) (shown_by id c (m.0, (0, k) ∷ rest m.1))
  changed_in id v shows change a same_events does =
      let did : drop (length m.0.seen) k.events ≡ done_since m.0.seen m.1 = ap (drop (length m.0.seen)) same_events ∙ sym (ap (done_since m.0.seen) at) in
      subst (λ (x : MemberView). ChangesIn change x (Some a) (shown_by id c (m.0, (0, k) ∷ rest m.1))) shows
      (now, k, turn_was, does, ap (λ (xs : List Event). record (shown_by id c m) { turn = Some k; did = xs }) did)

  -- more events are done in this turn
  did_more : (es : List Event) → Goes now es k → drop (length m.0.seen) k.events ≡ done_since m.0.seen m.1 ++ es
  did_more es d =
      ap (drop (length m.0.seen)) d.events ∙ (drop-append-le (length m.0.seen) now.events es long_now ∙ ap (λ (xs : List Event). xs ++ es) (sym (ap (done_since m.0.seen) at)))

  pub shows_more : (id : TableId) (es : List Event) → Goes now es k → shown_by id c (m.0, (0, k) ∷ rest m.1) ≡ record (shown_by id c m) { turn = Some k; did = done_since m.0.seen m.1 ++ es }
  shows_more id es d = ap (λ (xs : List Event). record (shown_by id c m) { turn = Some k; did = xs }) (did_more es d)

  -- one was done in the turn
  pub done_in : (id : TableId) (v : MemberView) → shown_by id c m ≡ v → {A : Type 0} (event : A → Event) (a : A) → GoesBy now (event a) k → DoesInTurn event v (Some a) (shown_by id c (m.0, (0, k) ∷ rest m.1))
  done_in id v shows event a d = subst (λ (x : MemberView). DoesInTurn event x (Some a) (shown_by id c (m.0, (0, k) ∷ rest m.1))) shows
      (subst (λ (t : Option Ringed). DoesIn t event (shown_by id c m) (Some a) (shown_by id c (m.0, (0, k) ∷ rest m.1))) (sym turn_was) (a, k, refl, d, shows_more id (event a ∷ []) d))

  pub same_figures : (id : TableId) (v : MemberView) → shown_by id c m ≡ v → figures_of k ≡ figures_of now → option_map figures_of (shown_by id c (m.0, (0, k) ∷ rest m.1)).turn ≡ option_map figures_of v.turn
  same_figures id v shows alike = ap Some alike ∙ sym (ap (option_map figures_of) (ap (λ (x : MemberView). x.turn) (sym shows) ∙ turn_was))

  -- so was a command, with the work before it
  pub called : (id : TableId) (v : MemberView) → shown_by id c m ≡ v → (mu : ℕ) (command : Command) (told : Reply) (work : List Event) → IsWithin m.0.from m.0.to mu → WorksBefore command now work k → Goes now (work ++ Command_done mu command told ∷ []) k
      → Calls v mu command (Ok told) (shown_by id c (m.0, (0, k) ∷ rest m.1))
  called id v shows mu command told work within works d =
      let es = work ++ Command_done mu command told ∷ [] in
      subst (λ (x : MemberView). Calls x mu command (Ok told) (shown_by id c (m.0, (0, k) ∷ rest m.1))) shows (now, k, work, turn_was, within, works, d, shows_more id es d)

  -- an object above the plan was refused
  pub above : (id : TableId) (v : MemberView) → shown_by id c m ≡ v → (mu : ℕ) (command : Command) → IsWithin m.0.from m.0.to mu → IsAbove now.pacer (words_of (asks command)) → k ≡ now
      → Calls v mu command (Err undone.AbovePlan) (shown_by id c (m.0, (0, k) ∷ rest m.1))
  above id v shows mu command within high same =
      let still : shown_by id c (m.0, (0, k) ∷ rest m.1) ≡ shown_by id c m = ap (λ (r : Ringed). shown_by id c (m.0, (0, r) ∷ rest m.1)) same ∙ ap (λ (l : List (ℕ × Ringed)). shown_by id c (m.0, l)) (sym at) in
      subst (λ (x : MemberView). Calls x mu command (Err undone.AbovePlan) (shown_by id c (m.0, (0, k) ∷ rest m.1))) shows (now, turn_was, within, high, still)

  pub above_still : k ≡ now → IsMember c b (m.0, (0, k) ∷ rest m.1)
  above_still same = subst (λ (r : Ringed). IsMember c b (m.0, (0, r) ∷ rest m.1)) (sym same) (subst (λ (l : List (ℕ × Ringed)). IsMember c b (m.0, l)) at is)

  -- an object was made, or refused
  pub made_still : (mu : ℕ) (command : Command) (told : Result Reply AbovePlan) → IsWithin m.0.from m.0.to mu → Makes now mu command told k → IsMember c b (m.0, (0, k) ∷ rest m.1)
  made_still mu command (Err why) within d = above_still d.1
  made_still mu command (Ok reply) within d =
      let e = Command_done mu command reply in
      gone_by (d.0 ++ e ∷ [])
      (All-append (IsAllowed m.0.from m.0.to) d.0 (e ∷ []) (work_allowed m.0.from m.0.to now.pacer now.course.heap (words_of (asks command)) d.0 d.1) (all_one m.0.from m.0.to e (command_allowed m.0.from m.0.to mu command reply within))) d.2

-- a member that may call has the turn
pub has_inside : (c : SharedConfig) (b : Bool) (m : M) → IsMember c b m → turn_of m.1 ≢ None → b ≡ true
has_inside c true m is some = refl
has_inside c false m is some = absurd (some (ap turn_of is.0))

-- a command that makes no object needs no work before it
pub no_work : (command : Command) (r k : Ringed) → MakesNothing command → k.pacer ≡ r.pacer → WorksBefore command r [] k
no_work (commands.New dst shape) r k none is = absurd none
no_work c r k none is = (refl, ap (option_map (λ (p : PacerView). p.figures)) is)

-- without the turn nothing is done
pub no_turn : (c : SharedConfig) (b : Bool) (m : M) → b ≡ false → IsMember c b m → turn_of m.1 ≡ None
no_turn c b m isnt is = ap turn_of (carries_none c b m isnt is).0

-- a member that shows no heap carries none
pub empty_handed : (c : SharedConfig) (b : Bool) (m : M) → turn_of m.1 ≡ None → IsMember c b m → m.1 ≡ []
empty_handed c false m none is = is.0
empty_handed c true m none is = absurd (let z : Some is.held ≡ None = sym (ap turn_of is.carried) ∙ none in cc)

-- a fact about a member before and after a step is one about its views
pub shown_so : (P : MemberView → MemberView → Type 0) (id new : TableId) (c : SharedConfig) (was m : M) (v : MemberView) → new ≡ id → shown_by id c was ≡ v → P (shown_by id c was) (shown_by id c m) → P v (shown_by new c m)
shown_so P id new c was m v same shows p = subst (λ (x : MemberView). P x (shown_by new c m)) shows (subst (λ (t : TableId). P (shown_by id c was) (shown_by t c m)) (sym same) p)

-- a member that learns keeps its turn
pub learnt_still : (c : SharedConfig) (b : Bool) (m : M) (l : List Account) → IsMember c b m → IsMember c b (record m.0 { learnt = l }, m.1)
learnt_still c false m l is = is
learnt_still c true m l is = record { held = is.held; inside = is.inside; carried = is.carried; goes = is.goes; asked = is.asked; still = is.still }

-- a member that gave the turn back has seen no less
pub leaves_grow : (old : MemberView) (had : Bool) (new : MemberView) → Leaves old had new → IsPrefix old.seen new.seen
leaves_grow old false new l = subst (λ (v : MemberView). IsPrefix old.seen v.seen) (sym l.1) ([], append-nil old.seen)
leaves_grow old true new l = (signed old.number old.did, ap (λ (v : MemberView). v.seen) (sym l.3))

-- the turn was taken
module _ (c : SharedConfig) (v : Known) (found : ℕ) (m : M) (config : v.config ≡ Some c) (h : HasTurn v found m) where
  pub entered : HasHeap c m
  entered = subst (HasHeap c) (sym h.has) (record {
    held = h.held;
    inside = refl;
    carried = refl;
    goes = subst (GoesOn v.from v.to (events_of h.log)) h.events (goes_none v.from v.to (events_of h.log));
    asked = h.asked c config;
    still = λ same. ([], refl);
  })

-- a member learns this of the log, as its view has it
pub bears_all : (id : TableId) (c : SharedConfig) (m : M) (log : List Deed) → m.0.config ≡ Some c → Told log m.0 → BearsAll log (shown_by id c m)
bears_all id c m log config told = record { own = told.own; learnt = told.learnt; below = told.below c config }

pub enters_so : (id : TableId) (c : SharedConfig) (found : ℕ) (b : Bool) (old m : M) → b ≡ false → IsMember c b old → old.0.config ≡ Some c → HasTurn old.0 found m → Enters (shown_by id c old) (Ok tt) (shown_by id c m)
enters_so id c found b old m isnt is config h = (
  h.log,
  h.held,
  no_turn c b old isnt is,
  ap (shown_by id c) h.has ∙ ap (λ (es : List Event). record (shown_by id c old) { seen = h.log; turn = Some h.held; did = es; last = Some (record { length = length h.log; heap = h.held.course }) }) (done_is h.log [] h.held.events (append-nil (events_of h.log) ∙ h.events)),
  bears_all id c old h.log config h.told,
  subst (λ (es : List Event). IsLed es h.held.course) (sym h.events) (h.asked c config).led,
  (h.asked c config).settings,
  h.same,
  (h.asked c config).plan,
)

-- a member that carries nothing does nothing
none_done : (l : List (ℕ × Ringed)) (x y : List Deed) → l ≡ [] → done_since x l ≡ done_since y l
none_done l x y none = ap (done_since x) none ∙ sym (ap (done_since y) none)

-- the word was looked at
pub places_so : (id : TableId) (c : SharedConfig) (b : Bool) (old new : M) (n : ℕ) → b ≡ false → IsMember c b old → old.0.config ≡ Some c
    → (new ≡ (record old.0 { seen = new.0.seen }, old.1)) × Told new.0.seen old.0 × (n ≡ length new.0.seen % 9223372036854775808)
    → Places (shown_by id c old) (Some n) (shown_by id c new)
places_so id c b old new n isnt is config did = (
  no_turn c b old isnt is,
  bears_all id c old new.0.seen config did.1,
  did.2,
  ap (shown_by id c) did.0 ∙ ap (λ (es : List Event). record (shown_by id c old) { seen = new.0.seen; did = es }) (none_done old.1 new.0.seen old.0.seen (carries_none c b old isnt is).0),
)

-- a beginning and a quantum are no commands
pub begin_allowed : (from to : ℕ) (a : Result (Unit {0}) Busy) → IsAllowed from to (begin_done a)
begin_allowed from to (Ok done) m of = absurd of
begin_allowed from to (Err busy) m of = absurd of

pub quantum_allowed : (from to budget : ℕ) (a : Result Spent BudgetOutOfRange) → IsAllowed from to (quantum_done budget a)
quantum_allowed from to budget (Ok spent) m of = absurd of
quantum_allowed from to budget (Err refused) m of = absurd of

-- the events up to now are those that led to the heap that is carried
up_to_now : (seen : List Deed) (l : List (ℕ × Ringed)) (from to : ℕ) (r : Ringed) → l ≡ (0, r) ∷ [] → GoesOn from to (events_of seen) r.events → events_of seen ++ done_since seen l ≡ r.events
up_to_now seen l from to r carried goes =
    ap (λ (x : List (ℕ × Ringed)). events_of seen ++ done_since seen x) carried ∙ (ap (λ (es : List Event). events_of seen ++ es) (done_is seen goes.0 r.events goes.1) ∙ goes.1)

some_turn : (t : Option Ringed) (r : Ringed) → t ≡ Some r → t ≢ None
some_turn t r is none = absurd (let z : Some r ≡ None = sym is ∙ none in cc)

-- a member finds this in its turn
module _ (id : TableId) (c : SharedConfig) (b : Bool) (m : M) (now : Ringed) (has : b ≡ true) (is : IsMember c b m) (at : m.1 ≡ (0, now) ∷ rest m.1) (v : MemberView) (shows : shown_by id c m ≡ v) where
  abbrev still : MemberView
  still = shown_by id c (m.0, (0, now) ∷ rest m.1)

  pub stays : still ≡ v
  stays = ap (λ (l : List (ℕ × Ringed)). shown_by id c (m.0, l)) (sym at) ∙ shows

  pub has_turn : v.turn ≡ Some now
  has_turn = ap (λ (x : MemberView). x.turn) (sym shows) ∙ turn_was c b m now now has is at

  pub tells_so : (place : ℕ) (told : Result Logged NoEntry) → TellsEntry now.ring now.events place told → FindsEntry place v (Some told) still
  tells_so place told tells =
      let one = carries_one c b m has is in
      let kept : now.ring ≡ v.ring = (asked_now c b m now now has is at).ring ∙ ap (λ (x : MemberView). x.ring) shows in
      let log : now.events ≡ events_up_to v = sym (up_to_now m.0.seen m.1 m.0.from m.0.to one.held one.carried one.goes ∙ ap (λ (r : Ringed). r.events) (lent one.held now m.1 one.carried at)) ∙ ap events_up_to shows in
      (some_turn v.turn now has_turn, subst (λ (k : ℕ). TellsEntry k (events_up_to v) place told) kept (subst (λ (es : List Event). TellsEntry now.ring es place told) log tells), stays)

-- the turn was given back
pub leaves_so : (id : TableId) (c : SharedConfig) (b : Bool) (m new : M) → b ≡ true → IsMember c b m → new ≡ (record m.0 { seen = seen_now m; inside = false; last = put_back (length (seen_now m)) m.0.last m.1 }, []) → Leaves (shown_by id c m) true (shown_by id c new)
leaves_so id c b m new has is did =
    let one = carries_one c b m has is in
    let since : done_since m.0.seen m.1 ≡ one.goes.0 = ap (done_since m.0.seen) one.carried ∙ done_is m.0.seen one.goes.0 one.held.events one.goes.1 in (
      one.held,
      ap turn_of one.carried,
      subst (All (IsAllowed m.0.from m.0.to)) (sym since) one.goes.2,
      ap (shown_by id c) did ∙ ap (λ (l : List (ℕ × Ringed)). record (shown_by id c m) { seen = seen_now m; turn = None; did = []; last = put_back (length (seen_now m)) m.0.last l }) one.carried,
    )

-- the promises in the turn
pub promised : (id : TableId) (c : SharedConfig) (b : Bool) (m : M) (v : MemberView) → b ≡ true → IsMember c b m → shown_by id c m ≡ v → IfSome v.turn (IsPromised v)
promised id c b m v has is shows =
    let one = carries_one c b m has is in
    let r = one.held.course in
    let s = shown_by id c m in
    let since : events_up_to s ≡ one.held.events = up_to_now m.0.seen m.1 m.0.from m.0.to one.held one.carried one.goes in
    let led : IsLed (events_up_to s) r = subst (λ (es : List Event). IsLed es r) (sym since) one.asked.led in
    let holds : IsPromised s one.held = record {
      headline = always_holds r (led_course one.held.events r one.asked.led);
      led = led;
      space = λ config es new same runs. found_space new config led.first (events_up_to s ++ es) (runs_settings es r new runs ∙ (one.asked.settings ∙ same)) led.opening (runs_then (events_up_to s) es (opened led.first) r new led.runs runs);
      room = λ config plan live same budget planned moves fits. room_kept one.held.pacer config plan live (c.config.collector_ticks * c.config.rate) r.heap (events_up_to s) (one.asked.plan ∙ planned) budget (one.asked.settings ∙ same) moves fits
          (subst (λ (es : List Event). HasKept one.held.pacer (c.config.collector_ticks * c.config.rate) es r.heap) (sym since) one.asked.kept);
    } in
    subst (λ (x : MemberView). IfSome x.turn (IsPromised x)) shows (subst (λ (t : Option Ringed). IfSome t (IsPromised s)) (sym (ap turn_of one.carried)) holds)
