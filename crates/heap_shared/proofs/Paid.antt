-- Commands at a shared heap, after they were paid for.
use Rattle.std.proofs.Common.{◌≡◌, ◌≤◌, ℕ, List, [], ◌∷◌, ◌++◌, Some, None, Ok, Err, refl, sym, ap, ◌∙◌, subst}
use Rattle.std.specs.Prelude.{Option, Result}
use Rattle.std.specs.List.{All}
use Rattle.std.specs.Option.{option_map}
use Rattle.std.proofs.lemmas.List.Elements.{All-cons, All-nil}
use Rattle.graph_heap.specs.declared.command.Command.{Command}
use Rattle.graph_heap.specs.declared.command.Reply.{Reply}
use Rattle.heap_model.specs.Event.{Event, Command_done, Cycle_begun, Begin_refused, Quantum_done, Quantum_refused}
use Rattle.heap_model.specs.State.{HeapState}
use Rattle.space.specs.Room.{asks}
use Rattle.fragmentation.specs.Flow.{words_of}
use Rattle.machine.specs.Plan.{Steps}
use Rattle.paced.specs.declared.cycles.Cycles.{Cycles}
use Rattle.paced.specs.declared.figures.Figures.{Figures}
use Rattle.paced.specs.Cycles.{CountsCycles}
use Rattle.paced.specs.Logged.{Enters}
use Rattle.paced.specs.Pacing.{PacerView, PacedState, PacedView, paced_by, state_by, worked, Path, WorksFor, Pays}
use Rattle.paced.specs.Bounds.{Prepares, PreparesUnless}
use Rattle.paced.proofs.Paths.{cycles_then, call_path, work_paces}
use Rattle.paced.specs.declared.pacer.AbovePlan.{AbovePlan}
use Rattle.heap_shared.specs.declared.fault.NotPrepared.{NotPrepared}
use Rattle.heap_shared.specs.declared.fault.NotPrepared.TheVariants as unprepared
use Rattle.heap_shared.specs.Accounts.{IsAllowed}
use Rattle.heap_shared.specs.Past.{LogView, PastView, course_of, with_event, with_events, IsLed}
use Rattle.heap_shared.specs.Ring.{Ringed, KeepsBy, GoesBy, figures_of, IsWorkFor, IsAbove, WorksAhead, PreparesBy, Makes}
use Rattle.heap_shared.proofs.Pasts.{led_now, goes_now}

-- a log with more events
abbrev logs : LogView → Event → LogView → Type 0
logs old e new = new ≡ record old { past = with_event old.past e }

-- they are entered one after the other
logged_all : (es : List Event) (old new : LogView) → Enters logs old es new → new ≡ record old { past = with_events old.past es }
logged_all [] old new p = p
logged_all (e ∷ es) old new p = logged_all es p.0 new p.2 ∙ ap (λ (l : LogView). record l { past = with_events l.past es }) p.1

with_one : (es : List Event) (e : Event) (p : PastView) → with_event (with_events p es) e ≡ with_events p (es ++ e ∷ [])
with_one [] e p = refl
with_one (x ∷ es) e p = with_one es e (with_event p x)

-- a heap with its log, its cycles and its pacer, as contracts see it
abbrev pub ringed : HeapState → LogView → Cycles → Option PacerView → Ringed
ringed h l c p = record { course = course_of h l.past; events = l.past.events; ring = l.kept; cycles = c; pacer = p }

-- a command whose words were paid for
module _ (h mid k : HeapState) (c d : Cycles) (a b : PacerView) (m : ℕ) (command : Command) (reply : Reply) (fits : words_of (asks command) ≤ a.counts.plan.cycle_words)
    (paid : Pays (paced_by a h c) (words_of (asks command)) (paced_by b mid d)) (steps : Steps mid m command reply k) where
  abbrev done : List Event
  done = paid.work ++ Command_done m command reply ∷ []

  counts : CountsCycles h c done k d
  counts = cycles_then paid.work (Command_done m command reply ∷ []) h mid k c d d paid.cycles (k, steps, (refl, refl))

  keeps : KeepsBy (Some a) h done (Some b) k
  keeps = call_path (paced_by a h c) (paced_by b k d) m command reply (fits, paced_by b mid d, paid, steps, refl, refl)

  for_words : IsWorkFor (Some a) h (words_of (asks command)) paid.work
  for_words = (fits, record { heap = mid; counts = paid.before }, paid.works, paid.may)

  -- so the heap and its log go on
  module _ (l between new : LogView) (led : IsLed l.past.events (course_of h l.past)) (entered : Enters logs l paid.work between) (last : logs between (Command_done m command reply) new) where
    work_in : between ≡ record l { past = with_events l.past paid.work }
    work_in = logged_all paid.work l between entered

    at : new.past ≡ with_events l.past done
    at = ap (λ (x : LogView). x.past) last ∙ (ap (λ (x : LogView). with_event x.past (Command_done m command reply)) work_in ∙ with_one paid.work (Command_done m command reply) l.past)

    kept : new.kept ≡ l.kept
    kept = ap (λ (x : LogView). x.kept) last ∙ ap (λ (x : LogView). x.kept) work_in

    pub made_led : IsLed new.past.events (course_of k new.past)
    made_led = led_now done h k l.past new.past c d at led counts

    pub made : (old : Ringed) → ringed h l c (Some a) ≡ old → Makes old m command (Ok reply) (ringed k new d (Some b))
    made old shows = (
      paid.work,
      subst (λ (r : Ringed). IsWorkFor r.pacer r.course.heap (words_of (asks command)) paid.work) shows for_words,
      goes_now done h k l.past new.past c d at led counts old l.kept new.kept (Some a) (Some b) shows kept keeps,
      ap Some paid.figures ∙ ap (λ (r : Ringed). option_map (λ (f : Figures). worked f paid.work) (figures_of r)) shows,
    )

-- the collector worked ahead
module _ (h k : HeapState) (c d : Cycles) (a b : PacerView) (words left : ℕ) (p : Prepares (paced_by a h c) words left (paced_by b k d)) (l new : LogView) (led : IsLed l.past.events (course_of h l.past))
    (entered : Enters logs l p.work new) where
  work_at : new.past ≡ with_events l.past p.work
  work_at = ap (λ (x : LogView). x.past) (logged_all p.work l new entered)

  pub ahead_led : IsLed new.past.events (course_of k new.past)
  ahead_led = led_now p.work h k l.past new.past c d work_at led p.cycles

  pub ahead : (old : Ringed) → ringed h l c (Some a) ≡ old → words ≤ a.counts.plan.cycle_words → WorksAhead old words left (ringed k new d (Some b))
  ahead old shows fits = subst (λ (r : Ringed). WorksAhead r words left (ringed k new d (Some b))) shows (record {
    before = a;
    after = b;
    was = refl;
    is = refl;
    fits = fits;
    prepares = p;
    goes = goes_now p.work h k l.past new.past c d work_at led p.cycles (ringed h l c (Some a)) l.kept new.kept (Some a) (Some b) refl (ap (λ (x : LogView). x.kept) (logged_all p.work l new entered))
        (work_paces words p.work (state_by a h) (state_by b k) p.works);
  })

-- what the pacer says of work ahead
abbrev pub as_prepared : Result ℕ AbovePlan → Result ℕ NotPrepared
as_prepared (Ok left) = Ok left
as_prepared (Err above) = Err unprepared.AbovePlan

module _ (h k : HeapState) (c d : Cycles) (a b : PacerView) (words : ℕ) (l new : LogView) (led : IsLed l.past.events (course_of h l.past)) where
  pub prepared_led : (told : Result ℕ AbovePlan) → PreparesUnless (λ es. Enters logs l es new) (paced_by a h c) words told (paced_by b k d) → IsLed new.past.events (course_of k new.past)
  prepared_led (Ok left) w = ahead_led h k c d a b words left w.1 l new led w.2
  prepared_led (Err above) w =
      subst (λ (x : LogView). IsLed x.past.events (course_of k x.past)) (sym w.2) (subst (λ (x : HeapState). IsLed l.past.events (course_of x l.past)) (ap (λ (v : PacedView). v.heap) (sym w.1)) led)

  pub prepared_by : (told : Result ℕ AbovePlan) → PreparesUnless (λ es. Enters logs l es new) (paced_by a h c) words told (paced_by b k d) → (old : Ringed) → ringed h l c (Some a) ≡ old
      → PreparesBy old words (as_prepared told) (ringed k new d (Some b))
  prepared_by (Ok left) w old shows = ahead h k c d a b words left w.1 l new led w.2 old shows w.0
  prepared_by (Err above) w old shows = (
    subst (λ (r : Ringed). IsAbove r.pacer words) shows w.0,
    (λ i. ringed (w.1 i).heap (w.2 i) (w.1 i).cycles (Some (w.1 i).pacer)) ∙ shows,
  )

-- if no plan is kept, an object needs no work
pub unpaid : (old new : Ringed) (m : ℕ) (command : Command) (reply : Reply) → old.pacer ≡ None → new.pacer ≡ None → GoesBy old (Command_done m command reply) new → Makes old m command (Ok reply) new
unpaid old new m command reply none still goes = (
  [],
  subst (λ (p : Option PacerView). IsWorkFor p old.course.heap (words_of (asks command)) []) (sym none) refl,
  goes,
  ap (option_map (λ (p : PacerView). p.figures)) still ∙ sym (ap (λ (p : Option PacerView). option_map (λ (f : Figures). worked f []) (option_map (λ (x : PacerView). x.figures) p)) none),
)

-- the collector's work is no command
piece_allowed : (from to words : ℕ) (v : PacedState) (e : Event) → WorksFor words v e → IsAllowed from to e
piece_allowed from to words v (Command_done m c reply) w = absurd w
piece_allowed from to words v Cycle_begun w = λ m of. absurd of
piece_allowed from to words v Begin_refused w = absurd w
piece_allowed from to words v (Quantum_done budget units phase) w = λ m of. absurd of
piece_allowed from to words v (Quantum_refused budget) w = absurd w

pub works_allowed : (from to words : ℕ) (es : List Event) (old new : PacedState) → Path (WorksFor words) old es new → All (IsAllowed from to) es
works_allowed from to words [] old new p = All-nil (IsAllowed from to)
works_allowed from to words (e ∷ es) old new p = All-cons (IsAllowed from to) e es (piece_allowed from to words old e p.1) (works_allowed from to words es p.0 new p.4)

pub work_allowed : (from to : ℕ) (p : Option PacerView) (h : HeapState) (words : ℕ) (work : List Event) → IsWorkFor p h words work → All (IsAllowed from to) work
work_allowed from to None h words work is = subst (All (IsAllowed from to)) (sym is) (All-nil (IsAllowed from to))
work_allowed from to (Some p) h words work w = works_allowed from to words work (state_by p h) w.1 w.2
