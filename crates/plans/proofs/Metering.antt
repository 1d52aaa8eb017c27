-- A run whose live words are metered step by step.
use Rattle.std.proofs.Common.{◌≡◌, ℕ, ◌+◌, ◌-◌, ◌^◌, ◌<◌, ◌≤◌, inl, inr, List, [], ◌∷◌, ◌++◌, length, max, length-append, arith, refl, ap, ◌∙◌, sym, subst}
use Rattle.std.proofs.lemmas.List.{map-append}
use Rattle.std.proofs.Math.Seq.{take-append_seam, get_or-append_seam}
use Rattle.std.specs.List.{All}
use Rattle.std.proofs.lemmas.List.Elements.{All-push, All-take}
use Rattle.std.specs.Prelude.{Result, Ok, Err, OnErr}
use Rattle.graph_heap.specs.declared.command.Limits.{Limits}
use Rattle.graph_heap.specs.declared.command.Entry.{Entry}
use Rattle.graph_heap.specs.declared.command.Change.{Change}
use Rattle.graph_heap.specs.Graph.{Graph, object_of, opening, changed}
use Rattle.graph_heap.specs.History.{IsEntryOf, after_entry}
use Rattle.graph_heap.specs.Reach.{Reaches}
use Rattle.graph_heap.specs.Reaching.{AreReached}
use Rattle.size_classes.specs.declared.config.Config.{Config}
use Rattle.size_classes.specs.Config.{limits_of}
use Rattle.heap_model.specs.Alike.{IsFounded}
use Rattle.heap_model.specs.State.{HeapState}
use Rattle.heap_model.specs.Opening.{IsOpening}
use Rattle.heap_model.specs.Settings.{HeapSettings}
use Rattle.heap_model.specs.ReachedFrom.{opened}
use Rattle.heap_model.specs.Event.{Course, Event, Command_done, Does, Runs, Enters, IsCourse, present_of, snapshot_of, room_for, change_by}
use Rattle.heap_model.proofs.Agreements.Implied.{consistent_agrees}
use Rattle.heap_model.proofs.Event.Kept.{founded, present_row, enters_step, enters_present, enters_graph, begins_present, collects_present, does_course, runs_course, opening_course}
use Rattle.machine.proofs.Courses.{runs_then}
use Rattle.paced.specs.Cycles.{saturated}
use Rattle.paced.specs.Pacing.{shape_words}
use Rattle.trace.specs.New.{IsNew}
use Rattle.trace.specs.Observing.{Run, run_from, after_steps}
use Rattle.trace.specs.Player.{PlayerState}
use Rattle.trace.specs.Steps.{Step, events_of, IsBegin, IsQuantum}
use Rattle.sizing.specs.Meter.{AllFit}
use Rattle.sizing.proofs.Meters.Making.{fit_after, fit_opening}
use Rattle.plans.specs.declared.live.LiveMeter.{LiveMeter}
use Rattle.plans.specs.Live.{LivesWithin, AllLiveWithin}
use Rattle.plans.specs.LiveMeter.{words_by, ReachedWords, raised_bound, MakesLast, Counts, IsBounded, HasMetered}
use Rattle.plans.proofs.Words.{lives_least, lives_more, bounded_lives, reached_bounded, bounded_kept, bounded_grown}

-- memory may be refused
pub on_err : {A E : Type 0} (r : Result A E) → OnErr r (Unit {0})
on_err (Ok x) = tt
on_err (Err e) = tt

-- an object that can be reached was made
given_at : (r : Course) → IsCourse r → (id : ℕ) → Reaches (present_of r) id → id ≤ length (present_of r).objects
given_at r w id reach = ((consistent_agrees r.heap (present_of r) (snapshot_of r) w.represents.consistent).given id reach).below

-- nothing is live yet
new_course : (r : Course) → r.history ≡ [] → r.place ≡ 0 → r ≡ opened r.heap
new_course r history place = ap (λ l. record r { history = l }) history ∙ ap (λ n. record r { history = []; place = n }) place

none_reached : (h : HeapState) → IsOpening h → 0 < length h.store.pages → (id : ℕ) → Reaches (opening h.limits) id → ⊥
unfolding Reaches
none_reached h o some id r = let l = given_at (opened h) (opening_course h o some) id r in let p = r.0 in omega (arith, l, p)

none_bounded : (h : HeapState) → IsOpening h → 0 < length h.store.pages → IsBounded (opening h.limits) 0
none_bounded h o some = record {
  ids = [];
  reached = λ id r. absurd (none_reached h o some id r);
  given = tt;
  few = omega arith;
}

pub nothing_metered : (config : Config) (limits : Limits) (p : PlayerState) (m : LiveMeter) → IsNew config p → limits ≡ limits_of config → m ≡ record { graph = opening limits; bound = 0; most = 0 } → HasMetered (run_from p.course) m
nothing_metered config limits p m new bounds is =
    let h = p.course.heap in
    let same : p.course ≡ opened h = new_course p.course new.history new.place in
    let e : length h.store.pages ≡ config.pages = ap (λ (s : HeapSettings). s.pages) new.settings in
    let l : h.limits ≡ limits = ap (λ (s : HeapSettings). s.limits) new.settings ∙ sym bounds in
    let some : 0 < length h.store.pages = (let c = config.pages_in_range.0 in omega (arith, e, c)) in
    let none = none_bounded h new.heap some in
    let graph : opening limits ≡ present_of p.course = ap opening (sym l) ∙ sym (ap present_of same) in
    subst (HasMetered (run_from p.course)) (sym is) (record {
      opening = new.heap;
      pages = some;
      runs = same;
      graph = graph;
      shapes = fit_opening limits;
      bound = λ low. subst (λ z. IsBounded z 0) (sym (ap present_of same)) none;
      within = omega arith;
      most = λ words low. (λ all. omega arith, λ l k d few. absurd (omega (arith, few)));
    })

-- a run that is metered so far, and one step more
module _ (run : Run) (s : Step) (old : LiveMeter) (seen : HasMetered run old) (now : run.now ≡ s.before) (does : Does s.before s.event s.after) where
  abbrev es : List Event
  es = events_of run.steps

  course : IsCourse run.now
  course = runs_course es (opened run.first.heap) run.now (opening_course run.first.heap seen.opening seen.pages) seen.runs

  done : Does run.now s.event s.after
  done = subst (λ r. Does r s.event s.after) (sym now) does

  after_course : IsCourse s.after
  after_course = does_course run.now s.event s.after course done

  runs_more : Runs (opened run.first.heap) (events_of (run.steps ++ s ∷ [])) s.after
  runs_more = subst (λ k. Runs (opened run.first.heap) k s.after) (sym (map-append (λ (s : Step). s.event) run.steps (s ∷ []))) (runs_then es (s.event ∷ []) (opened run.first.heap) run.now s.after seen.runs (s.after, done, refl))

  abbrev Lives : ℕ → Step → Type 0
  Lives words t = LivesWithin words (present_of t.after)

  all_but_last : (words : ℕ) → AllLiveWithin words (run.steps ++ s ∷ []) → AllLiveWithin words run.steps
  all_but_last words h = subst (All (Lives words)) (take-append_seam run.steps (s ∷ [])) (All-take (Lives words) (length run.steps) (run.steps ++ s ∷ []) h)

  the_last : (words : ℕ) → AllLiveWithin words (run.steps ++ s ∷ []) → Lives words s
  the_last words h =
      let l = length-append run.steps (s ∷ []) in
      subst (Lives words) (get_or-append_seam run.steps s [] s) (h (length run.steps) s (omega (arith, l)))

  metered_by : (new : LiveMeter) → new.graph ≡ present_of s.after → AllFit new.graph → (new.bound < 2 ^ 64 - 1 → IsBounded (present_of s.after) new.bound) → new.bound ≤ new.most → old.most ≤ new.most
      → ((words : ℕ) → words < 2 ^ 64 - 1 → Lives words s → old.most ≤ words → new.most ≤ words) → HasMetered (after_steps run (s ∷ []) s.after) new
  metered_by new graph fit bound within more least = record {
    opening = seen.opening;
    pages = seen.pages;
    runs = runs_more;
    graph = graph;
    shapes = fit;
    bound = bound;
    within = within;
    most = λ words low. (
      λ h. least words low (the_last words h) ((seen.most words low).0 (all_but_last words h)),
      λ l. All-push (Lives words) run.steps s
          ((seen.most words low).1 (omega (arith, l, more)))
          (lives_more (present_of s.after) new.bound words (omega (arith, within, l)) (bounded_lives (present_of s.after) new.bound (subst AllFit graph fit) (bound (omega (arith, within, l, low))))),
    );
  }

  -- nothing of the graph heap changes
  pub still_metered : present_of s.after ≡ present_of run.now → HasMetered (after_steps run (s ∷ []) s.after) old
  still_metered e = metered_by old (seen.graph ∙ sym e) seen.shapes (λ low. subst (λ z. IsBounded z old.bound) (sym e) (seen.bound low)) seen.within (omega arith) (λ words low h l. l)

  -- a command
  module _ (x : Entry) (is : s.event ≡ Command_done x.mutator x.command x.reply) where
    entered : Enters run.now x.mutator x.command x.reply s.after
    entered = subst (λ e. Does run.now e s.after) is done

    abbrev g : Graph
    g = present_of run.now

    abbrev change : Change
    change = change_by (room_for run.now.heap x.command) g x.mutator x.command

    abbrev fin : Graph
    fin = changed g change

    is_founded : IsFounded g change
    is_founded = founded g (room_for run.now.heap x.command) x.mutator x.command (present_row run.now.heap g (snapshot_of run.now) course.represents.consistent)

    to_present : present_of s.after ≡ fin
    to_present = enters_present run.now s.after x.mutator x.command x.reply course entered

    to_next : after_entry old.graph x ≡ present_of s.after
    to_next = enters_graph run.now s.after x.mutator x.command x.reply course entered old.graph seen.graph

    fits_next : AllFit (present_of s.after)
    fits_next = subst AllFit (sym to_present) (fit_after g change (subst AllFit seen.graph seen.shapes) is_founded)

    given_next : (id : ℕ) → Reaches (present_of s.after) id → id ≤ length (present_of s.after).objects
    given_next = given_at s.after after_course

    given_fin : (id : ℕ) → Reaches fin id → id ≤ length fin.objects
    given_fin = subst (λ z. (id : ℕ) → Reaches z id → id ≤ length z.objects) to_present given_next

    is_entry : IsEntryOf old.graph x
    is_entry = subst (λ z. IsEntryOf z x) (sym seen.graph) (enters_step run.now s.after x.mutator x.command x.reply course entered).0

    -- how many objects there were, and are
    count_before : length old.graph.objects ≡ length g.objects
    count_before = ap (λ (z : Graph). length z.objects) seen.graph

    count_after : length (after_entry old.graph x).objects ≡ length fin.objects
    count_after = ap (λ (z : Graph). length z.objects) (to_next ∙ to_present)

    kept : length (after_entry old.graph x).objects ≤ length old.graph.objects → old.bound < 2 ^ 64 - 1 → IsBounded (present_of s.after) old.bound
    kept less low =
        let a = count_before in
        let b = count_after in
        subst (λ z. IsBounded z old.bound) (sym to_present) (bounded_kept g change is_founded given_fin old.bound (seen.bound low) (omega (arith, a, b, less)))

    abbrev next : LiveMeter
    next = record old { graph = after_entry old.graph x }

    grown : length old.graph.objects < length next.graph.objects → old.bound < 2 ^ 64 - 1 → IsBounded (present_of s.after) (old.bound + shape_words (object_of next.graph.objects (length next.graph.objects)).shape)
    grown more low =
        let a = count_before in
        let b = count_after in
        let w : IsBounded fin (old.bound + shape_words (object_of fin.objects (length fin.objects)).shape) = bounded_grown g change is_founded given_fin old.bound (seen.bound low) (omega (arith, a, b, more)) in
        subst (λ z. IsBounded z (old.bound + shape_words (object_of next.graph.objects (length next.graph.objects)).shape)) (sym to_present) (subst (λ (z : Graph). IsBounded fin (old.bound + shape_words (object_of z.objects (length z.objects)).shape)) (sym (to_next ∙ to_present)) w)

    saturates : (a n : ℕ) → saturated (a + n) < 2 ^ 64 - 1 → (a < 2 ^ 64 - 1) × (saturated (a + n) ≡ a + n)
    saturates a n low = (omega (arith, low), omega (arith, low))

    noted : (new : LiveMeter) → length old.graph.objects < length next.graph.objects → new.graph ≡ next.graph → raised_bound next next.graph ≤ old.most → new.bound ≡ raised_bound next next.graph → new.most ≡ old.most → HasMetered (after_steps run (s ∷ []) s.after) new
    noted new more graph low bound most = metered_by new (graph ∙ to_next) (subst AllFit (sym (graph ∙ to_next)) fits_next)
        (λ few. (let raised : raised_bound next next.graph < 2 ^ 64 - 1 = subst (λ n. n < 2 ^ 64 - 1) bound few in
        let q = saturates old.bound (shape_words (object_of next.graph.objects (length next.graph.objects)).shape) raised in
        subst (IsBounded (present_of s.after)) (sym (bound ∙ q.1)) (grown more q.0)))
        (omega (arith, low, bound, most)) (omega (arith, most)) (λ words few h l. omega (arith, most, l))

    measured : (new : LiveMeter) → new.graph ≡ next.graph → ReachedWords next.graph new.bound → new.most ≡ max old.most new.bound → HasMetered (after_steps run (s ∷ []) s.after) new
    measured new graph reached most =
        let all = subst (λ z. AreReached z reached.0) to_next reached.1 in
        let is : new.bound ≡ saturated (words_by (present_of s.after) reached.0) = subst (λ z. new.bound ≡ saturated (words_by z reached.0)) to_next reached.2 in
        metered_by new (graph ∙ to_next) (subst AllFit (sym (graph ∙ to_next)) fits_next)
        (λ few. reached_bounded (present_of s.after) reached.0 new.bound all given_next (omega (arith, is, few)))
        (omega (arith, most)) (omega (arith, most))
        (λ words few h l. (let w = (lives_least (present_of s.after) reached.0 words fits_next all given_next).0 h in omega (arith, is, w, most, l)))

    makes_metered : (new : LiveMeter) → length old.graph.objects < length next.graph.objects → MakesLast next new → HasMetered (after_steps run (s ∷ []) s.after) new
    makes_metered new more makes = elim makes.1 [
      | inl (low, bound, most) ↦ noted new more makes.0 low bound most
      | inr (high, reached, most) ↦ measured new makes.0 reached most
    ]

    pub command_metered : (new : LiveMeter) → (IsEntryOf old.graph x → Counts old (after_entry old.graph x) new) → HasMetered (after_steps run (s ∷ []) s.after) new
    command_metered new counts = elim (counts is_entry) [
      | inl (less, same) ↦ subst (HasMetered (after_steps run (s ∷ []) s.after)) (sym same) (metered_by next to_next (subst AllFit (sym to_next) fits_next) (kept less) seen.within (omega arith) (λ words low h l. l))
      | inr (more, makes) ↦ makes_metered new more makes
    ]

before_course : (run : Run) (s : Step) (m : LiveMeter) → HasMetered run m → run.now ≡ s.before → IsCourse s.before
before_course run s m seen now = subst IsCourse now (runs_course (events_of run.steps) (opened run.first.heap) run.now (opening_course run.first.heap seen.opening seen.pages) seen.runs)

-- a beginning, and a quantum
pub begin_metered : (run : Run) (s : Step) (m : LiveMeter) (number : ℕ) (r : Course) → IsBegin number r s → HasMetered run m → run.now ≡ s.before → HasMetered (after_steps run (s ∷ []) s.after) m
begin_metered run s m number r is seen now = still_metered run s m seen now is.3 (elim is.2 [
  | inl begun ↦ begins_present s.before s.after (subst (λ e. Does s.before e s.after) begun is.3) ∙ ap present_of (sym now)
  | inr on ↦ ap present_of ((subst (λ e. Does s.before e s.after) on is.3).1 ∙ sym now)
])

pub quantum_metered : (run : Run) (s : Step) (m : LiveMeter) (budget : ℕ) → IsQuantum budget s → HasMetered run m → run.now ≡ s.before → HasMetered (after_steps run (s ∷ []) s.after) m
quantum_metered run s m budget is seen now =
    let q = is.0 in
    let d = subst (λ e. Does s.before e s.after) q.2 is.1 in
    still_metered run s m seen now is.1 (subst (λ r. present_of s.after ≡ present_of r) (sym now) (collects_present s.before s.after budget q.0 q.1 (before_course run s m seen now) d))
