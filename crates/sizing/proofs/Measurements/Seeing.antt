-- A run that is measured step by step.
use Rattle.std.proofs.Common.{◌≡◌, ◌≢◌, ℕ, inl, inr, true, false, List, [], ◌∷◌, ◌++◌, length, arith, refl, ap, ◌∙◌, sym, subst}
use Rattle.std.proofs.lemmas.List.{map-append}
use Rattle.std.specs.Prelude.{Result, Ok, Err, OnErr}
use Rattle.graph_heap.specs.declared.command.Limits.{Limits}
use Rattle.graph_heap.specs.declared.command.Entry.{Entry}
use Rattle.heap_model.specs.declared.phase.Phase.{Phase}
use Rattle.heap_model.specs.declared.phase.Phase.TheVariants as phases
use Rattle.size_classes.specs.declared.config.Config.{Config}
use Rattle.size_classes.specs.Config.{limits_of}
use Rattle.heap_model.specs.State.{HeapState}
use Rattle.heap_model.specs.Opening.{IsOpening}
use Rattle.heap_model.specs.Settings.{HeapSettings}
use Rattle.heap_model.specs.ReachedFrom.{opened}
use Rattle.heap_model.specs.Event.{Course, Event, Command_done, Cycle_begun, Begin_refused, Quantum_done, Does, Runs, Enters, Begins, IsCourse}
use Rattle.heap_model.proofs.Event.Kept.{runs_course, opening_course}
use Rattle.machine.proofs.Courses.{runs_then}
use Rattle.space.specs.Pace.{in_cycle}
use Rattle.space.proofs.Paces.Pacing.{idle_phase}
use Rattle.trace.specs.New.{IsNew}
use Rattle.trace.specs.Observing.{Run, run_from, after_steps}
use Rattle.trace.specs.Player.{PlayerState}
use Rattle.trace.specs.Steps.{Step, events_of, IsCommand, IsBegin, IsQuantum}
use Rattle.sizing.specs.declared.meter.Meter.{Meter}
use Rattle.sizing.specs.Meter.{Measures, Works}
use Rattle.sizing.specs.Measuring.{HasMeasured}
use Rattle.sizing.proofs.Meters.Events.{goes_on_measures}

-- memory may be refused
pub on_err : {A E : Type 0} (r : Result A E) → OnErr r (Unit {0})
on_err (Ok x) = tt
on_err (Err e) = tt

-- nothing is done yet
new_course : (r : Course) → r.history ≡ [] → r.place ≡ 0 → r ≡ opened r.heap
new_course r history place = ap (λ l. record r { history = l }) history ∙ ap (λ n. record r { history = []; place = n }) place

pub nothing_measured : (config : Config) (limits : Limits) (p : PlayerState) (m : Meter) → IsNew config p → limits ≡ limits_of config → ((h : HeapState) → IsOpening h → h.limits ≡ limits → Measures h.limits [] (opened h) m) → HasMeasured (run_from p.course) m
nothing_measured config limits p m new bounds measured =
    let h = p.course.heap in
    let same : p.course ≡ opened h = new_course p.course new.history new.place in
    let e : length h.store.pages ≡ config.pages = ap (λ (s : HeapSettings). s.pages) new.settings in
    let some = config.pages_in_range.0 in
    record {
      opening = new.heap;
      pages = omega (arith, e, some);
      runs = same;
      measures = subst (λ x. Measures h.limits [] x m) (sym same) (measured h new.heap (ap (λ (s : HeapSettings). s.limits) new.settings ∙ sym bounds));
    }

-- a cycle is running
not_idle : (f : Phase) → in_cycle f ≡ true → f ≢ phases.Idle
not_idle f on e = let z : true ≡ false = sym on ∙ ap in_cycle e in cc

-- A run that is measured so far, and one step more.
module _ (run : Run) (s : Step) (old new : Meter) (seen : HasMeasured run old) (now : run.now ≡ s.before) where
  abbrev es : List Event
  es = events_of run.steps

  abbrev l : Limits
  l = run.first.heap.limits

  course : IsCourse run.now
  course = runs_course es (opened run.first.heap) run.now (opening_course run.first.heap seen.opening seen.pages) seen.runs

  -- what the step did
  done_by : (e : Event) → s.event ≡ e → Does s.before s.event s.after → Does run.now e s.after
  done_by e is done = subst (λ r. Does r e s.after) (sym now) (subst (λ x. Does s.before x s.after) is done)

  one_measured : (e : Event) → s.event ≡ e → Does run.now e s.after → Measures l (es ++ e ∷ []) s.after new → HasMeasured (after_steps run (s ∷ []) s.after) new
  one_measured e is done measures =
      let all : es ++ e ∷ [] ≡ events_of (run.steps ++ s ∷ []) = ap (λ x. es ++ x ∷ []) (sym is) ∙ sym (map-append (λ (s : Step). s.event) run.steps (s ∷ [])) in
      record {
        opening = seen.opening;
        pages = seen.pages;
        runs = subst (λ k. Runs (opened run.first.heap) k s.after) all (runs_then es (e ∷ []) (opened run.first.heap) run.now s.after seen.runs (s.after, done, refl));
        measures = subst (λ k. Measures l k s.after new) all measures;
      }

  -- a command
  pub command_measured : (x : Entry) → IsCommand x s
      → ((l : Limits) (es : List Event) (r y : Course) → Measures l es r old → IsCourse r → Enters r x.mutator x.command x.reply y → Measures l (es ++ Command_done x.mutator x.command x.reply ∷ []) y new) → HasMeasured (after_steps run (s ∷ []) s.after) new
  command_measured x is measured =
      let e = Command_done x.mutator x.command x.reply in
      let d = done_by e is.0 is.1 in
      one_measured e is.0 d (measured l es run.now s.after seen.measures course d)

  -- whether a cycle is running
  at_on : old.cycle_running ≡ in_cycle run.now.heap.phase
  at_on = seen.measures.holds.cycle_running ∙ seen.measures.are.cycle_running

  -- A cycle is begun, if none is running, or is refused.
  pub begin_measured : (number : ℕ) (r : Course) → IsBegin number r s → old.cycle_running ≡ false
      → ((l : Limits) (es : List Event) (x y : Course) → Measures l es x old → IsCourse x → Begins x y → Measures l (es ++ Cycle_begun ∷ []) y new) → HasMeasured (after_steps run (s ∷ []) s.after) new
  begin_measured number r is off measured = elim is.2 [
    | inl begun ↦ (let d = done_by Cycle_begun begun is.3 in one_measured Cycle_begun begun d (measured l es run.now s.after seen.measures course d))
    | inr on ↦ absurd ((done_by Begin_refused on is.3).0 (idle_phase run.now.heap.phase (sym at_on ∙ off)))
  ]

  pub on_measured : (number : ℕ) (r : Course) → IsBegin number r s → old.cycle_running ≡ true → new ≡ old → HasMeasured (after_steps run (s ∷ []) s.after) new
  on_measured number r is on same = elim is.2 [
    | inl begun ↦ absurd (not_idle run.now.heap.phase (sym at_on ∙ on) (done_by Cycle_begun begun is.3).idle)
    | inr still ↦
        let d = done_by Begin_refused still is.3 in
        one_measured Begin_refused still d (subst (λ r. Measures l (es ++ Begin_refused ∷ []) r new) (sym d.1) (subst (Measures l (es ++ Begin_refused ∷ []) run.now) (sym same) (goes_on_measures l es run.now old seen.measures)))
  ]

  -- a quantum
  pub quantum_measured : (budget : ℕ) (ends : Phase) → IsQuantum budget s → s.after.heap.phase ≡ ends
      → ((l : Limits) (es quanta : List Event) (x y : Course) → Measures l es x old → IsCourse x → Works budget quanta x y → y.heap.phase ≡ ends → Measures l (es ++ quanta) y new) → HasMeasured (after_steps run (s ∷ []) s.after) new
  quantum_measured budget ends is phase measured =
      let q = is.0 in
      let e = Quantum_done budget q.0 q.1 in
      let d = done_by e q.2 is.1 in
      one_measured e q.2 d (measured l es (e ∷ []) run.now s.after seen.measures course (record { each = (refl, tt); some = omega arith; runs = (s.after, d, refl) }) phase)
