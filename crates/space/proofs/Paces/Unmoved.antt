-- If moving never begins, a quantum spends its whole budget, and a pace keeps to a smaller demand.
use Rattle.std.proofs.Common.{◌≡◌, ℕ, ◌+◌, ◌<◌, ◌≤◌, inl, inr, Bool, true, false, ◌==◌, if◌then◌else◌, List, Option, Some, None, length, set, ap, ◌∙◌, sym, subst, arith, refl}
use Rattle.std.proofs.lemmas.Bool.{cases_Bool}
use Rattle.size_classes.specs.declared.class.TheConstants.{CLASSES}
use Rattle.heap_model.specs.declared.phase.Phase.{Phase}
use Rattle.heap_model.specs.declared.phase.Phase.TheVariants as phases
use Rattle.heap_model.specs.declared.phase.Moving.{Moving}
use Rattle.heap_model.specs.declared.phase.Moving.TheVariants as moves
use Rattle.heap_model.specs.Pages.{Page, page_at}
use Rattle.heap_model.specs.State.{HeapState, is_evacuating}
use Rattle.heap_model.specs.Placed.{IsPlaced}
use Rattle.heap_model.specs.Opening.{IsOpening}
use Rattle.heap_model.specs.Settings.{settings_of}
use Rattle.heap_model.specs.Spent.{cycle_limit, swept_units}
use Rattle.heap_model.specs.Event.{Course, Event, Command_done, Cycle_begun, Begin_refused, Quantum_done, Quantum_refused, Does, Runs, IsCourse, present_of, snapshot_of}
use Rattle.heap_model.specs.ReachedFrom.{opened}
use Rattle.heap_model.proofs.Store.Allocated.{page_within}
use Rattle.heap_model.proofs.Action.Moving.{same_number}
use Rattle.heap_model.proofs.Settings.{does_settings}
use Rattle.heap_model.proofs.Event.Kept.{does_course, opening_course}
use Rattle.space.specs.Demand.{Demand, blocks_for}
use Rattle.heap_model.specs.Phases.{awaits_sweep_end}
use Rattle.space.specs.Tally.{Tally, opening_tally, after_event, KeepsTo, AllKeepTo, EveryNewFindsRoom}
use Rattle.space.specs.Space.{space_for, pages_for, below_of}
use Rattle.space.specs.Counts.{evacuating_pages}
use Rattle.space.specs.Placement.{MayEvacuate, MaySpare, HasBoundedPages}
use Rattle.space.specs.Pace.{Pace, Beat, opening_beat, in_cycle, KeepsPace, AllKeepPace, unmoved_quanta, demand_of}
use Rattle.space.proofs.Counts.{one_if, evacuating_set}
use Rattle.space.proofs.Tally.{IsTracked, tracked_does, opening_tracked, runs_find_room}
use Rattle.space.proofs.Paces.Pacing.{quanta_after, runs_keep, opening_paced}
use Rattle.space.proofs.Paces.Spending.{limit_stays, same_swept, swept_kept, all_spent, few_quanta, HaveSpent, Spends, spent_next}

-- a page that is evacuating is counted
some_evacuating : (pages : List (Option Page)) (page : ℕ) (p : Page) → page_at pages page ≡ Some p → p.evacuating ≡ true → 0 < evacuating_pages pages
some_evacuating pages page p at on =
    let counts = evacuating_set pages (set pages page None) page (Some p) None (page_within pages page p at) at refl in
    let one : one_if (is_evacuating (Some p)) ≡ 1 = ap one_if on in
    let none : one_if (is_evacuating None) ≡ 0 = refl in
    omega (arith, counts, one, none)

-- if no page may be left sparse, blocks aren't moved
pub none_moving : (h : HeapState) (blocks : ℕ → ℕ) (m : Moving) → IsPlaced h.store.pages h.phase → HasBoundedPages h blocks 0 → h.phase ≡ phases.Moving m → ⊥
none_moving h blocks (moves.Pass class page best chosen) placed w e =
    let l = subst (MayEvacuate 0 h.defrag_pages (evacuating_pages h.store.pages)) e w.evacuating in
    let few = l.1 in
    omega (arith, few)
none_moving h blocks (moves.Emptying class page block chosen) placed w e =
    let l = subst (MayEvacuate 0 h.defrag_pages (evacuating_pages h.store.pages)) e w.evacuating in
    let few = l.0 in
    let none = l.1 in
    let p = subst (IsPlaced h.store.pages) e placed in
    let some = some_evacuating h.store.pages page p.0 p.1 p.2 in
    omega (arith, few, none, some)

-- a running cycle that moves nothing is before the end of its sweep
still_tracing : (q : Phase) → ((m : Moving) → q ≡ phases.Moving m → ⊥) → in_cycle q ≡ true → awaits_sweep_end q ≡ true
still_tracing phases.Idle none on = absurd (cc)
still_tracing (phases.Roots next) none on = refl
still_tracing (phases.Marking part cell) none on = refl
still_tracing (phases.Sweeping page block) none on = refl
still_tracing (phases.Moving m) none on = absurd (none m refl)

-- The invariant of a course in which no page may be left sparse: that of a demand, and each quantum spends at least k
-- units.
record IsStill (h : HeapState) (d : Demand) (k : ℕ) (r : Course) (t : Tally) (n : ℕ) : Type 0 where
  tracked : IsTracked r t d 0
  limit : cycle_limit r.heap ≡ cycle_limit h
  settings : settings_of r.heap ≡ settings_of h
  spent : HaveSpent k r n

still_none : (d : Demand) (r : Course) (t : Tally) → IsCourse r → IsTracked r t d 0 → (m : Moving) → r.heap.phase ≡ phases.Moving m → ⊥
still_none d r t w i m e = none_moving r.heap (blocks_for d) m w.represents.placed i.bounded e

module _ (h : HeapState) (p : Pace) (k : ℕ) (some : 0 < k) where
  still_few : (r : Course) (t : Tally) (n : ℕ) → IsCourse r → IsStill h (demand_of p (unmoved_quanta h k)) k r t n → in_cycle r.heap.phase ≡ true → n + 1 ≤ unmoved_quanta h k
  still_few r t n w i on =
      let none = still_none (demand_of p (unmoved_quanta h k)) r t w i.tracked in
      let l = swept_kept r.heap (present_of r) (snapshot_of r) w.represents (still_tracing r.heap.phase none on) in
      let same = same_swept h r.heap i.limit i.settings in
      few_quanta k (swept_units h) n r.heap.units some (i.spent on) (omega (arith, l, same))

  still_spends : (r : Course) (e : Event) (new : Course) (t : Tally) (b : Beat) → IsCourse new → IsTracked new (after_event t e) (demand_of p (unmoved_quanta h k)) 0 → KeepsPace p k b e → Does r e new → Spends k e
  still_spends r (Command_done m c reply) new t b w i keeps does = tt
  still_spends r Cycle_begun new t b w i keeps does = tt
  still_spends r Begin_refused new t b w i keeps does = tt
  still_spends r (Quantum_done budget units phase) new t b w i keeps does = λ away.
      let none = still_none (demand_of p (unmoved_quanta h k)) new (after_event t (Quantum_done budget units phase)) w i in
      let l = all_spent r.heap new.heap budget units does.turn none (λ idle. away (sym does.ends ∙ idle)) in
      omega (arith, l, keeps)
  still_spends r (Quantum_refused budget) new t b w i keeps does = tt

  still_next : (r : Course) (e : Event) (new : Course) (t : Tally) (b : Beat) (n : ℕ) → IsCourse r → IsStill h (demand_of p (unmoved_quanta h k)) k r t n → KeepsPace p k b e → KeepsTo (demand_of p (unmoved_quanta h k)) t e → Does r e new
      → IsStill h (demand_of p (unmoved_quanta h k)) k new (after_event t e) (quanta_after r e n)
  still_next r e new t b n w i keeps to does =
      let tracked = (tracked_does r e new t (demand_of p (unmoved_quanta h k)) 0 w i.tracked to does).0 in
      record {
        tracked = tracked;
        limit = limit_stays r e new does ∙ i.limit;
        settings = does_settings r e new does ∙ i.settings;
        spent = spent_next k r e new n i.spent (still_spends r e new t b (does_course r e new w does) tracked keeps does) does;
      }

-- moving never begins: either it may not at all, or as many pages stay free as it begins below
pub may_none : (h : HeapState) (blocks : ℕ → ℕ) → pages_for blocks 0 CLASSES + below_of h ≤ length h.store.pages → MaySpare h blocks 0
may_none h blocks fits = elim (cases_Bool (h.defrag_pages == 0)) [
  | inl e ↦ inl (no_spare (h.defrag_below == 0) (same_number h.defrag_pages 0 e))
  | inr e ↦ inr (refl, subst (λ z. pages_for blocks 0 CLASSES + (if z then 0 else h.defrag_below) ≤ length h.store.pages) e fits)
]
  where
    no_spare : (b : Bool) → h.defrag_pages ≡ 0 → (if b then 0 else h.defrag_pages) ≡ 0
    no_spare true z = refl
    no_spare false z = z

pub unmoved_suffices : (h : HeapState) (es : List Event) (new : Course) (d : Demand) → IsOpening h → 0 < length h.store.pages → Runs (opened h) es new → AllKeepTo d (opening_tally h.limits) es → space_for d 0 + below_of h ≤ length h.store.pages → EveryNewFindsRoom es
unmoved_suffices h es new d o some runs keeps fits = runs_find_room es (opened h) new (opening_tally h.limits) d 0 (opening_course h o some) (opening_tracked h o some d 0 (may_none h (blocks_for d) fits) (omega (arith, fits))) runs keeps

pub unmoved_keeps : (h : HeapState) (es : List Event) (new : Course) (p : Pace) (k : ℕ) → 0 < k → IsOpening h → 0 < length h.store.pages → Runs (opened h) es new → AllKeepPace p k (opening_beat h.limits) es
    → space_for (demand_of p (unmoved_quanta h k)) 0 + below_of h ≤ length h.store.pages → AllKeepTo (demand_of p (unmoved_quanta h k)) (opening_tally h.limits) es
unmoved_keeps h es new p k great o some runs keeps fits =
    let d = demand_of p (unmoved_quanta h k) in
    runs_keep p k (unmoved_quanta h k) (IsStill h d k) (still_few h p k great) (still_next h p k great) es (opened h) new (opening_tally h.limits) (opening_beat h.limits) 0 (opening_course h o some)
    (record { tracked = opening_tracked h o some d 0 (may_none h (blocks_for d) fits) (omega (arith, fits)); limit = refl; settings = refl; spent = λ on. omega arith })
    (opening_paced h p (unmoved_quanta h k) o) runs keeps
