-- A run that keeps to a demand in pages keeps within its pages.
use Rattle.std.proofs.Common.{◌≡◌, ℕ, zero, suc, ◌+◌, ◌<◌, ◌≤◌, Bool, true, false, if◌then◌else◌, nat_lt, List, [], ◌∷◌, length, drop, ap, sym, subst, arith, refl}
use Rattle.std.proofs.lemmas.List.Sums.{sum_by-cons}
use Rattle.graph_heap.specs.declared.command.Command.{Command}
use Rattle.graph_heap.specs.declared.command.Reply.{Reply}
use Rattle.graph_heap.specs.Graph.{Graph, Object}
use Rattle.size_classes.specs.declared.class.TheConstants.{CLASSES}
use Rattle.size_classes.specs.Sizes.{blocks_in}
use Rattle.size_classes.specs.Need.{needed}
use Rattle.heap_model.specs.declared.phase.Phase.{Phase}
use Rattle.heap_model.specs.Pages.{whole_pages}
use Rattle.heap_model.specs.State.{HeapState}
use Rattle.heap_model.specs.Opening.{IsOpening}
use Rattle.heap_model.specs.ReachedFrom.{opened}
use Rattle.heap_model.specs.Event.{Course, Event, Command_done, Cycle_begun, Begin_refused, Quantum_done, Quantum_refused, Enters, Does, Runs, IsCourse, present_of}
use Rattle.heap_model.proofs.Event.Kept.{opening_course}
use Rattle.space.specs.Demand.{blocks_of, asked_for}
use Rattle.heap_model.specs.Phases.{awaits_sweep_end}
use Rattle.space.specs.Tally.{NewFindsRoom, EveryNewFindsRoom}
use Rattle.space.specs.Space.{class_sum}
use Rattle.space.proofs.Counts.{class_sum_le, class_sum_both}
use Rattle.space.proofs.Paces.Pacing.{command_less}
use Rattle.fragmentation.specs.Season.{Season, Lives, opening_season, made_since, season_swept, season_after, Keeps, AllKeep}
use Rattle.fragmentation.specs.Suffice.{gathered_pages, season_pages, WithinPages, pages_of, PageDemand, demand_pages, WithinPageDemand, GathersAll}
use Rattle.fragmentation.proofs.Suffice.Paging.{pages_more, pages_both, pages_none}
use Rattle.fragmentation.proofs.Season.{IsCounted, counted_command, made_more, base_low, all_find_room, opening_counted}
use Rattle.fragmentation.proofs.Suffice.Moving.{IsMoving, moving_step, opening_moving}

ones : (n : ℕ) → class_sum (λ k. 1) n ≡ n
ones zero = refl
ones (suc n) = let r = ones n in omega (arith, r)

season_few : (s : Season) (asked : ℕ → ℕ) → season_pages s asked ≤ pages_of s.before + CLASSES + pages_of (λ class. made_since s.swept s class + asked class)
season_few s asked =
    let l = class_sum_le (λ k. gathered_pages k (s.before k) + whole_pages k (made_since s.swept s k + asked k)) (λ k. whole_pages k (s.before k) + 1 + whole_pages k (made_since s.swept s k + asked k)) CLASSES (λ k l. (let g = one_more k (nat_lt (s.before k) (blocks_in k)) in omega (arith, g))) in
    let a = class_sum_both (λ k. whole_pages k (s.before k) + 1) (λ k. whole_pages k (made_since s.swept s k + asked k)) CLASSES in
    let b = class_sum_both (λ k. whole_pages k (s.before k)) (λ k. 1) CLASSES in
    let o = ones CLASSES in
    omega (arith, l, a, b, o)
  where
    one_more : (k : ℕ) (b : Bool) → (if b then whole_pages k (s.before k) else whole_pages k (s.before k) + 1) ≤ whole_pages k (s.before k) + 1
    one_more k true = omega arith
    one_more k false = omega arith

-- fewer objects since later
pub drop_less : (m n : ℕ) (xs : List Object) (class : ℕ) → m ≤ n → blocks_of (drop n xs) class ≤ blocks_of (drop m xs) class
drop_less zero zero xs class l = omega arith
drop_less zero (suc n) [] class l = omega arith
drop_less zero (suc n) (x ∷ xs) class l =
    let r = drop_less zero n xs class (omega arith) in
    let a = sum_by-cons (λ (o : Object). needed o.shape class) x xs in
    omega (arith, r, a)
drop_less (suc m) zero xs class l = absurd (omega (arith, l))
drop_less (suc m) (suc n) [] class l = omega arith
drop_less (suc m) (suc n) (x ∷ xs) class l = drop_less m n xs class (omega (arith, l))

-- what is kept
module _ (live : Lives) (b : PageDemand) (lives : (n : ℕ) → pages_of (live n) ≤ b.live) where
  record IsDemanded (r : Course) (s : Season) : Type 0 where
    moving : IsMoving live (demand_pages b) r s
    since : pages_of (made_since s.base s) ≤ b.made
    before : pages_of s.before ≤ b.live + b.made
    last : s.last ≤ length s.graph.objects
    base : s.base ≤ s.last
    swept : s.base ≤ s.swept

  -- a command that keeps to the demand keeps within its pages
  budget_within : (s : Season) (asked : ℕ → ℕ) → s.base ≤ s.swept → pages_of s.before ≤ b.live + b.made → WithinPageDemand b s asked → WithinPages (demand_pages b) s asked
  budget_within s asked later before keeps =
      let p = season_few s asked in
      let q = pages_more (λ class. made_since s.swept s class + asked class) (λ class. made_since s.base s class + asked class) (λ class l. (let d = drop_less s.base s.swept s.graph.objects class later in omega (arith, d))) in
      omega (arith, p, q, before, keeps)

  budget_command : (r new : Course) (m : ℕ) (c : Command) (reply : Reply) (s : Season) → IsCourse r → IsCounted r s live → IsDemanded r s → WithinPageDemand b s (asked_for s.graph m c) → Enters r m c reply new
      → IsMoving live (demand_pages b) new (season_after live s (Command_done m c reply)) → IsDemanded new (season_after live s (Command_done m c reply))
  budget_command r new m c reply s w i k keeps e moving = record {
    moving = moving;
    since = (let p = pages_more (made_since s.base (season_after live s (Command_done m c reply))) (λ class. made_since s.base s class + asked_for s.graph m c class) (λ class l. grows class) in omega (arith, p, keeps));
    before = k.before;
    last = (let x = i.last in let y = after_counted.last in let z = after_counted.begun.kept.more in let u : length (season_after live s (Command_done m c reply)).graph.objects ≡ length (present_of new).objects = ap (λ (z : Graph). length z.objects) after_counted.graph in omega (arith, x, y, z, u));
    base = k.base;
    swept = k.swept;
  }
    where
      after_counted : IsCounted new (season_after live s (Command_done m c reply)) live
      after_counted = counted_command r new m c reply s live w i e

      grows : (class : ℕ) → made_since s.base (season_after live s (Command_done m c reply)) class ≤ made_since s.base s class + asked_for s.graph m c class
      grows class =
          let a = made_more r new m c reply s live w i e s.base class (base_low r new m c reply s live w i e) in
          let d = command_less r.heap (present_of r) m c class in
          let f : asked_for s.graph m c class ≡ asked_for (present_of r) m c class = ap (λ z. asked_for z m c class) i.graph in
          omega (arith, a, d, f)

  budget_quantum : (r new : Course) (budget units : ℕ) (phase : Phase) (s : Season) → IsDemanded r s → IsMoving live (demand_pages b) new (season_after live s (Quantum_done budget units phase)) → IsDemanded new (season_after live s (Quantum_done budget units phase))
  budget_quantum r new budget units phase s k moving = by_phase (awaits_sweep_end phase) moving
    where
      same : IsMoving live (demand_pages b) new s → IsDemanded new s
      same m = record { moving = m; since = k.since; before = k.before; last = k.last; base = k.base; swept = k.swept }

      ended : IsMoving live (demand_pages b) new (season_swept live s) → IsDemanded new (season_swept live s)
      ended m = record {
        moving = m;
        since = (let p = pages_more (made_since s.last s) (made_since s.base s) (λ class l. drop_less s.base s.last s.graph.objects class k.base) in let x = k.since in omega (arith, p, x));
        before = (let p = pages_both (live s.number) (made_since s.base s) in let x = k.since in let y = lives s.number in omega (arith, p, x, y));
        last = k.last;
        base = omega arith;
        swept = k.last;
      }

      by_tracing : (t : Bool) → IsMoving live (demand_pages b) new (if t then season_swept live s else s) → IsDemanded new (if t then season_swept live s else s)
      by_tracing true m = ended m
      by_tracing false m = same m

      by_phase : (t : Bool) → IsMoving live (demand_pages b) new (if t then s else (if s.awaiting_sweep_end then season_swept live s else s)) → IsDemanded new (if t then s else (if s.awaiting_sweep_end then season_swept live s else s))
      by_phase true m = same m
      by_phase false m = by_tracing s.awaiting_sweep_end m

  budget_step : (r : Course) (e : Event) (new : Course) (s : Season) → IsCourse r → IsCounted r s live → IsDemanded r s → Keeps (WithinPageDemand b) live s e → Does r e new → IsDemanded new (season_after live s e) × NewFindsRoom e
  budget_step r (Command_done m c reply) new s w i k keeps does =
      let x = moving_step live (demand_pages b) r (Command_done m c reply) new s w i k.moving (budget_within s (asked_for s.graph m c) k.swept k.before keeps) does in
      (budget_command r new m c reply s w i k keeps does x.0, x.1)
  budget_step r Cycle_begun new s w i k keeps does =
      let x = moving_step live (demand_pages b) r Cycle_begun new s w i k.moving keeps does in
      (record { moving = x.0; since = k.since; before = k.before; last = omega arith; base = (let y = k.base in let z = k.last in omega (arith, y, z)); swept = k.swept }, tt)
  budget_step r Begin_refused new s w i k keeps does = (subst (λ z. IsDemanded z s) (sym does.1) k, tt)
  budget_step r (Quantum_done budget units phase) new s w i k keeps does =
      let x = moving_step live (demand_pages b) r (Quantum_done budget units phase) new s w i k.moving keeps does in
      (budget_quantum r new budget units phase s k x.0, tt)
  budget_step r (Quantum_refused budget) new s w i k keeps does = (subst (λ z. IsDemanded z s) (sym does.1) k, tt)

pub page_demand_suffices : (h : HeapState) (es : List Event) (new : Course) (b : PageDemand) (live : Lives) → IsOpening h → 0 < length h.store.pages → GathersAll h → Runs (opened h) es new → ((n : ℕ) → pages_of (live n) ≤ b.live) → AllKeep (WithinPageDemand b) live (opening_season h.limits) es
    → demand_pages b ≤ length h.store.pages → EveryNewFindsRoom es
page_demand_suffices h es new b live o some all runs lives keeps fits =
    all_find_room (WithinPageDemand b) live (IsDemanded live b lives) (budget_step live b lives) es (opened h) new (opening_season h.limits) (opening_course h o some) (opening_counted h o some live)
    (record { moving = opening_moving h live (demand_pages b) o some all fits; since = omega (arith, none); before = omega (arith, none); last = omega arith; base = omega arith; swept = omega arith }) runs keeps
  where
    none : pages_of (λ class. 0) ≡ 0
    none = pages_none
