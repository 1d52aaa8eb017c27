-- How many quanta a cycle takes up to its sweep's end, in a run that keeps to a flow.
use Rattle.std.proofs.Common.{◌≡◌, ℕ, ◌+◌, ◌-◌, ◌*◌, ◌<◌, ◌≤◌, Bool, true, false, nat_lt, if◌then◌else◌, length, drop, ap, ◌∙◌, sym, arith, refl}
use Rattle.std.specs.Prelude.{min}
use Rattle.std.proofs.lemmas.Nat.{le-div}
use Rattle.std.proofs.Math.Nat.{le-min, mul-le-mul_right}
use Rattle.graph_heap.specs.Graph.{Graph}
use Rattle.heap_model.specs.declared.phase.Phase.TheVariants as phases
use Rattle.heap_model.specs.State.{HeapState}
use Rattle.heap_model.specs.Settings.{HeapSettings}
use Rattle.heap_model.specs.Spent.{swept_units, marking_work}
use Rattle.heap_model.specs.Represents.{Represents}
use Rattle.heap_model.specs.Event.{Course, IsCourse, present_of, snapshot_of}
use Rattle.space.specs.Demand.{blocks_of}
use Rattle.heap_model.specs.Phases.{awaits_sweep_end}
use Rattle.space.specs.Placement.{IsTidy}
use Rattle.space.proofs.Paces.Spending.{same_swept, swept_kept, few_quanta}
use Rattle.fragmentation.specs.Season.{Season, Lives, made_since}
use Rattle.size_classes.specs.Cycle.{sweep_units, unmoved_quanta}
use Rattle.fragmentation.specs.Flow.{words_of, Flow, FlowMeter, allowed_words, traced_words, live_most, marked_quanta, sweep_quanta}
use Rattle.fragmentation.proofs.Flows.Kept.{FitsFlow, IsFlowing}
use Rattle.fragmentation.proofs.Flows.Marking.{marking_few}
use Rattle.fragmentation.proofs.Flows.Spending.{live_few, same_roots, swept_few}
use Rattle.fragmentation.proofs.Season.{IsCounted}
use Rattle.fragmentation.proofs.Flows.Words.{words_more, words_both}

pub times_next : (n b : ℕ) → (n + 1) * b ≡ n * b + b
times_next n b = grind arith

spread : (q d w : ℕ) → q * (d + w) ≡ q * d + q * w
spread q d w = grind arith

split : (q w d k : ℕ) → k ≡ d + w → q * k ≡ q * d + q * w
split q w d k e = ap (λ z. q * z) e ∙ spread q d w

is_less : (a b : ℕ) → nat_lt a b ≡ true → a < b
is_less a b e = grind arith

module _ (h : HeapState) (f : Flow) (k : ℕ) (great : 0 < k) (live : Lives) (lives : (n : ℕ) → FitsFlow f (live n)) (traced : traced_words f (sweep_quanta f (length h.roots) (length h.store.pages) k) ≤ f.cycle_words) where
  abbrev pub most : ℕ
  most = sweep_quanta f (length h.roots) (length h.store.pages) k

  -- what is kept of a course
  pub record Flows (r : Course) (s : Season) (t : FlowMeter) : Type 0 where
    pub course : IsCourse r
    pub counted : IsCounted r s live
    pub flowing : IsFlowing h f k live r s t

  module _ (r : Course) (s : Season) (t : FlowMeter) (w : Flows r s t) where
    abbrev i : IsFlowing h f k live r s t
    i = w.flowing

    -- what is live and was made since the cycle began
    abbrev needs : ℕ → ℕ
    needs class = live s.cycles class + blocks_of (drop (length (snapshot_of r).objects) (present_of r).objects) class

    pub needs_few : words_of needs ≤ live_most f + t.words
    needs_few =
        let since : ℕ → ℕ = λ class. blocks_of (drop (length (snapshot_of r).objects) (present_of r).objects) class in
        let b = words_both (live s.cycles) since in
        let l = live_few f (live s.cycles) (lives s.cycles) in
        let same = words_more since (made_since s.last s) (λ class small. (let e : since class ≡ made_since s.last s class = ap (λ (z : Graph). blocks_of (drop (length (snapshot_of r).objects) z.objects) class) (sym i.graph) ∙ ap (λ n. made_since n s class) (sym w.counted.last) in omega (arith, e))) in
        let n = i.since_last in
        omega (arith, b, l, same, n)

    pub marks : (j : HeapState) → Represents j (present_of r) (snapshot_of r) → IsTidy j.store (present_of r).objects → (part cell : ℕ) → j.phase ≡ phases.Marking part cell → marking_work j ≤ live_most f + t.words
    marks j represents tidy part cell e =
        let m = marking_few j (present_of r) (snapshot_of r) represents part cell e tidy (live s.cycles) w.counted.begun.live w.counted.begun.kept in
        let n = needs_few in
        omega (arith, m, n)

    -- no more is spent before a sweep ends than roots, marking what is live and was made, and sweeping spend
    spent_few : awaits_sweep_end r.heap.phase ≡ true → r.heap.units ≤ sweep_units (length h.roots) (length h.store.pages) (live_most f + t.words)
    spent_few at =
        let l = swept_few (present_of r) (snapshot_of r) (live_most f + t.words) marks r.heap w.course.represents w.counted.tidy i.sweeping at in
        let roots = same_roots h r.heap i.limit i.settings in
        let pages : length r.heap.store.pages ≡ length h.store.pages = ap (λ (z : HeapSettings). z.pages) i.settings in
        omega (arith, l, roots, pages)

    -- no more than `most` quanta are done before a sweep ends
    pub quanta_few : t.awaiting_sweep_end ≡ true → t.quanta + 1 ≤ most
    quanta_few on = by_less (nat_lt f.quantum_words k) refl
      where
        at : awaits_sweep_end r.heap.phase ≡ true
        at = sym i.awaiting_sweep_end ∙ on

        all_pages : t.quanta + 1 ≤ unmoved_quanta (length h.roots) (length h.store.pages) k
        all_pages =
            let l = swept_kept r.heap (present_of r) (snapshot_of r) w.course.represents at in
            let same = same_swept h r.heap i.limit i.settings in
            few_quanta k (swept_units h) t.quanta r.heap.units great (i.spent at) (omega (arith, l, same))

        marked : f.quantum_words < k → t.quanta + 1 ≤ marked_quanta f (length h.roots) (length h.store.pages) k
        marked less =
            let u = i.spent at in
            let l = spent_few at in
            let p = i.paced on in
            let e = split t.quanta f.quantum_words (k - f.quantum_words) k (omega (arith, less)) in
            let n = times_next t.quanta f.quantum_words in
            let d = le-div t.quanta (sweep_units (length h.roots) (length h.store.pages) (live_most f + (f.quantum_words + f.burst))) (k - f.quantum_words) (omega (arith, less)) (omega (arith, u, l, p, e, n)) in
            omega (arith, d)

        by_less : (b : Bool) → nat_lt f.quantum_words k ≡ b → t.quanta + 1 ≤ (if b then min (unmoved_quanta (length h.roots) (length h.store.pages) k) (marked_quanta f (length h.roots) (length h.store.pages) k) else unmoved_quanta (length h.roots) (length h.store.pages) k)
        by_less true e = le-min all_pages (marked (is_less f.quantum_words k e))
        by_less false e = all_pages

    pub few : t.awaiting_sweep_end ≡ true → (t.quanta + 1) * f.quantum_words + f.burst ≤ traced_words f most
    few on = let m = mul-le-mul_right f.quantum_words (quanta_few on) in omega (arith, m)

    -- the requested words leave the words that were made within those of a cycle
    pub asked_few : (asked : ℕ) → t.words + asked ≤ allowed_words f t → t.words + asked ≤ (if t.awaiting_sweep_end then traced_words f most else f.cycle_words)
    asked_few asked keeps = by_tracing t.awaiting_sweep_end refl keeps
      where
        by_tracing : (b : Bool) → t.awaiting_sweep_end ≡ b → t.words + asked ≤ (if b then (t.quanta + 1) * f.quantum_words + f.burst else f.cycle_words) → t.words + asked ≤ (if b then traced_words f most else f.cycle_words)
        by_tracing true e l = let x = few e in omega (arith, x, l)
        by_tracing false e l = l
