-- The units that a cycle spends if a run keeps to a flow.
use Rattle.std.proofs.Common.{◌≡◌, ℕ, ◌+◌, ◌-◌, ◌*◌, ◌/◌, ◌<◌, ◌≤◌, ◌⊎◌, inl, inr, Bool, true, false, leb, if◌then◌else◌, length, ap, sym, subst, arith, refl}
use Rattle.std.specs.Prelude.{None}
use Rattle.std.proofs.lemmas.Nat.{le-div}
use Rattle.std.proofs.lemmas.Bool.{leb-true}
use Rattle.std.proofs.Math.Nat.{lt-div-mul-add, mul-le-mul_left}
use Rattle.graph_heap.specs.Graph.{Graph}
use Rattle.size_classes.specs.declared.class.TheConstants.{CLASSES, PAGE_WORDS}
use Rattle.size_classes.specs.Sizes.{size_of, blocks_in}
use Rattle.size_classes.proofs.Table.{all_below_at, blocks_some}
use Rattle.heap_model.specs.declared.phase.Phase.{Phase}
use Rattle.heap_model.specs.declared.phase.Phase.TheVariants as phases
use Rattle.heap_model.specs.declared.phase.Moving.TheVariants as moves
use Rattle.heap_model.specs.Pages.{whole_pages}
use Rattle.heap_model.specs.Store.{Store}
use Rattle.heap_model.specs.State.{HeapState}
use Rattle.heap_model.specs.Phases.{awaits_sweep_end}
use Rattle.heap_model.specs.Spent.{cycle_limit, marking_work, IsWithin}
use Rattle.heap_model.specs.Settings.{HeapSettings, settings_of}
use Rattle.heap_model.specs.Represents.{Represents}
use Rattle.heap_model.specs.Action.{Action, Scans_root, Ends_roots, Scans_header, Scans_cell, Ends_marking, Frees_block, Passes_block, Closes_page, Ends_sweep, Looks_at_page, Chooses_page, Chooses_none, Moves_block, Ends_moving, Chain, Nothing_done, Then, goes_to, after_sweep, is_sparse}
use Rattle.heap_model.proofs.Represents.{represents_chain}
use Rattle.heap_model.proofs.Grey.Relinked.{represents_relinked}
use Rattle.space.specs.Placement.{IsTidy}
use Rattle.space.proofs.Counts.{class_sum_le}
use Rattle.space.proofs.Paces.Spending.{same_swept}
use Rattle.space.proofs.Placement.Tidying.{shrinks_keeps, tidy_same}
use Rattle.space.proofs.Placement.Acting.{tidy_action}
use Rattle.fragmentation.specs.declared.flow.TheConstants.{LEAST_PAGE_FILL}
use Rattle.fragmentation.specs.Suffice.{pages_of}
use Rattle.size_classes.specs.Cycle.{sweep_units}
use Rattle.fragmentation.specs.Flow.{words_of, Flow, live_most}
use Rattle.fragmentation.proofs.Flows.Words.{times_sum}
use Rattle.fragmentation.proofs.Flows.Kept.{FitsFlow, SweepsWithin}

-- the blocks of a page have no more words than the page
pub page_words_most : (k : ℕ) → k < CLASSES → size_of k * blocks_in k ≤ 2048
unfolding size_of blocks_in
page_words_most k h = leb-true (size_of k * blocks_in k) 2048 (all_below_at (λ k. leb (size_of k * blocks_in k) 2048) CLASSES k refl h)

class_most : (k n : ℕ) → k < CLASSES → size_of k * n ≤ PAGE_WORDS * whole_pages k n
class_most k n l =
    let some = blocks_some k l in
    let d : n + (blocks_in k - 1) < (n + (blocks_in k - 1)) / blocks_in k * blocks_in k + blocks_in k = lt-div-mul-add some in
    let a = mul-le-mul_left (size_of k) (few (blocks_in k) n (whole_pages k n) some d) in
    let b = mul-le-mul_left (whole_pages k n) (page_words_most k l) in
    let e = turned (size_of k) (whole_pages k n) (blocks_in k) in
    omega (arith, a, b, e)
  where
    few : (b n q : ℕ) → 0 < b → n + (b - 1) < q * b + b → n ≤ q * b
    few b n q some l = omega (arith, some, l)

    turned : (a q b : ℕ) → a * (q * b) ≡ q * (a * b)
    turned a q b = grind arith

-- what is live has no more words than the flow lets it have
pub live_few : (f : Flow) (blocks : ℕ → ℕ) → FitsFlow f blocks → words_of blocks ≤ live_most f
live_few f blocks w = by_few w.few
  where
    by_few : (LEAST_PAGE_FILL * pages_of blocks ≤ f.live_words) ⊎ (words_of blocks ≤ f.live_words) → words_of blocks ≤ live_most f
    by_few (inl l) =
        let p = le-div (pages_of blocks) f.live_words LEAST_PAGE_FILL (omega arith) (omega (arith, l)) in
        let s = class_sum_le (λ k. size_of k * blocks k) (λ k. PAGE_WORDS * whole_pages k (blocks k)) CLASSES (λ k small. class_most k (blocks k) small) in
        let t = times_sum PAGE_WORDS (λ k. whole_pages k (blocks k)) CLASSES in
        omega (arith, p, s, t)
    by_few (inr l) =
        let d : f.live_words < f.live_words / LEAST_PAGE_FILL * LEAST_PAGE_FILL + LEAST_PAGE_FILL = lt-div-mul-add (omega arith) in
        omega (arith, d, l)

-- No phase, unit or root cell changes.
pub sweeps_more : (h after : HeapState) (words more : ℕ) → after.units ≡ h.units → after.phase ≡ h.phase → length after.roots ≡ length h.roots → words ≤ more → SweepsWithin h words h.phase → SweepsWithin after more after.phase
sweeps_more h after words more units phase roots l w = subst (SweepsWithin after more) (sym phase) (by_phase h.phase w)
  where
    by_phase : (q : Phase) → SweepsWithin h words q → SweepsWithin after more q
    by_phase phases.Idle w = tt
    by_phase (phases.Roots next) w = tt
    by_phase (phases.Marking part cell) w = tt
    by_phase (phases.Sweeping page block) w = omega (arith, w, units, roots, l)
    by_phase (phases.Moving m) w = tt

-- a heap of the same size has as many root cells
pub same_roots : (h after : HeapState) → cycle_limit after ≡ cycle_limit h → settings_of after ≡ settings_of h → length after.roots ≡ length h.roots
same_roots h after limit same =
    let s = same_swept h after limit same in
    let pages : length after.store.pages ≡ length h.store.pages = ap (λ (z : HeapSettings). z.pages) same in
    omega (arith, s, pages)

-- when a sweep ends, nothing is swept any more
after_within : (h : HeapState) (words : ℕ) (b : Bool) → SweepsWithin h words (if b then phases.Moving (moves.Pass 0 0 None 0) else phases.Idle)
after_within h words true = tt
after_within h words false = tt

-- Through actions, if marking spends no more than this limit.
module _ (present snapshot : Graph) (words : ℕ) (marks : (j : HeapState) → Represents j present snapshot → IsTidy j.store present.objects → (part cell : ℕ) → j.phase ≡ phases.Marking part cell → marking_work j ≤ words) where
  sweeps_action : (h after : HeapState) (cost : ℕ) → Represents h present snapshot → IsTidy h.store present.objects → SweepsWithin h words h.phase → Action h cost after → SweepsWithin after words after.phase
  sweeps_action h after cost r tidy w (Scans_root next k e l sh) = tt
  sweeps_action h after cost r tidy w (Ends_roots next e l) = tt
  sweeps_action h after cost r tidy w (Scans_header part cell x front back e f n) = tt
  sweeps_action h after cost r tidy w (Scans_cell part cell new k e l w0 sh) = tt
  sweeps_action h after cost r tidy w (Ends_marking part cell e f n) =
      let v = subst (λ z. IsWithin h z) e r.within in
      let m = marks h r tidy part cell e in
      let a = v.0 in
      omega (arith, a, m)
  sweeps_action h after cost r tidy w (Frees_block page block q new e f was unmarked w0 pages) = let v = subst (λ z. SweepsWithin h words z) e w in omega (arith, v)
  sweeps_action h after cost r tidy w (Passes_block page block q e f l marked) = let v = subst (λ z. SweepsWithin h words z) e w in omega (arith, v)
  sweeps_action h after cost r tidy w (Closes_page page block new e l f w0 pages) =
      let v = subst (λ z. SweepsWithin h words z) e w in
      let i = subst (λ z. IsWithin h z) e r.within in
      let b = i.1 in
      omega (arith, v, b)
  sweeps_action h after cost r tidy w (Ends_sweep page block e l) = after_within (goes_to h 1 (after_sweep h)) words (is_sparse h)
  sweeps_action h after cost r tidy w (Looks_at_page class page best chosen at few more) = tt
  sweeps_action h after cost r tidy w (Chooses_page class page best chosen b q new at few last is good there w0 pages) = tt
  sweeps_action h after cost r tidy w (Chooses_none class page best chosen at few last is) = tt
  sweeps_action h after cost r tidy w (Moves_block class page block chosen i to j q p new e at evacuating next place there empty w0 pages) = tt
  sweeps_action h after cost r tidy w (Ends_moving done) = tt

  pub sweeps_chain : (h after : HeapState) (spent : ℕ) → Represents h present snapshot → IsTidy h.store present.objects → SweepsWithin h words h.phase → Chain h spent after → SweepsWithin after words after.phase × IsTidy after.store present.objects
  sweeps_chain h after spent r tidy w Nothing_done = (w, tidy)
  sweeps_chain h after spent r tidy w (Then u cost j k linked chain links action) =
      let x = sweeps_chain h j u r tidy w chain in
      let i : HeapState = record j { store = linked } in
      let ri = represents_relinked j linked links present snapshot (represents_chain h j u present snapshot r chain) in
      let ti = tidy_same j.store linked present.objects (shrinks_keeps j.store linked links.blocks) links.pages x.1 in
      (sweeps_action i k cost ri ti (relinked j linked j.phase x.0) action, tidy_action i k cost present snapshot present.objects ri action ti)
    where
      relinked : (j : HeapState) (linked : Store) (q : Phase) → SweepsWithin j words q → SweepsWithin (record j { store = linked }) words q
      relinked j linked phases.Idle w = tt
      relinked j linked (phases.Roots next) w = tt
      relinked j linked (phases.Marking part cell) w = tt
      relinked j linked (phases.Sweeping page block) w = w
      relinked j linked (phases.Moving m) w = tt

  -- so up to the sweep's end no more is spent
  pub swept_few : (h : HeapState) → Represents h present snapshot → IsTidy h.store present.objects → SweepsWithin h words h.phase → awaits_sweep_end h.phase ≡ true → h.units ≤ sweep_units (length h.roots) (length h.store.pages) words
  swept_few h r tidy w on = by_phase h.phase refl r.within w on
    where
      by_phase : (q : Phase) → h.phase ≡ q → IsWithin h q → SweepsWithin h words q → awaits_sweep_end q ≡ true → h.units ≤ sweep_units (length h.roots) (length h.store.pages) words
      by_phase phases.Idle e v s on = absurd (cc)
      by_phase (phases.Roots next) e v s on = let a = v.0 in let b = v.1 in omega (arith, a, b)
      by_phase (phases.Marking part cell) e v s on = let a = v.0 in let m = marks h r tidy part cell e in omega (arith, a, m)
      by_phase (phases.Sweeping page block) e v s on =
          let b = v.1 in
          let d = v.2 in
          omega (arith, s, b, d)
      by_phase (phases.Moving m) e v s on = absurd (cc)
