-- The pages of a heap stay within their bound through each action.
use Rattle.std.proofs.Common.{◌≡◌, ℕ, zero, suc, ◌+◌, ◌<◌, ◌≤◌, inl, inr, length, Bool, true, false, ◌==◌, if◌then◌else◌, nat_lt, List, [], ◌∷◌, Option, Some, None, ap, ◌∙◌, sym, subst, arith, refl}
use Rattle.std.proofs.lemmas.List.Sums.{sum_by-cons}
use Rattle.heap_model.specs.declared.phase.Phase.{Phase}
use Rattle.heap_model.specs.declared.phase.Phase.TheVariants as phases
use Rattle.heap_model.specs.declared.phase.Moving.TheVariants as moves
use Rattle.heap_model.specs.declared.phase.Candidate.{Candidate}
use Rattle.size_classes.specs.declared.class.TheConstants.{CLASSES}
use Rattle.heap_model.specs.Pages.{Page, ArePages, page_at, with_allocated, free_pages}
use Rattle.heap_model.specs.State.{HeapState, is_evacuating}
use Rattle.heap_model.specs.Marks.{HasNoMark, AreClosed}
use Rattle.heap_model.specs.Action.{Shades, Was_marked, Is_marked, Action, Scans_root, Ends_roots, Scans_header, Scans_cell, Ends_marking, Frees_block, Passes_block, Closes_page, Ends_sweep, Looks_at_page, Chooses_page, Chooses_none, Moves_block, Ends_moving, AtPass, In_pass, After_page, allocated_on, closed, is_sparse}
use Rattle.heap_model.proofs.Store.Allocated.{page_within}
use Rattle.heap_model.proofs.Marks.{no_mark, action_count}
use Rattle.space.specs.Space.{class_sum, class_pages, pages_for, spare_of}
use Rattle.space.specs.Counts.{is_of, used_pages, evacuating_pages, IsBounded}
use Rattle.space.specs.Placement.{MayEvacuate, MaySpare, HasBoundedPages}
use Rattle.space.proofs.Counts.{one_if, all_pages, used_set, evacuating_set, both_true}

few_evacuating : (spare most evacuating : ℕ) (p : Phase) → MayEvacuate spare most evacuating p → evacuating ≤ spare
few_evacuating spare most evacuating phases.Idle l = l
few_evacuating spare most evacuating (phases.Roots next) l = l
few_evacuating spare most evacuating (phases.Marking part cell) l = l
few_evacuating spare most evacuating (phases.Sweeping page block) l = l
few_evacuating spare most evacuating (phases.Moving (moves.Pass class page best chosen)) l = let a = l.0 in let b = l.1 in omega arith
few_evacuating spare most evacuating (phases.Moving (moves.Emptying class page block chosen)) l = let a = l.0 in let b = l.1 in omega arith

pub bounded_pages : (h : HeapState) (blocks : ℕ → ℕ) (spare : ℕ) → HasBoundedPages h blocks spare → IsBounded h.store.pages blocks spare
bounded_pages h blocks spare w = record { used = w.used; evacuating = few_evacuating spare h.defrag_pages (evacuating_pages h.store.pages) h.phase w.evacuating }

-- the settings stay
pub record KeepsSettings (h k : HeapState) : Type 0 where
  pub most : k.defrag_pages ≡ h.defrag_pages
  pub below : k.defrag_below ≡ h.defrag_below

pub same_spare : (h k : HeapState) → KeepsSettings h k → spare_of k ≡ spare_of h
same_spare h k e = ap (λ z. if z == 0 then 0 else k.defrag_pages) e.below ∙ ap (λ z. if h.defrag_below == 0 then 0 else z) e.most

pub may_spare : (h k : HeapState) (blocks : ℕ → ℕ) (spare : ℕ) → KeepsSettings h k → length k.store.pages ≡ length h.store.pages → MaySpare h blocks spare → MaySpare k blocks spare
may_spare h k blocks spare e n (inl s) = inl (same_spare h k e ∙ s)
may_spare h k blocks spare e n (inr s) = inr (s.0, (let a = s.1 in let b = e.below in omega (arith, a, b, n)))

-- the pages of all classes are within what their blocks take
used_within : (pages : List (Option Page)) (blocks : ℕ → ℕ) (n : ℕ) → ((class : ℕ) → class < n → used_pages pages class ≤ class_pages 0 class (blocks class)) → class_sum (used_pages pages) n ≤ pages_for blocks 0 n
used_within pages blocks zero u = omega arith
used_within pages blocks (suc n) u = let r = used_within pages blocks n (λ k l. u k (omega arith)) in let h = u n (omega arith) in omega (arith, r, h)

-- fewer pages of each class
pub bounded_less : (h k : HeapState) (blocks : ℕ → ℕ) (spare : ℕ) → HasBoundedPages h blocks spare → KeepsSettings h k → length k.store.pages ≡ length h.store.pages → ((class : ℕ) → used_pages k.store.pages class ≤ used_pages h.store.pages class)
    → MayEvacuate spare h.defrag_pages (evacuating_pages k.store.pages) k.phase → HasBoundedPages k blocks spare
bounded_less h k blocks spare w e n less may = record {
  used = λ class l. (let u = less class in let q = w.used class l in omega (arith, u, q));
  evacuating = subst (λ z. MayEvacuate spare z (evacuating_pages k.store.pages) k.phase) (sym e.most) may;
  same = may_spare h k blocks spare e n w.same;
}

-- the same pages
pub bounded_same : (h k : HeapState) (blocks : ℕ → ℕ) (spare : ℕ) → HasBoundedPages h blocks spare → KeepsSettings h k → k.store.pages ≡ h.store.pages → MayEvacuate spare h.defrag_pages (evacuating_pages h.store.pages) k.phase → HasBoundedPages k blocks spare
bounded_same h k blocks spare w e same may =
    bounded_less h k blocks spare w e (ap length same) (λ class. (let u : used_pages k.store.pages class ≡ used_pages h.store.pages class = ap (λ z. used_pages z class) same in omega (arith, u)))
    (subst (λ z. MayEvacuate spare h.defrag_pages (evacuating_pages z) k.phase) (sym same) may)

pub shades_same : (h k : HeapState) (x : ℕ) → Shades h x k → KeepsSettings h k × (k.store.pages ≡ h.store.pages)
shades_same h k x (Was_marked e) = (record { most = refl; below = refl }, refl)
shades_same h k x (Is_marked new front back is e w) = (record { most = refl; below = refl }, w.pages)

pub none_evacuating : (pages : List (Option Page)) → ((k : ℕ) → HasNoMark (page_at pages k)) → evacuating_pages pages ≡ 0
none_evacuating [] n = refl
none_evacuating (o ∷ os) n =
    let r = none_evacuating os (λ k. n (suc k)) in
    let h : one_if (is_evacuating o) ≡ 0 = ap one_if (n 0).evacuating in
    let a = sum_by-cons (λ z. one_if (is_evacuating z)) o os in omega (arith, r, h, a)

kept : (h : HeapState) → KeepsSettings h h
kept h = record { most = refl; below = refl }

closed_less : (class : ℕ) (o : Option Page) → (one_if (is_of class (closed o)) ≤ one_if (is_of class o)) × (one_if (is_evacuating (closed o)) ≡ 0)
closed_less class None = (omega arith, refl)
closed_less class (Some p) = by_allocated (allocated_on (Some p) == 0)
  where
    by_allocated : (b : Bool) → (one_if (is_of class (if b then None else Some (record p { evacuating = false; is_target = false }))) ≤ one_if (is_of class (Some p))) × (one_if (is_evacuating (if b then None else Some (record p { evacuating = false; is_target = false }))) ≡ 0)
    by_allocated true = (omega arith, refl)
    by_allocated false = (omega arith, refl)

-- at a look of a pass
at_pass : (h : HeapState) (blocks : ℕ → ℕ) (spare class page : ℕ) (best : Option Candidate) (chosen : ℕ) → HasBoundedPages h blocks spare → AtPass h class page best chosen
    → (evacuating_pages h.store.pages ≤ chosen) × (chosen < spare) × (spare ≡ h.defrag_pages)
at_pass h blocks spare class page best chosen w (In_pass class0 page0 best0 chosen0 e) = subst (MayEvacuate spare h.defrag_pages (evacuating_pages h.store.pages)) e w.evacuating
at_pass h blocks spare class page best chosen w (After_page class0 page0 block chosen0 p e at on done few) =
    let m : (evacuating_pages h.store.pages ≤ chosen) × (chosen ≤ spare) × (spare ≡ h.defrag_pages) = subst (MayEvacuate spare h.defrag_pages (evacuating_pages h.store.pages)) e w.evacuating in
    let s = m.2 in (m.0, omega arith, m.2)

pub bounded_action : (h after : HeapState) (cost : ℕ) (blocks : ℕ → ℕ) (spare : ℕ) → ArePages h.store.pages → AreClosed h.store.pages h.phase → HasBoundedPages h blocks spare → Action h cost after → HasBoundedPages after blocks spare
bounded_action h after cost blocks spare ap_ c w (Scans_root next k e l sh) =
    let s = shades_same _ k _ sh in bounded_same h _ blocks spare w (record { most = s.0.most; below = s.0.below }) s.1 (few_evacuating spare h.defrag_pages _ h.phase w.evacuating)
bounded_action h after cost blocks spare ap_ c w (Ends_roots next e l) = bounded_same h _ blocks spare w (record { most = refl; below = refl }) refl (few_evacuating spare h.defrag_pages _ h.phase w.evacuating)
bounded_action h after cost blocks spare ap_ c w (Scans_header part cell x front back e f n) = bounded_same h _ blocks spare w (record { most = refl; below = refl }) refl (few_evacuating spare h.defrag_pages _ h.phase w.evacuating)
bounded_action h after cost blocks spare ap_ c w (Scans_cell part cell new k e l w0 sh) =
    let s = shades_same _ k _ sh in bounded_same h _ blocks spare w (record { most = s.0.most; below = s.0.below }) (s.1 ∙ w0.pages) (few_evacuating spare h.defrag_pages _ h.phase w.evacuating)
bounded_action h after cost blocks spare ap_ c w (Ends_marking part cell e f n) = bounded_same h _ blocks spare w (record { most = refl; below = refl }) refl (few_evacuating spare h.defrag_pages _ h.phase w.evacuating)
bounded_action h after cost blocks spare ap_ c w (Frees_block page block p new e f was unmarked w0 pages) =
    let l = page_within h.store.pages page p f in
    let v : Option Page = Some (with_allocated p block false) in
    let m = few_evacuating spare h.defrag_pages _ h.phase w.evacuating in
    bounded_less h _ blocks spare w (record { most = refl; below = refl }) (action_count h after cost (Frees_block page block p new e f was unmarked w0 pages))
    (λ class. (let u = used_set h.store.pages new.pages page (Some p) v l f pages class in omega (arith, u)))
    (let u = evacuating_set h.store.pages new.pages page (Some p) v l f pages in omega (arith, u, m))
bounded_action h after cost blocks spare ap_ c w (Passes_block page block p e f l marked) = bounded_same h _ blocks spare w (record { most = refl; below = refl }) refl (few_evacuating spare h.defrag_pages _ h.phase w.evacuating)
bounded_action h after cost blocks spare ap_ c w (Closes_page page block new e l f w0 pages) =
    let o = page_at h.store.pages page in
    let m = few_evacuating spare h.defrag_pages _ h.phase w.evacuating in
    bounded_less h _ blocks spare w (record { most = refl; below = refl }) (action_count h after cost (Closes_page page block new e l f w0 pages))
    (λ class. (let u = used_set h.store.pages new.pages page o (closed o) l refl pages class in let d = (closed_less class o).0 in omega (arith, u, d)))
    (let u = evacuating_set h.store.pages new.pages page o (closed o) l refl pages in let d = (closed_less 0 o).1 in omega (arith, u, d, m))
bounded_action h after cost blocks spare ap_ c w (Ends_sweep page block e l) =
    let none = none_evacuating h.store.pages (no_mark h.store.pages page (subst (AreClosed h.store.pages) e c) l) in
    bounded_same h _ blocks spare w (record { most = refl; below = refl }) refl (by_sparse none (is_sparse h) refl)
  where
    chosen_none : spare_of h ≡ spare → (h.defrag_below == 0) ≡ false → spare ≡ h.defrag_pages
    chosen_none s n = sym s ∙ ap (λ z. if z then 0 else h.defrag_pages) n

    few : spare ≡ 0 → pages_for blocks 0 CLASSES + h.defrag_below ≤ length h.store.pages → free_pages h.store.pages < h.defrag_below → ⊥
    few z enough below =
        let u = used_within h.store.pages blocks CLASSES (λ k s. subst (λ y. used_pages h.store.pages k ≤ class_pages y k (blocks k)) z (w.used k s)) in
        let a = all_pages h.store.pages ap_ in omega (arith, u, a, enough, below)

    by_sparse : evacuating_pages h.store.pages ≡ 0 → (b : Bool) → is_sparse h ≡ b → MayEvacuate spare h.defrag_pages (evacuating_pages h.store.pages) (if b then phases.Moving (moves.Pass 0 0 None 0) else phases.Idle)
    by_sparse none true s =
        let q = both_true (nat_lt 0 h.defrag_pages) (nat_lt (free_pages h.store.pages) h.defrag_below) s in
        let some : 0 < h.defrag_pages = (let a = q.0 in grind arith) in
        let low : free_pages h.store.pages < h.defrag_below = (let a = q.1 in grind arith) in
        let n : (h.defrag_below == 0) ≡ false = grind arith in
        elim w.same [
          | inl e ↦ (let same = chosen_none e n in (omega (arith, none), omega (arith, same, some), same))
          | inr e ↦ absurd (few e.0 e.1 low)
        ]
    by_sparse none false s = omega (arith, none)
bounded_action h after cost blocks spare ap_ c w (Looks_at_page class page best chosen at few more) = bounded_same h _ blocks spare w (record { most = refl; below = refl }) refl (at_pass h blocks spare class page best chosen w at)
bounded_action h after cost blocks spare ap_ c w (Chooses_page class page best chosen k p new at few last is good there w0 pages) =
    let l = page_within h.store.pages k.page p there in
    let v : Option Page = Some (record p { evacuating = true }) in
    let m = at_pass h blocks spare class page best chosen w at in
    let b = m.0 in
    bounded_less h _ blocks spare w (record { most = refl; below = refl }) (action_count h after cost (Chooses_page class page best chosen k p new at few last is good there w0 pages))
    (λ class. (let u = used_set h.store.pages new.pages k.page (Some p) v l there pages class in omega (arith, u)))
    ((let u = evacuating_set h.store.pages new.pages k.page (Some p) v l there pages in omega (arith, u, b)), (let b = m.1 in omega (arith, b)), m.2)
bounded_action h after cost blocks spare ap_ c w (Chooses_none class page best chosen at few last is) = bounded_same h _ blocks spare w (record { most = refl; below = refl }) refl (at_pass h blocks spare class page best chosen w at)
bounded_action h after cost blocks spare ap_ c w (Moves_block class page block chosen i to j p q new e at evacuating next place there empty w0 pages) =
    let l = page_within h.store.pages to q there in
    let v : Option Page = Some (record (with_allocated q j true) { is_target = true }) in
    let m : MayEvacuate spare h.defrag_pages (evacuating_pages h.store.pages) (phases.Moving (moves.Emptying class page block chosen)) = subst (MayEvacuate spare h.defrag_pages (evacuating_pages h.store.pages)) e w.evacuating in
    let b = m.0 in
    bounded_less h _ blocks spare w (record { most = refl; below = refl }) (action_count h after cost (Moves_block class page block chosen i to j p q new e at evacuating next place there empty w0 pages))
    (λ class. (let u = used_set h.store.pages new.pages to (Some q) v l there pages class in omega (arith, u)))
    ((let u = evacuating_set h.store.pages new.pages to (Some q) v l there pages in omega (arith, u, b)), m.1, m.2)
bounded_action h after cost blocks spare ap_ c w (Ends_moving done) = bounded_same h _ blocks spare w (record { most = refl; below = refl }) refl (few_evacuating spare h.defrag_pages _ h.phase w.evacuating)
