-- How many pages a class has since a sweep ended, through actions and blocks that are taken.
use Rattle.std.proofs.Common.{◌≡◌, ℕ, zero, suc, ◌+◌, ◌*◌, ◌<◌, ◌≤◌, inl, inr, Bool, true, false, not, ◌&&◌, cond, ◌==◌, if◌then◌else◌, List, [], ◌∷◌, Option, Some, None, length, set, drop, get_or, ap, ◌∙◌, sym, subst, arith, refl}
use Rattle.std.specs.Prelude.{count_by}
use Rattle.std.proofs.lemmas.Bool.{eq-eqb, ne_eqb}
use Rattle.std.proofs.lemmas.List.Sums.{sum_by-cons}
use Rattle.std.proofs.lemmas.List.Quantifiers.{position-Some}
use Rattle.std.proofs.lemmas.Option.{slice_get_within, get_or_from_slice_get, same_Some}
use Rattle.std.proofs.Math.Nat.{mul-le-mul_left}
use Rattle.size_classes.specs.declared.class.TheConstants.{CLASSES}
use Rattle.size_classes.specs.Sizes.{blocks_in}
use Rattle.heap_model.specs.declared.phase.Phase.{Phase}
use Rattle.heap_model.specs.declared.phase.Phase.TheVariants as phases
use Rattle.heap_model.specs.declared.phase.Moving.{Moving}
use Rattle.heap_model.specs.declared.phase.Moving.TheVariants as moves
use Rattle.heap_model.specs.declared.phase.Candidate.{Candidate}
use Rattle.heap_model.specs.Pages.{Page, IsPage, ArePages, IsOpen, is_usable, with_allocated, page_at, free_on, free_blocks}
use Rattle.heap_model.specs.State.{HeapState}
use Rattle.heap_model.specs.Represents.{is_sweeping}
use Rattle.heap_model.specs.Action.{IsNext, Action, Scans_root, Ends_roots, Scans_header, Scans_cell, Ends_marking, Frees_block, Passes_block, Closes_page, Ends_sweep, Looks_at_page, Chooses_page, Chooses_none, Moves_block, Ends_moving, AtPass, In_pass, After_page, MovingDone, No_class, No_page, allocated_on, closed, is_sparse, is_choosable}
use Rattle.heap_model.proofs.Store.Allocated.{set_page, set_page_here, page_within}
use Rattle.heap_model.proofs.Rooms.{set_sum}
use Rattle.heap_model.proofs.Action.Moving.{same_number, usable_fits}
use Rattle.heap_model.specs.Phases.{awaits_sweep_end}
use Rattle.space.specs.Counts.{is_of, used_pages}
use Rattle.space.proofs.Counts.{one_if, used_set, both_true, flags_all}
use Rattle.space.proofs.Space.{shades_same}
use Rattle.fragmentation.specs.Tight.{IsTight}
use Rattle.fragmentation.proofs.Tight.IsFew.{allocated_from, to_move, IsFew}
use Rattle.fragmentation.proofs.Tight.Free.{free_change, evacuating_free, Choosable, choosable_is, choosable_all, chosen_free}
use Rattle.fragmentation.proofs.Tight.Taken.{free_less}
use Rattle.fragmentation.proofs.Gathering.Steps.{tight_action}

-- the next allocated flag is one of those from a place on
next_flag : (flags : List Bool) (block i : ℕ) → block ≤ i → get_or flags i false ≡ true → ((k : ℕ) → block ≤ k → k < i → get_or flags k false ≡ false) → count_by (λ b. b) (drop block flags) ≡ count_by (λ b. b) (drop (suc i) flags) + 1
next_flag [] block i l at first = absurd (cc)
next_flag (f ∷ fs) zero zero l at first = let a = sum_by-cons (λ b. one_if b) f fs in let o : one_if f ≡ 1 = ap one_if at in omega (arith, a, o)
next_flag (f ∷ fs) zero (suc j) l at first =
    let r = next_flag fs zero j (omega arith) at (λ k x y. first (suc k) (omega arith) (omega (arith, y))) in
    let a = sum_by-cons (λ b. one_if b) f fs in
    let o : one_if f ≡ 0 = ap one_if (first 0 (omega arith) (omega arith)) in
    omega (arith, a, o, r)
next_flag (f ∷ fs) (suc b) zero l at first = absurd (omega (arith, l))
next_flag (f ∷ fs) (suc b) (suc j) l at first = next_flag fs b j (omega (arith, l)) at (λ k x y. first (suc k) (omega (arith, x)) (omega (arith, y)))

next_fewer : (p : Page) (block i : ℕ) → IsNext p block i → count_by (λ b. b) (drop block p.allocated) ≡ count_by (λ b. b) (drop (i + 1) p.allocated) + 1
next_fewer p block i n =
    let e : suc i ≡ i + 1 = omega arith in
    next_flag p.allocated block i n.from (get_or_from_slice_get p.allocated i true false n.allocated) (λ k x y. get_or_from_slice_get p.allocated k false false (n.first k x y)) ∙ ap (λ z. count_by (λ b. b) (drop z p.allocated) + 1) e

-- pages and phase that leave the numbers as they are, or make them no worse
few_less : (old new : List (Option Page)) (p q : Phase) (first made : ℕ → ℕ) → IsFew old p first made
    → ((class : ℕ) → class < CLASSES → used_pages new class ≤ used_pages old class)
    → ((class : ℕ) → class < CLASSES → blocks_in class * used_pages new class + to_move new class q + free_blocks old class ≤ blocks_in class * used_pages old class + to_move old class p + free_blocks new class)
    → (is_sweeping q ≡ false → (is_sweeping p ≡ false) × ((class : ℕ) → IsTight old class → IsTight new class)) → IsFew new q first made
few_less old new p q first made w used fair still = record {
  few = λ class l. (let a = w.few class l in let b = used class l in omega (arith, a, b));
  fair = λ class l. (let a = w.fair class l in let b = fair class l in omega (arith, a, b));
  still = λ e class l. (let s = still e in elim (w.still s.0 class l) [ inl t ↦ inl (s.1 class t) | inr u ↦ inr (let b = used class l in omega (arith, u, b)) ]);
}

few_same : (old new : List (Option Page)) (p q : Phase) (first made : ℕ → ℕ) → IsFew old p first made → new ≡ old → ((class : ℕ) → to_move new class q ≡ 0) → (is_sweeping q ≡ false → is_sweeping p ≡ false) → IsFew new q first made
few_same old new p q first made w e none still = few_less old new p q first made w
    (λ class l. (let u : used_pages new class ≡ used_pages old class = ap (λ z. used_pages z class) e in omega (arith, u)))
    (λ class l. (let u : blocks_in class * used_pages new class ≡ blocks_in class * used_pages old class = ap (λ z. blocks_in class * used_pages z class) e in let f : free_blocks new class ≡ free_blocks old class = ap (λ z. free_blocks z class) e in let z = none class in omega (arith, u, f, z)))
    (λ s. (still s, λ class t. subst (λ z. IsTight z class) (sym e) t))

-- A sweep ends.
pub few_starts : (pages : List (Option Page)) (p : Phase) → ((class : ℕ) → to_move pages class p ≡ 0) → IsFew pages p (used_pages pages) (λ class. 0)
few_starts pages p none = record {
  few = λ class l. omega arith;
  fair = λ class l. (let z = none class in omega (arith, z));
  still = λ e class l. inr (omega arith);
}

-- a page that is closed is used no more, or goes on with no fewer free blocks
closed_page : (k : ℕ) (o : Option Page) → ((p : Page) → o ≡ Some p → IsPage p) → (one_if (is_of k (closed o)) ≤ one_if (is_of k o)) × (blocks_in k * one_if (is_of k (closed o)) + free_on k o ≤ blocks_in k * one_if (is_of k o) + free_on k (closed o))
closed_page k None w = (omega arith, omega arith)
closed_page k (Some p) w = by_allocated (allocated_on (Some p) == 0)
  where
    at_most : free_on k (Some p) ≤ blocks_in k * one_if (p.class == k)
    at_most = by_class (p.class == k) refl
      where
        by_evacuating : (l : Bool) → p.class ≡ k → cond (true && not l) (count_by not p.allocated) 0 ≤ blocks_in k * 1
        by_evacuating true c = omega arith
        by_evacuating false c = let a = flags_all p.allocated in let m : length p.allocated ≡ blocks_in k = (w p refl).blocks ∙ ap blocks_in c in omega (arith, a, m)

        by_class : (b : Bool) → (p.class == k) ≡ b → cond (b && not p.evacuating) (count_by not p.allocated) 0 ≤ blocks_in k * one_if b
        by_class true e = by_evacuating p.evacuating (same_number p.class k e)
        by_class false e = omega arith

    more_free : free_on k (Some p) ≤ free_on k (Some (record p { evacuating = false; is_target = false }))
    more_free = by_tests (p.class == k) p.evacuating
      where
        by_tests : (b l : Bool) → cond (b && not l) (count_by not p.allocated) 0 ≤ cond (b && true) (count_by not p.allocated) 0
        by_tests true true = omega arith
        by_tests true false = omega arith
        by_tests false l = omega arith

    by_allocated : (b : Bool) → (one_if (is_of k (if b then None else Some (record p { evacuating = false; is_target = false }))) ≤ one_if (p.class == k))
        × (blocks_in k * one_if (is_of k (if b then None else Some (record p { evacuating = false; is_target = false }))) + free_on k (Some p) ≤ blocks_in k * one_if (p.class == k) + free_on k (if b then None else Some (record p { evacuating = false; is_target = false })))
    by_allocated true = (omega arith, omega (arith, at_most))
    by_allocated false = (omega arith, omega (arith, more_free))

close_counts : (old new : List (Option Page)) (page : ℕ) → page < length old → ArePages old → new ≡ set old page (closed (page_at old page)) → (k : ℕ)
    → (used_pages new k ≤ used_pages old k) × (blocks_in k * used_pages new k + free_blocks old k ≤ blocks_in k * used_pages old k + free_blocks new k)
close_counts old new page l w is k =
    let o = page_at old page in
    let q = closed_page k o (λ p e. w.each page p e) in
    let u = used_set old new page o (closed o) l refl is k in
    let f = free_change old new page o (closed o) l refl is k in
    let x = times (blocks_in k) (used_pages new k) (one_if (is_of k o)) in
    let y = times (blocks_in k) (used_pages old k) (one_if (is_of k (closed o))) in
    let e : blocks_in k * (used_pages new k + one_if (is_of k o)) ≡ blocks_in k * (used_pages old k + one_if (is_of k (closed o))) = ap (λ z. blocks_in k * z) u in
    (omega (arith, u, q.0), omega (arith, x, y, e, f, q.1))
  where
    times : (b x y : ℕ) → b * (x + y) ≡ b * x + b * y
    times b x y = omega arith

-- a page that is chosen: its class has as many free blocks as a page, so that no page was opened for it
chosen_few : (old new : List (Option Page)) (class page chosen : ℕ) (p : Page) (q : Phase) (first made : ℕ → ℕ) → ArePages old → page_at old page ≡ Some p → is_choosable class (Some p) ≡ true → blocks_in class ≤ free_blocks old class
    → new ≡ set old page (Some (record p { evacuating = true })) → is_sweeping q ≡ false → ((class : ℕ) → IsTight old class → IsTight new class) → IsFew old q first made → IsFew new (phases.Moving (moves.Emptying class page 0 chosen)) first made
chosen_few old new class page chosen p q first made pages at good free is off tight w = record {
  few = λ k l. (let u = used k in let a = w.few k l in omega (arith, u, a));
  fair = λ k l. by_class k l (class == k) refl;
  still = λ e k l. elim (w.still off k l) [ inl t ↦ inl (tight k t) | inr s ↦ inr (let u = used k in omega (arith, u, s)) ];
}
  where
    within : page < length old
    within = page_within old page p at

    c : Choosable class p
    c = choosable_is class p good

    used : (k : ℕ) → used_pages new k ≡ used_pages old k
    used k = let u = used_set old new page (Some p) (Some (record p { evacuating = true })) within at is k in omega (arith, u)

    now : page_at new page ≡ Some (record p { evacuating = true })
    now = ap (λ z. page_at z page) is ∙ set_page_here old page _ within

    Fair : ℕ → Type 0
    Fair k = blocks_in k * used_pages new k + to_move new k (phases.Moving (moves.Emptying class page 0 chosen)) ≤ blocks_in k * first k + made k + free_blocks new k

    by_class : (k : ℕ) → k < CLASSES → (b : Bool) → (class == k) ≡ b → Fair k
    by_class k l true e = subst Fair same own_class
      where
        same : class ≡ k
        same = same_number class k e

        own_class : Fair class
        own_class = elim (w.still off class (subst (λ z. z < CLASSES) (sym same) l)) [
          | inl t ↦ absurd (omega (arith, t, free))
          | inr s ↦ (
              let u = used class in
              let m = mul-le-mul_left (blocks_in class) s in
              let mu : blocks_in class * used_pages new class ≡ blocks_in class * used_pages old class = ap (λ z. blocks_in class * z) u in
              let f = free_change old new page (Some p) (Some (record p { evacuating = true })) within at is class in
              let z = evacuating_free p class in
              let all = choosable_all class p (pages.each page p at) good in
              let x : (p.class == class) ≡ true = ap (λ z. z == class) c.own ∙ eq-eqb class class refl in
              let r : to_move new class (phases.Moving (moves.Emptying class page 0 chosen)) ≡ allocated_on (Some p) = ap (allocated_from class 0) now ∙ ap (λ b. if b then count_by (λ b. b) p.allocated else 0) x in
              omega (arith, m, mu, f, z, all, r, free))
        ]
    by_class k l false e =
        let u = used k in
        let mu : blocks_in k * used_pages new k ≡ blocks_in k * used_pages old k = ap (λ z. blocks_in k * z) u in
        let f = free_change old new page (Some p) (Some (record p { evacuating = true })) within at is k in
        let z = evacuating_free p k in
        let x : (p.class == k) ≡ false = ap (λ z. z == k) c.own ∙ e in
        let none : free_on k (Some p) ≡ 0 = ap (λ b. cond (b && not p.evacuating) (count_by not p.allocated) 0) x in
        let r : to_move new k (phases.Moving (moves.Emptying class page 0 chosen)) ≡ 0 = ap (allocated_from k 0) now ∙ ap (λ b. if b then count_by (λ b. b) p.allocated else 0) x in
        let a = w.fair k l in
        omega (arith, mu, f, z, none, r, a)

-- one free block less on a page that can be used
pub one_less : (q : Page) (class j : ℕ) → is_usable class (Some q) ≡ true → IsOpen q j → free_on class (Some (with_allocated q j true)) + 1 ≡ free_on class (Some q)
one_less q class j u o =
    let fit = usable_fits class q u in
    let t : ((q.class == class) && not q.evacuating) ≡ true = grind (arith, fit.0, fit.1) in
    let a : free_on class (Some (with_allocated q j true)) ≡ count_by not (set q.allocated j true) = ap (λ b. cond b (count_by not (set q.allocated j true)) 0) t in
    let b : free_on class (Some q) ≡ count_by not q.allocated = ap (λ b. cond b (count_by not q.allocated) 0) t in
    let f = free_less q.allocated j o in
    omega (arith, a, b, f)

pub none_less : (q : Page) (class k j : ℕ) → q.class ≡ class → (class == k) ≡ false → (free_on k (Some (with_allocated q j true)) ≡ 0) × (free_on k (Some q) ≡ 0)
none_less q class k j c e =
    let x : (q.class == k) ≡ false = ap (λ z. z == k) c ∙ e in
    (ap (λ b. cond (b && not q.evacuating) (count_by not (set q.allocated j true)) 0) x, ap (λ b. cond (b && not q.evacuating) (count_by not q.allocated) 0) x)

-- a block that is moved
moved_few : (old new : List (Option Page)) (class page block chosen i to j : ℕ) (p q : Page) (first made : ℕ → ℕ) → page_at old page ≡ Some p → p.evacuating ≡ true → IsNext p block i
    → is_usable p.class (Some q) ≡ true → page_at old to ≡ Some q → IsOpen q j → new ≡ set old to (Some (record (with_allocated q j true) { is_target = true })) → ((class : ℕ) → IsTight old class → IsTight new class)
    → IsFew old (phases.Moving (moves.Emptying class page block chosen)) first made → IsFew new (phases.Moving (moves.Emptying class page (i + 1) chosen)) first made
moved_few old new class page block chosen i to j p q first made at evacuating next usable there spare is tight w =
    few_less old new _ _ first made w (λ k l. (let u = used k in omega (arith, u))) (λ k l. by_class k (p.class == k) refl) (λ e. (e, tight))
  where
    within : to < length old
    within = page_within old to q there

    fit : (q.class ≡ p.class) × (q.evacuating ≡ false)
    fit = usable_fits p.class q usable

    used : (k : ℕ) → used_pages new k ≡ used_pages old k
    used k = let u = used_set old new to (Some q) (Some (record (with_allocated q j true) { is_target = true })) within there is k in omega (arith, u)

    apart : (page == to) ≡ false
    apart = ne_eqb page to (λ e. (let z : p ≡ q = same_Some p q (sym at ∙ ap (page_at old) e ∙ there) in let y : true ≡ false = sym evacuating ∙ ap (λ (z : Page). z.evacuating) z ∙ fit.1 in cc))

    now : page_at new page ≡ Some p
    now = ap (λ z. page_at z page) is ∙ set_page old to page _ within ∙ ap (λ b. if b then Some (record (with_allocated q j true) { is_target = true }) else page_at old page) apart ∙ at

    by_class : (k : ℕ) (b : Bool) → (p.class == k) ≡ b
        → blocks_in k * used_pages new k + to_move new k (phases.Moving (moves.Emptying class page (i + 1) chosen)) + free_blocks old k ≤ blocks_in k * used_pages old k + to_move old k (phases.Moving (moves.Emptying class page block chosen)) + free_blocks new k
    by_class k true e =
        let mu : blocks_in k * used_pages new k ≡ blocks_in k * used_pages old k = ap (λ z. blocks_in k * z) (used k) in
        let f = free_change old new to (Some q) (Some (record (with_allocated q j true) { is_target = true })) within there is k in
        let same = same_number p.class k e in
        let one : free_on k (Some (with_allocated q j true)) + 1 ≡ free_on k (Some q) = one_less q k j (subst (λ z. is_usable z (Some q) ≡ true) same usable) spare in
        let a : to_move old k (phases.Moving (moves.Emptying class page block chosen)) ≡ count_by (λ b. b) (drop block p.allocated) = ap (allocated_from k block) at ∙ ap (λ b. if b then count_by (λ b. b) (drop block p.allocated) else 0) e in
        let b : to_move new k (phases.Moving (moves.Emptying class page (i + 1) chosen)) ≡ count_by (λ b. b) (drop (i + 1) p.allocated) = ap (allocated_from k (i + 1)) now ∙ ap (λ b. if b then count_by (λ b. b) (drop (i + 1) p.allocated) else 0) e in
        let n = next_fewer p block i next in
        omega (arith, mu, f, one, a, b, n)
    by_class k false e =
        let mu : blocks_in k * used_pages new k ≡ blocks_in k * used_pages old k = ap (λ z. blocks_in k * z) (used k) in
        let f = free_change old new to (Some q) (Some (record (with_allocated q j true) { is_target = true })) within there is k in
        let none = none_less q p.class k j fit.0 e in
        let a : to_move old k (phases.Moving (moves.Emptying class page block chosen)) ≡ 0 = ap (allocated_from k block) at ∙ ap (λ b. if b then count_by (λ b. b) (drop block p.allocated) else 0) e in
        let b : to_move new k (phases.Moving (moves.Emptying class page (i + 1) chosen)) ≡ 0 = ap (allocated_from k (i + 1)) now ∙ ap (λ b. if b then count_by (λ b. b) (drop (i + 1) p.allocated) else 0) e in
        omega (arith, mu, f, none.0, none.1, a, b)

-- When a pass looks at a page, and when moving ends, blocks are moved.
pub at_pass_moving : (h : HeapState) (class page : ℕ) (best : Option Candidate) (chosen : ℕ) → AtPass h class page best chosen → (m : Moving) × (h.phase ≡ phases.Moving m)
at_pass_moving h class page best chosen (In_pass class0 page0 best0 chosen0 e) = (_, e)
at_pass_moving h class page best chosen (After_page class0 page0 block chosen0 p e at on done few) = (_, e)

pub done_moving : (h : HeapState) → MovingDone h → (m : Moving) × (h.phase ≡ phases.Moving m)
done_moving h (No_class page best chosen e) = (_, e)
done_moving h (No_page class page block chosen p e at done l) = (_, e)

pub moving_not : (h : HeapState) (class page : ℕ) (best : Option Candidate) (chosen : ℕ) → AtPass h class page best chosen → is_sweeping h.phase ≡ false
moving_not h class page best chosen at = ap is_sweeping (at_pass_moving h class page best chosen at).1

-- out of a sweep moving begins, or the cycle ends
pub sweep_ended : (b : Bool) → awaits_sweep_end (if b then phases.Moving (moves.Pass 0 0 None 0) else phases.Idle) ≡ false
sweep_ended true = refl
sweep_ended false = refl

-- a test isn't both
pub not_both : (b : Bool) → b ≡ true → b ≡ false → ⊥
not_both b p q = cc

-- Each action, except the one that ends a sweep, keeps the pages few.
pub few_action : (h after : HeapState) (cost : ℕ) (first made : ℕ → ℕ) → ArePages h.store.pages → awaits_sweep_end after.phase ≡ awaits_sweep_end h.phase → Action h cost after → IsFew h.store.pages h.phase first made → IsFew after.store.pages after.phase first made
few_action h after cost first made a same (Scans_root next k e l sh) w = few_same _ _ _ _ first made w (shades_same _ k _ sh).1 (λ class. refl) (λ s. ap is_sweeping e)
few_action h after cost first made a same (Ends_roots next e l) w = few_same _ _ _ _ first made w refl (λ class. refl) (λ s. ap is_sweeping e)
few_action h after cost first made a same (Scans_header part cell x front back e f n) w = few_same _ _ _ _ first made w refl (λ class. refl) (λ s. ap is_sweeping e)
few_action h after cost first made a same (Scans_cell part cell new k e l w0 sh) w = few_same _ _ _ _ first made w ((shades_same _ k _ sh).1 ∙ w0.pages) (λ class. refl) (λ s. ap is_sweeping e)
few_action h after cost first made a same (Ends_marking part cell e f n) w = few_same _ _ _ _ first made w refl (λ class. refl) (λ s. absurd (cc))
few_action h after cost first made a same (Frees_block page block p new e f was unmarked w0 pages) w =
    let l = page_within h.store.pages page p f in
    few_less h.store.pages new.pages h.phase _ first made w
    (λ k b. (let u = used_set h.store.pages new.pages page (Some p) (Some (with_allocated p block false)) l f pages k in omega (arith, u)))
    (λ k b. (let u = used_set h.store.pages new.pages page (Some p) (Some (with_allocated p block false)) l f pages k in
    let uu : used_pages new.pages k ≡ used_pages h.store.pages k = omega (arith, u) in
    let mu : blocks_in k * used_pages new.pages k ≡ blocks_in k * used_pages h.store.pages k = ap (λ z. blocks_in k * z) uu in
    let v = free_change h.store.pages new.pages page (Some p) (Some (with_allocated p block false)) l f pages k in
    let m = more k in omega (arith, mu, v, m)))
    (λ s. absurd (cc))
  where
    flags : count_by not p.allocated ≤ count_by not (set p.allocated block false)
    flags = let z = set_sum (λ b. one_if (not b)) p.allocated block true false false (slice_get_within p.allocated block true was) (get_or_from_slice_get p.allocated block true false was) in omega (arith, z)

    more : (k : ℕ) → free_on k (Some p) ≤ free_on k (Some (with_allocated p block false))
    more k = by_test ((p.class == k) && not p.evacuating)
      where
        by_test : (b : Bool) → cond b (count_by not p.allocated) 0 ≤ cond b (count_by not (set p.allocated block false)) 0
        by_test true = flags
        by_test false = omega arith
few_action h after cost first made a same (Passes_block page block p e f l marked) w = few_same _ _ _ _ first made w refl (λ class. refl) (λ s. absurd (cc))
few_action h after cost first made a same (Closes_page page block new e l f w0 pages) w =
    few_less h.store.pages new.pages h.phase _ first made w
    (λ k b. (close_counts h.store.pages new.pages page l a pages k).0)
    (λ k b. (let c = (close_counts h.store.pages new.pages page l a pages k).1 in omega (arith, c)))
    (λ s. absurd (cc))
few_action h after cost first made a same (Ends_sweep page block e l) w = absurd (not_both _ (same ∙ ap awaits_sweep_end e) (sweep_ended (is_sparse h)))
few_action h after cost first made a same (Looks_at_page class page best chosen at few more) w = few_same _ _ _ _ first made w refl (λ class. refl) (λ s. moving_not h class page best chosen at)
few_action h after cost first made a same (Chooses_page class page best chosen k p new at few last is good there w0 pages) w =
    let ok : is_choosable class (Some p) ≡ true = sym (ap (is_choosable class) there) ∙ (both_true _ _ good).0 in
    let off = moving_not h class page best chosen at in
    chosen_few h.store.pages new.pages class k.page (chosen + 1) p h.phase first made a there ok (chosen_free h.store.pages class k a good) pages off
    (λ c t. tight_action h _ 1 c a off (Chooses_page class page best chosen k p new at few last is good there w0 pages) t) w
few_action h after cost first made a same (Chooses_none class page best chosen at few last is) w = few_same _ _ _ _ first made w refl (λ class. refl) (λ s. moving_not h class page best chosen at)
few_action h after cost first made a same (Moves_block class page block chosen i to j p q new e at evacuating next place there empty w0 pages) w =
    let usable : is_usable p.class (Some q) ≡ true = ap (is_usable p.class) (sym there) ∙ (position-Some (is_usable p.class) h.store.pages to None place).1 in
    moved_few h.store.pages new.pages class page block chosen i to j p q first made at evacuating next usable there empty pages
    (λ c t. tight_action h _ _ c a (ap is_sweeping e) (Moves_block class page block chosen i to j p q new e at evacuating next place there empty w0 pages) t)
    (subst (λ z. IsFew h.store.pages z first made) e w)
few_action h after cost first made a same (Ends_moving done) w = few_same _ _ _ _ first made w refl (λ class. refl) (λ s. ap is_sweeping (done_moving h done).1)
