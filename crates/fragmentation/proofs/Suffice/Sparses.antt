-- No new object is refused in a run that keeps to a demand, with one page more for each class and the evacuating pages once.
use Rattle.std.proofs.Common.{◌≡◌, ℕ, zero, suc, ◌+◌, ◌-◌, ◌<◌, ◌≤◌, ◌⊎◌, inl, inr, Bool, true, false, ◌&&◌, ◌==◌, List, [], ◌∷◌, Option, Some, None, length, ap, ◌∙◌, sym, subst, arith, refl}
use Rattle.std.specs.Prelude.{sum_by}
use Rattle.std.proofs.lemmas.Bool.{le-leb, ne_eqb}
use Rattle.std.proofs.lemmas.List.Sums.{sum_by-cons, sum_by-le-sum_by}
use Rattle.std.proofs.Math.Bool.{and-true, and-false}
use Rattle.size_classes.specs.declared.class.TheConstants.{CLASSES}
use Rattle.size_classes.specs.Sizes.{blocks_in}
use Rattle.size_classes.proofs.Table.{blocks_some}
use Rattle.heap_model.specs.declared.phase.Phase.TheVariants as phases
use Rattle.heap_model.specs.Pages.{Page, ArePages, has_room, pages_needed, whole_pages, free_blocks, free_pages}
use Rattle.heap_model.specs.State.{HeapState, is_evacuating}
use Rattle.heap_model.specs.Opening.{IsOpening}
use Rattle.heap_model.specs.Event.{Course, Event, Runs}
use Rattle.heap_model.specs.ReachedFrom.{opened}
use Rattle.space.specs.Tally.{EveryNewFindsRoom}
use Rattle.space.specs.Space.{spare_of}
use Rattle.space.specs.Counts.{main_blocks, used_pages, evacuating_pages}
use Rattle.space.specs.Space.{class_sum}
use Rattle.space.proofs.Counts.{one_if, evacuating_on, own, used, zero_or, whole_within, class_sum_both, class_sum_same, class_sum_one, zeros, all_pages}
use Rattle.space.proofs.Space.{bounded_pages}
use Rattle.fragmentation.specs.Tight.{staying_pages}
use Rattle.fragmentation.specs.Gathering.{IsGathering}
use Rattle.fragmentation.specs.Season.{AllKeep, Lives, opening_season}
use Rattle.fragmentation.specs.Suffice.{sparse_pages, WithinBlocks, gathered_pages}
use Rattle.fragmentation.proofs.Suffice.IsSparse.{IsSparse}
use Rattle.fragmentation.proofs.Suffice.Paging.{whole_none, gathered_least, needed_sums}
use Rattle.fragmentation.proofs.Gathering.Steps.{gather_change}
use Rattle.fragmentation.proofs.Season.{opening_settled}
use Rattle.fragmentation.proofs.Suffice.Joints.{KeepsRoom, joint_runs}
use Rattle.fragmentation.proofs.Suffice.SparseChanges.{sparse_change, chain_sparse}
use Rattle.fragmentation.proofs.Tight.Leftover.{settled_used}
use Rattle.fragmentation.proofs.Suffice.Sparse.{sparse_phase, all_settled}

-- a number for each class and page, added up by class or by page
class_sums : (number : ℕ → Option Page → ℕ) (pages : List (Option Page)) (n : ℕ) → class_sum (λ k. sum_by (number k) pages) n ≡ sum_by (λ o. class_sum (λ k. number k o) n) pages
class_sums number [] n = zeros n
class_sums number (o ∷ os) n =
    class_sum_same _ (λ k. number k o + sum_by (number k) os) n (λ k. sum_by-cons (number k) o os) ∙ class_sum_both (λ k. number k o) (λ k. sum_by (number k) os) n ∙ ap (λ z. class_sum (λ k. number k o) n + z) (class_sums number os n) ∙ sym (sum_by-cons (λ z. class_sum (λ k. number k z) n) o os)

-- a class is one of the first or none
most_one : (c n : ℕ) → class_sum (λ k. one_if (c == k)) n ≤ 1
most_one c zero = omega arith
most_one c (suc n) = elim (order c (suc n)) [
  | inl l ↦ (let e = class_sum_one c (suc n) l in omega (arith, e))
  | inr l ↦ (let r = most_one c n in let e : one_if (c == n) ≡ 0 = ap one_if (ne_eqb c n (λ z. omega arith)) in omega (arith, r, e))
]
  where
    order : (a b : ℕ) → (a < b) ⊎ (b ≤ a)
    order a b = grind arith

-- an evacuating page counts for one class at most
one_leaves : (o : Option Page) → class_sum (λ k. evacuating_on k o) CLASSES ≤ one_if (is_evacuating o)
one_leaves None = let z = zeros CLASSES in omega (arith, z)
one_leaves (Some p) = by_evacuating p.evacuating
  where
    by_evacuating : (l : Bool) → class_sum (λ k. one_if ((p.class == k) && l)) CLASSES ≤ one_if l
    by_evacuating true = let e = class_sum_same (λ k. one_if ((p.class == k) && true)) (λ k. one_if (p.class == k)) CLASSES (λ k. ap one_if (and-true (p.class == k))) in let m = most_one p.class CLASSES in omega (arith, e, m)
    by_evacuating false = let e = class_sum_same (λ k. one_if ((p.class == k) && false)) (λ k. 0) CLASSES (λ k. ap one_if (and-false (p.class == k))) in let z = zeros CLASSES in omega (arith, e, z)

-- each page stays in its class, is evacuating or is free
all_kinds : (pages : List (Option Page)) → ArePages pages → length pages ≤ class_sum (staying_pages pages) CLASSES + evacuating_pages pages + free_pages pages
all_kinds pages w =
    let a = all_pages pages w in
    let u = class_sum_same (used_pages pages) (λ k. staying_pages pages k + sum_by (evacuating_on k) pages) CLASSES (λ k. (used k pages).0) in
    let b = class_sum_both (staying_pages pages) (λ k. sum_by (evacuating_on k) pages) CLASSES in
    let s = class_sums evacuating_on pages CLASSES in
    let l = sum_by-le-sum_by (λ o. class_sum (λ k. evacuating_on k o) CLASSES) (λ o. one_if (is_evacuating o)) pages one_leaves in
    omega (arith, a, u, b, s, l)

-- room for the requested blocks
module _ (h : HeapState) (blocks : ℕ → ℕ) (spare : ℕ) (a : ArePages h.store.pages) (w : IsSparse h.store h.phase blocks) (leave : evacuating_pages h.store.pages ≤ spare) (fits : sparse_pages blocks + spare ≤ length h.store.pages) where
  class_sparse : (need : ℕ → ℕ) → ((k : ℕ) → k < CLASSES → main_blocks h.store.pages k + need k ≤ blocks k) → (class : ℕ) → class < CLASSES → whole_pages class (need class - free_blocks h.store.pages class) + staying_pages h.store.pages class ≤ gathered_pages class (blocks class)
  class_sparse need asks class small = by_missing (zero_or (need class - free_blocks h.store.pages class))
    where
      missing : ℕ
      missing = need class - free_blocks h.store.pages class

      by_missing : (missing ≡ 0) ⊎ (0 < missing) → whole_pages class missing + staying_pages h.store.pages class ≤ gathered_pages class (blocks class)
      by_missing (inl z) = let n : whole_pages class missing ≡ 0 = ap (whole_pages class) z ∙ whole_none class small in let f = settled_used h.store class (blocks class) (all_settled h.store h.phase blocks w class small) in omega (arith, n, f)
      by_missing (inr s) =
          let some = blocks_some class small in
          let o = own class h.store.pages a in
          let x = asks class small in
          let r = whole_within (blocks_in class) missing (staying_pages h.store.pages class) (blocks class) some (omega (arith, s, o, x)) in
          let l = gathered_least class (blocks class) in
          omega (arith, r, l)

  sparse_has_room : (need : ℕ → ℕ) → ((k : ℕ) → k < CLASSES → main_blocks h.store.pages k + need k ≤ blocks k) → has_room h.store.pages need ≡ true
  sparse_has_room need asks = le-leb (pages_needed h.store.pages need CLASSES) (free_pages h.store.pages) (let s = needed_sums h.store.pages need (staying_pages h.store.pages) (λ class. gathered_pages class (blocks class)) CLASSES (class_sparse need asks) in let t = all_kinds h.store.pages a in omega (arith, s, t, fits, leave))

-- what is kept
sparse_keeps : (blocks : ℕ → ℕ) (spare : ℕ) → KeepsRoom blocks spare (sparse_pages blocks + spare) (λ h. IsGathering h.store.pages (length h.store.pages) h.phase × IsSparse h.store h.phase blocks)
sparse_keeps blocks spare = record {
  room = λ h a b kept fits need asks. sparse_has_room h blocks spare a kept.1 (let q = bounded_pages h blocks spare b in q.evacuating) fits need asks;
  change = λ h after g c a fits does kept. (gather_change h after g c kept.0 does, sparse_change h after g c blocks a fits does kept.1);
  begins = λ r new b kept. subst (λ (z : HeapState). IsGathering z.store.pages (length z.store.pages) z.phase × IsSparse z.store z.phase blocks) (sym b.heap) (tt, sparse_phase r.heap.store r.heap.phase phases.Idle blocks b.idle kept.1);
  chain = λ h after spent present snapshot w chain kept. chain_sparse h after spent present snapshot blocks w chain kept;
}

pub sparse_suffices : (h : HeapState) (es : List Event) (new : Course) (blocks : ℕ → ℕ) (live : Lives) → IsOpening h → 0 < length h.store.pages → Runs (opened h) es new → AllKeep (WithinBlocks blocks live) live (opening_season h.limits) es → sparse_pages blocks + spare_of h ≤ length h.store.pages → EveryNewFindsRoom es
sparse_suffices h es new blocks live o some runs keeps fits =
    joint_runs live blocks (spare_of h) _ _ (sparse_keeps blocks (spare_of h)) h es new o some runs keeps (inl refl)
    (subst (IsGathering h.store.pages (length h.store.pages)) (sym o.phase) tt, subst (λ p. IsSparse h.store p blocks) (sym o.phase) (λ class l. opening_settled h o some class _)) fits
