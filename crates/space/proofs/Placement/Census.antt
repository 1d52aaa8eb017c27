-- The allocated blocks of a class are no more than the parts of the class that what is kept has.
use Rattle.std.proofs.Common.{◌≡◌, ◌≢◌, ℕ, suc, ◌+◌, ◌*◌, ◌/◌, ◌<◌, ◌≤◌, inl, inr, Bool, true, false, not, ◌&&◌, ◌==◌, if◌then◌else◌, List, [], ◌∷◌, ◌++◌, Option, Some, None, length, drop, map, ap, ◌∙◌, sym, subst, arith, refl, length-append}
use Rattle.std.specs.Prelude.{count_by, sum_by, slice_get}
use Rattle.std.specs.List.{IsDistinct, AllByRecursion}
use Rattle.std.proofs.lemmas.List.Sums.{sum_by-cons}
use Rattle.std.proofs.lemmas.Option.{slice_get_within}
use Rattle.std.proofs.lemmas.Bool.{eqb-true}
use Rattle.graph_heap.specs.Graph.{Object, object_of}
use Rattle.size_classes.specs.Sizes.{size_of}
use Rattle.size_classes.specs.Need.{needed}
use Rattle.heap_model.specs.Pages.{Page, ArePages, page_at}
use Rattle.heap_model.specs.Store.{Store, is_allocated, record_of}
use Rattle.heap_model.specs.State.{is_evacuating}
use Rattle.heap_model.proofs.Store.Allocated.{allocated_at, size_some, block_within}
use Rattle.space.specs.Demand.{blocks_of}
use Rattle.space.specs.Counts.{main_on, main_blocks}
use Rattle.space.specs.Placement.{class_in, IsTidy, KeepsOnly, KeepsShapes}
use Rattle.space.proofs.Counts.{one_if, both_true}
use Rattle.space.proofs.Placement.Tidying.{place_page}
use Rattle.space.proofs.Placement.Names.{name_eq, name_same, name, block_name, IsAmong, few_blocks}

-- the allocated blocks of a class, on pages that stay, in rising order
flags_at : ℕ → ℕ → List Bool → List ℕ
flags_at size a [] = []
flags_at size a (true ∷ fs) = a ∷ flags_at size (a + size) fs
flags_at size a (false ∷ fs) = flags_at size (a + size) fs

on_page : ℕ → ℕ → Option Page → List ℕ
on_page class a None = []
on_page class a (Some p) = if (p.class == class) && not p.evacuating then flags_at (size_of p.class) a p.allocated else []

on_pages : ℕ → ℕ → List (Option Page) → List ℕ
on_pages class k [] = []
on_pages class k (o ∷ os) = on_page class (2048 * k) o ++ on_pages class (k + 1) os

flags_length : (size a : ℕ) (fs : List Bool) → length (flags_at size a fs) ≡ count_by (λ b. b) fs
unfolding flags_at
flags_length size a [] = refl
flags_length size a (true ∷ fs) = let r = flags_length size (a + size) fs in let c = sum_by-cons (λ b. one_if b) true fs in omega (arith, r, c)
flags_length size a (false ∷ fs) = let r = flags_length size (a + size) fs in let c = sum_by-cons (λ b. one_if b) false fs in omega (arith, r, c)

page_length : (class a : ℕ) (o : Option Page) → length (on_page class a o) ≡ main_on class o
unfolding on_page
page_length class a None = refl
page_length class a (Some p) = by_stay ((p.class == class) && not p.evacuating)
  where
    by_stay : (b : Bool) → length (if b then flags_at (size_of p.class) a p.allocated else []) ≡ (if b then count_by (λ b. b) p.allocated else 0)
    by_stay true = flags_length (size_of p.class) a p.allocated
    by_stay false = refl

pages_length : (class k : ℕ) (pages : List (Option Page)) → length (on_pages class k pages) ≡ main_blocks pages class
unfolding on_pages
pages_length class k [] = refl
pages_length class k (o ∷ os) =
    let r = pages_length class (k + 1) os in
    let h = page_length class (2048 * k) o in
    let a = length-append (on_page class (2048 * k) o) (on_pages class (k + 1) os) in
    let c = sum_by-cons (main_on class) o os in
    omega (arith, r, h, a, c)

-- numbers in rising order, from one up to another, and what each is
Rises : (ℕ → Type 0) → ℕ → ℕ → List ℕ → Type 0
Rises P a m [] = a ≤ m
Rises P a m (x ∷ xs) = (a ≤ x) × P x × Rises P (x + 1) m xs

rises_from : (P : ℕ → Type 0) (a b m : ℕ) (xs : List ℕ) → b ≤ a → Rises P a m xs → Rises P b m xs
unfolding Rises
rises_from P a b m [] l r = omega arith
rises_from P a b m (x ∷ xs) l r = ((let q = r.0 in omega arith), r.1, r.2)

rises_append : (P : ℕ → Type 0) (a m n : ℕ) (xs ys : List ℕ) → Rises P a m xs → Rises P m n ys → Rises P a n (xs ++ ys)
unfolding Rises
rises_append P a m n [] ys r s = rises_from P m a n ys r s
rises_append P a m n (x ∷ xs) ys r s = (r.0, r.1, rises_append P (x + 1) m n xs ys r.2 s)

record IsThere (s : Store) (class b : ℕ) : Type 0 where
  allocated : is_allocated s b ≡ true
  of : class_in (page_at s.pages (b / 2048)) ≡ Some class
  stays : is_evacuating (page_at s.pages (b / 2048)) ≡ false

module _ (s : Store) (w : ArePages s.pages) (class : ℕ) where
  module _ (k : ℕ) (p : Page) (at : page_at s.pages k ≡ Some p) (same : p.class ≡ class) (stays : p.evacuating ≡ false) where
    place : ℕ → ℕ
    place i = 2048 * k + i * size_of p.class

    there : (i : ℕ) → slice_get p.allocated i ≡ Some true → IsThere s class (place i)
    unfolding place
    there i e = let f = place_page s k i p w at (slice_get_within p.allocated i true e) in record {
      allocated = allocated_at s k i p w at e;
      of = ap (λ z. class_in (page_at s.pages z)) f ∙ ap class_in at ∙ ap Some same;
      stays = ap (λ z. is_evacuating (page_at s.pages z)) f ∙ ap is_evacuating at ∙ stays;
    }

    place_next : (i : ℕ) → (place i + size_of p.class ≡ place (i + 1)) × (place i + 1 ≤ place (i + 1))
    unfolding place
    place_next i = let some = size_some p (w.each k p at) in (next_place (2048 * k) i (size_of p.class), next_low (2048 * k) i (size_of p.class) some)
      where
        next_place : (a i z : ℕ) → a + i * z + z ≡ a + (i + 1) * z
        next_place a i z = omega arith

        next_low : (a i z : ℕ) → 0 < z → a + i * z + 1 ≤ a + (i + 1) * z
        next_low a i z l = let e = next_place a i z in omega (arith, e)

    place_end : (i : ℕ) → (i + 1) * size_of p.class ≤ 2048 → place (i + 1) ≤ 2048 * (k + 1)
    unfolding place
    place_end i l = omega (arith, l)

    flags_rise : (fs : List Bool) (i : ℕ) → ((j : ℕ) (b : Bool) → slice_get fs j ≡ Some b → slice_get p.allocated (i + j) ≡ Some b) → place i ≤ 2048 * (k + 1) → Rises (IsThere s class) (place i) (2048 * (k + 1)) (flags_at (size_of p.class) (place i) fs)
    unfolding Rises flags_at
    flags_rise [] i sub low = low
    flags_rise (f ∷ fs) i sub low = by_flag f here (flags_rise fs (i + 1) (λ j b e. ap (slice_get p.allocated) (let z : i + 1 + j ≡ i + suc j = omega arith in z) ∙ sub (suc j) b e) end)
      where
        here : slice_get p.allocated i ≡ Some f
        here = ap (slice_get p.allocated) (let z : i ≡ i + 0 = omega arith in z) ∙ sub 0 f refl

        end : place (i + 1) ≤ 2048 * (k + 1)
        end = let b = block_within p i (w.each k p at) (slice_get_within p.allocated i f here) in place_end i b

        by_flag : (f : Bool) → slice_get p.allocated i ≡ Some f → Rises (IsThere s class) (place (i + 1)) (2048 * (k + 1)) (flags_at (size_of p.class) (place (i + 1)) fs) → Rises (IsThere s class) (place i) (2048 * (k + 1)) (flags_at (size_of p.class) (place i) (f ∷ fs))
        by_flag true e r = (omega arith, there i e, rises_from (IsThere s class) (place (i + 1)) (place i + 1) (2048 * (k + 1)) _ (place_next i).1 (subst (λ z. Rises (IsThere s class) (place (i + 1)) (2048 * (k + 1)) (flags_at (size_of p.class) z fs)) (sym (place_next i).0) r))
        by_flag false e r = rises_from (IsThere s class) (place (i + 1)) (place i) (2048 * (k + 1)) _ (let z = (place_next i).1 in omega (arith, z)) (subst (λ z. Rises (IsThere s class) (place (i + 1)) (2048 * (k + 1)) (flags_at (size_of p.class) z fs)) (sym (place_next i).0) r)

  page_rises : (k : ℕ) (o : Option Page) → page_at s.pages k ≡ o → Rises (IsThere s class) (2048 * k) (2048 * (k + 1)) (on_page class (2048 * k) o)
  unfolding Rises on_page place
  page_rises k None at = omega arith
  page_rises k (Some p) at = by_stay ((p.class == class) && not p.evacuating) refl
    where
      by_stay : (b : Bool) → ((p.class == class) && not p.evacuating) ≡ b → Rises (IsThere s class) (2048 * k) (2048 * (k + 1)) (if b then flags_at (size_of p.class) (2048 * k) p.allocated else [])
      by_stay false e = omega arith
      by_stay true e =
          let q = both_true (p.class == class) (not p.evacuating) e in
          let none : 2048 * k + 0 * size_of p.class ≡ 2048 * k = omega arith in
          subst (λ z. Rises (IsThere s class) z (2048 * (k + 1)) (flags_at (size_of p.class) z p.allocated)) none
          (flags_rise k p at (eqb-true p.class class q.0) (off p.evacuating q.1) p.allocated 0 (λ j b e. ap (slice_get p.allocated) (let z : 0 + j ≡ j = omega arith in z) ∙ e) (omega (arith, none)))
        where
          off : (b : Bool) → not b ≡ true → b ≡ false
          off true e = absurd (cc)
          off false e = refl

  pages_rise : (pages : List (Option Page)) (k : ℕ) → ((j : ℕ) → page_at s.pages (k + j) ≡ page_at pages j) → Rises (IsThere s class) (2048 * k) (2048 * (k + length pages)) (on_pages class k pages)
  unfolding Rises on_pages
  pages_rise [] k sub = omega arith
  pages_rise (o ∷ os) k sub =
      let here : page_at s.pages k ≡ o = ap (page_at s.pages) (let z : k ≡ k + 0 = omega arith in z) ∙ sub 0 in
      let rest = pages_rise os (k + 1) (λ j. ap (page_at s.pages) (let z : k + 1 + j ≡ k + suc j = omega arith in z) ∙ sub (suc j)) in
      let end : 2048 * (k + 1 + length os) ≡ 2048 * (k + length (o ∷ os)) = omega arith in
      rises_append (IsThere s class) (2048 * k) (2048 * (k + 1)) (2048 * (k + length (o ∷ os))) (on_page class (2048 * k) o) (on_pages class (k + 1) os) (page_rises k o here)
      (subst (λ z. Rises (IsThere s class) (2048 * (k + 1)) z (on_pages class (k + 1) os)) end rest)

  -- their names are distinct
  module _ (objects : List Object) (tidy : IsTidy s objects) where
    main : (b : ℕ) → IsThere s class b → (record_of s b).forward ≡ b
    main b t = elim (tidy.old b t.allocated) [ inl e ↦ e | inr e ↦ absurd (let st = t.stays in let z : true ≡ false = sym e ∙ st in cc) ]

    apart : (a b : ℕ) → IsThere s class a → IsThere s class b → a ≢ b → name_eq (block_name s a) (block_name s b) ≡ false
    apart a b t u ne = by_same (name_eq (name (record_of s a).identity (record_of s a).part) (name (record_of s b).identity (record_of s b).part)) refl
      where
        by_same : (z : Bool) → name_eq (name (record_of s a).identity (record_of s a).part) (name (record_of s b).identity (record_of s b).part) ≡ z → z ≡ false
        by_same true e = let q = name_same _ _ e in absurd (ne (tidy.one a b t.allocated u.allocated (main a t) (main b u) q.0 q.1))
        by_same false e = refl

    all_apart : (a x m : ℕ) (xs : List ℕ) → IsThere s class x → x < a → Rises (IsThere s class) a m xs → AllByRecursion (λ y. name_eq (block_name s x) y ≡ false) (map (block_name s) xs)
    unfolding Rises
    all_apart a x m [] t l r = tt
    all_apart a x m (y ∷ ys) t l r = (apart x y t r.1 (let q = r.0 in omega arith), all_apart (y + 1) x m ys t (let q = r.0 in omega arith) r.2)

    distinct : (a m : ℕ) (xs : List ℕ) → Rises (IsThere s class) a m xs → IsDistinct name_eq (map (block_name s) xs)
    unfolding Rises IsDistinct
    distinct a m [] r = tt
    distinct a m (x ∷ xs) r = (all_apart (x + 1) x m xs r.1 (omega arith) r.2, distinct (x + 1) m xs r.2)

    module _ (first : List Object) (ids : List ℕ) (kept : KeepsShapes first objects) (only : KeepsOnly s (length first) ids) where
      among : (a m : ℕ) (bs : List ℕ) → Rises (IsThere s class) a m bs → AllByRecursion (IsAmong s class objects tidy first ids kept) bs
      unfolding Rises
      among a m [] r = tt
      among a m (b ∷ bs) r = (record { allocated = r.1.allocated; of = r.1.of; only = only b r.1.allocated (main b r.1) }, among (b + 1) m bs r.2)

      pub census : main_blocks s.pages class ≤ sum_by (λ id. needed (object_of first id).shape class) ids + blocks_of (drop (length first) objects) class
      census =
          let bs = on_pages class 0 s.pages in
          let r = pages_rise s.pages 0 (λ j. ap (page_at s.pages) (let z : 0 + j ≡ j = omega arith in z)) in
          let l = few_blocks s class objects tidy first ids kept bs (among _ _ bs r) (distinct _ _ bs r) in
          let a = pages_length class 0 s.pages in
          omega (arith, l, a)
