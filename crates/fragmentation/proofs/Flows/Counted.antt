-- The words of blocks that are one for a part are no more than those that objects need.
use Rattle.std.proofs.Common.{◌≡◌, ℕ, zero, suc, ◌+◌, ◌-◌, ◌*◌, ◌/◌, ◌<◌, ◌≤◌, Bool, true, false, ◌&&◌, ◌==◌, if◌then◌else◌, nat_lt, List, [], ◌∷◌, Option, Some, None, length, drop, map, ap, ◌∙◌, arith, refl, mul-zero}
use Rattle.std.specs.Prelude.{sum_by}
use Rattle.std.specs.List.{IsDistinct, AllByRecursion}
use Rattle.std.proofs.lemmas.Bool.{eq-eqb, eqb-true}
use Rattle.std.proofs.Math.Nat.{mul-le-mul_left}
use Rattle.graph_heap.specs.Graph.{Object, object_of}
use Rattle.size_classes.specs.declared.class.TheConstants.{CLASSES}
use Rattle.size_classes.specs.Sizes.{size_of}
use Rattle.size_classes.specs.Need.{needed}
use Rattle.heap_model.specs.Pages.{Page, ArePages, page_at}
use Rattle.heap_model.specs.Store.{Store, size_in, size_at, is_allocated, record_of}
use Rattle.heap_model.specs.Collector.{contains}
use Rattle.heap_model.specs.Units.{total}
use Rattle.heap_model.proofs.Units.{total_le}
use Rattle.heap_model.proofs.Store.Allocated.{allocated_block}
use Rattle.space.specs.Demand.{blocks_of}
use Rattle.space.specs.Space.{class_sum}
use Rattle.space.specs.Counts.{is_of}
use Rattle.space.specs.Placement.{class_in, IsTidy, KeepsShapes}
use Rattle.space.proofs.Counts.{one_if, both_true, class_sum_le, class_sum_both, class_sum_same, zeros}
use Rattle.space.proofs.Placement.Names.{name_eq, name_same, block_name, IsAmong, few_blocks}

-- a number is no more than a sum in which it stands
sum_has : (g : ℕ → ℕ) (c n : ℕ) → c < n → g c ≤ class_sum g n
sum_has g c zero l = absurd (omega (arith, l))
sum_has g c (suc n) l = by_last (c == n) refl (sum_has g c n)
  where
    less : (c == n) ≡ false → c < n
    less e = grind arith

    by_last : (b : Bool) → (c == n) ≡ b → (c < n → g c ≤ class_sum g n) → g c ≤ class_sum g n + g n
    by_last true e before = let s : g c ≡ g n = ap g (eqb-true c n e) in omega (arith, s)
    by_last false e before = let r = before (less e) in omega (arith, r)

-- what is added up of each reference, by class, and of each class, by reference
swapped : (size : ℕ → ℕ) (counts : ℕ → ℕ → Bool) (k n : ℕ) → total (λ x. class_sum (λ c. size c * one_if (counts c x)) k) n ≡ class_sum (λ c. size c * total (λ x. one_if (counts c x)) n) k
unfolding total
swapped size counts k zero =
    let z = zeros k in
    let s = class_sum_same (λ c. size c * 0) (λ c. 0) k (λ c. mul-zero (size c)) in
    omega (arith, z, s)
swapped size counts k (suc n) =
    let r = swapped size counts k n in
    let b = class_sum_both (λ c. size c * total (λ x. one_if (counts c x)) n) (λ c. size c * one_if (counts c n)) k in
    let s = class_sum_same (λ c. size c * (total (λ x. one_if (counts c x)) n + one_if (counts c n))) (λ c. size c * total (λ x. one_if (counts c x)) n + size c * one_if (counts c n)) k (λ c. spread (size c) (total (λ x. one_if (counts c x)) n) (one_if (counts c n))) in
    omega (arith, r, b, s)
  where
    spread : (a b c : ℕ) → a * (b + c) ≡ a * b + a * c
    spread a b c = grind arith

-- The count of a reference is of an allocated block, and at most its words. The block is of an object among some
-- identities if it is one of the first. No two of these blocks are of one part.
pub record AreBlocks (s : Store) (count : ℕ) (ids : List ℕ) (f : ℕ → ℕ) : Type 0 where
  pub allocated : (x : ℕ) → 0 < f x → is_allocated s (x - 1) ≡ true
  pub few : (x : ℕ) → 0 < f x → f x ≤ size_at s (x - 1)
  pub only : (x : ℕ) → 0 < f x → (record_of s (x - 1)).identity ≤ count → contains ids (record_of s (x - 1)).identity ≡ true
  pub one : (x y : ℕ) → 0 < f x → 0 < f y → (record_of s (x - 1)).identity ≡ (record_of s (y - 1)).identity → (record_of s (x - 1)).part ≡ (record_of s (y - 1)).part → x ≡ y

module _ (s : Store) (objects : List Object) (w : ArePages s.pages) (tidy : IsTidy s objects) (first : List Object) (ids : List ℕ) (kept : KeepsShapes first objects) (f : ℕ → ℕ) (are : AreBlocks s (length first) ids f) where
  -- something is counted of a reference, and its block is of a class
  counts : ℕ → ℕ → Bool
  counts class x = nat_lt 0 (f x) && is_of class (page_at s.pages ((x - 1) / 2048))

  counted : (class x : ℕ) → counts class x ≡ true → (0 < f x) × (class_in (page_at s.pages ((x - 1) / 2048)) ≡ Some class)
  unfolding counts
  counted class x e =
      let b = both_true (nat_lt 0 (f x)) (is_of class (page_at s.pages ((x - 1) / 2048))) e in
      (some (f x) b.0, of_class (page_at s.pages ((x - 1) / 2048)) b.1)
    where
      some : (n : ℕ) → nat_lt 0 n ≡ true → 0 < n
      some n e = grind arith

      of_class : (o : Option Page) → is_of class o ≡ true → class_in o ≡ Some class
      of_class None e = absurd (cc)
      of_class (Some p) e = ap Some (eqb-true p.class class e)

  -- these blocks, of references below a number
  blocks_below : ℕ → ℕ → List ℕ
  blocks_below class zero = []
  blocks_below class (suc n) = if counts class n then (n - 1) ∷ blocks_below class n else blocks_below class n

  how_many : (class n : ℕ) → length (blocks_below class n) ≡ total (λ x. one_if (counts class x)) n
  unfolding blocks_below total
  how_many class zero = refl
  how_many class (suc n) = by_count (counts class n) (how_many class n)
    where
      by_count : (b : Bool) → length (blocks_below class n) ≡ total (λ x. one_if (counts class x)) n → length (if b then (n - 1) ∷ blocks_below class n else blocks_below class n) ≡ total (λ x. one_if (counts class x)) n + one_if b
      by_count true r = omega (arith, r)
      by_count false r = omega (arith, r)

  all_among : (class n : ℕ) → AllByRecursion (IsAmong s class objects tidy first ids kept) (blocks_below class n)
  unfolding blocks_below
  all_among class zero = tt
  all_among class (suc n) = by_count (counts class n) refl (all_among class n)
    where
      by_count : (b : Bool) → counts class n ≡ b → AllByRecursion (IsAmong s class objects tidy first ids kept) (blocks_below class n) → AllByRecursion (IsAmong s class objects tidy first ids kept) (if b then (n - 1) ∷ blocks_below class n else blocks_below class n)
      by_count true e r = let c = counted class n e in (record { allocated = are.allocated n c.0; of = c.1; only = are.only n c.0 }, r)
      by_count false e r = r

  apart : (x y : ℕ) → 0 < f x → 0 < f y → y < x → name_eq (block_name s (x - 1)) (block_name s (y - 1)) ≡ false
  apart x y a b l = by_same (name_eq (block_name s (x - 1)) (block_name s (y - 1))) refl
    where
      by_same : (z : Bool) → name_eq (block_name s (x - 1)) (block_name s (y - 1)) ≡ z → z ≡ false
      by_same true e = let q = name_same _ _ e in absurd (let d = are.one x y a b q.0 q.1 in omega (arith, d, l))
      by_same false e = refl

  all_apart : (class x n : ℕ) → 0 < f x → n ≤ x → AllByRecursion (λ y. name_eq (block_name s (x - 1)) y ≡ false) (map (block_name s) (blocks_below class n))
  unfolding blocks_below
  all_apart class x zero some l = tt
  all_apart class x (suc n) some l = by_count (counts class n) refl (all_apart class x n some (omega (arith, l)))
    where
      by_count : (b : Bool) → counts class n ≡ b → AllByRecursion (λ y. name_eq (block_name s (x - 1)) y ≡ false) (map (block_name s) (blocks_below class n))
          → AllByRecursion (λ y. name_eq (block_name s (x - 1)) y ≡ false) (map (block_name s) (if b then (n - 1) ∷ blocks_below class n else blocks_below class n))
      by_count true e r = (apart x n some (counted class n e).0 (omega (arith, l)), r)
      by_count false e r = r

  distinct : (class n : ℕ) → IsDistinct name_eq (map (block_name s) (blocks_below class n))
  unfolding blocks_below IsDistinct
  distinct class zero = tt
  distinct class (suc n) = by_count (counts class n) refl (distinct class n)
    where
      by_count : (b : Bool) → counts class n ≡ b → IsDistinct name_eq (map (block_name s) (blocks_below class n)) → IsDistinct name_eq (map (block_name s) (if b then (n - 1) ∷ blocks_below class n else blocks_below class n))
      by_count true e r = (all_apart class n n (counted class n e).0 (omega arith), r)
      by_count false e r = r

  -- what is counted of a reference stands in the sum of its classes
  of_a_class : (x : ℕ) → f x ≤ class_sum (λ c. size_of c * one_if (counts c x)) CLASSES
  unfolding counts size_at
  of_a_class x = by_some (nat_lt 0 (f x)) refl
    where
      none : (n : ℕ) → nat_lt 0 n ≡ false → n ≡ 0
      none n e = grind arith

      some : (n : ℕ) → nat_lt 0 n ≡ true → 0 < n
      some n e = grind arith

      by_some : (b : Bool) → nat_lt 0 (f x) ≡ b → f x ≤ class_sum (λ c. size_of c * one_if (counts c x)) CLASSES
      by_some false e = let z = none (f x) e in omega (arith, z)
      by_some true e =
          let a = allocated_block s (x - 1) (are.allocated x (some (f x) e)) in
          let p = a.0 in
          let at = a.2.page in
          let size : size_at s (x - 1) ≡ size_of p.class = ap size_in at in
          let here : counts p.class x ≡ true = ap (λ b. b && is_of p.class (page_at s.pages ((x - 1) / 2048))) e ∙ ap (is_of p.class) at ∙ eq-eqb p.class p.class refl in
          let term : size_of p.class * one_if (counts p.class x) ≡ size_of p.class * 1 = ap (λ b. size_of p.class * one_if b) here in
          let has = sum_has (λ c. size_of c * one_if (counts c x)) p.class CLASSES ((w.each ((x - 1) / 2048) p at).class) in
          let few = are.few x (some (f x) e) in
          omega (arith, size, term, has, few)

  pub words_counted : (most : ℕ → ℕ) → ((class : ℕ) → class < CLASSES → sum_by (λ id. needed (object_of first id).shape class) ids ≤ most class) → (n : ℕ) → total f n ≤ class_sum (λ c. size_of c * (most c + blocks_of (drop (length first) objects) c)) CLASSES
  words_counted most within n =
      let t = total_le f (λ x. class_sum (λ c. size_of c * one_if (counts c x)) CLASSES) n (λ x l. of_a_class x) in
      let e = swapped size_of counts CLASSES n in
      let l = class_sum_le (λ c. size_of c * total (λ x. one_if (counts c x)) n) (λ c. size_of c * (most c + blocks_of (drop (length first) objects) c)) CLASSES (λ c small. mul-le-mul_left (size_of c) (class_few c small)) in
      omega (arith, t, e, l)
    where
      class_few : (c : ℕ) → c < CLASSES → total (λ x. one_if (counts c x)) n ≤ most c + blocks_of (drop (length first) objects) c
      class_few c small =
          let m = how_many c n in
          let b = few_blocks s c objects tidy first ids kept (blocks_below c n) (all_among c n) (distinct c n) in
          let i = within c small in
          omega (arith, m, b, i)
