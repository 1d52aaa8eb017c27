-- Pages counted by class.
use Rattle.std.proofs.Common.{◌≡◌, ℕ, zero, suc, ◌+◌, ◌-◌, ◌*◌, ◌/◌, ◌<◌, ◌≤◌, ◌⊎◌, inl, inr, Bool, true, false, not, ◌&&◌, cond, ◌==◌, if◌then◌else◌, List, [], ◌∷◌, Option, Some, None, length, set, replicate, ap, ◌∙◌, sym, subst, arith, refl, mul-zero}
use Rattle.std.specs.Prelude.{position, count_by, sum_by, slice_get}
use Rattle.std.proofs.lemmas.Bool.{le-leb, eq-eqb, eqb-true, ne_eqb}
use Rattle.std.proofs.lemmas.Bool.Decides.{eqb_tells}
use Rattle.std.proofs.lemmas.List.Sums.{sum_by-cons}
use Rattle.std.proofs.lemmas.Nat.{le-div}
use Rattle.std.proofs.lemmas.List.Folds.{sum_by-replicate}
use Rattle.std.proofs.lemmas.List.Quantifiers.{position-Some}
use Rattle.std.proofs.lemmas.Option.{slice_get_within, get_or_from_slice_get}
use Rattle.std.proofs.Math.Nat.{div-mul-le_self, div-eq_of_lt}
use Rattle.size_classes.specs.declared.class.TheConstants.{CLASSES}
use Rattle.size_classes.specs.Sizes.{blocks_in}
use Rattle.size_classes.specs.Parts.{part_words}
use Rattle.size_classes.specs.Need.{blocks_needed}
use Rattle.size_classes.proofs.Table.{blocks_some}
use Rattle.heap_model.specs.Pages.{Page, IsPage, ArePages, IsOpen, is_free, is_usable, first_of, page_of_class, fresh_page, with_allocated, TakesBlock, page_at, free_on, free_blocks, free_pages, whole_pages, pages_needed, has_room}
use Rattle.heap_model.specs.State.{is_evacuating}
use Rattle.heap_model.specs.Taking.{Takes, Nothing_taken, Part_taken}
use Rattle.heap_model.proofs.Action.Moving.{usable_fits}
use Rattle.heap_model.proofs.Placed.{page_for_within}
use Rattle.heap_model.proofs.Rooms.{set_sum, no_blocks, more_needed}
use Rattle.heap_model.proofs.Taking.{class_low, takes_pages}
use Rattle.space.specs.Space.{class_sum, class_pages, pages_for}
use Rattle.space.specs.Counts.{is_of, stays, main_on, main_blocks, used_pages, evacuating_pages, IsBounded}

abbrev pub one_if : Bool → ℕ
one_if b = cond b 1 0

-- the pages of a class that aren't evacuating, and those that are
abbrev pub stay_on : ℕ → Option Page → ℕ
stay_on class o = one_if (stays class o)

abbrev pub evacuating_on : ℕ → Option Page → ℕ
evacuating_on class None = 0
evacuating_on class (Some p) = one_if ((p.class == class) && p.evacuating)

pub first_page : (o : Option Page) (os : List (Option Page)) → ArePages (o ∷ os) → (p : Page) → o ≡ Some p → IsPage p
first_page o os w p e = w.each 0 p e

pub other_pages : (o : Option Page) (os : List (Option Page)) → ArePages (o ∷ os) → ArePages os
other_pages o os w = record { each = λ k p e. w.each (suc k) p e }

-- each flag is set or not
pub flags_all : (flags : List Bool) → count_by not flags + count_by (λ b. b) flags ≡ length flags
flags_all [] = refl
flags_all (true ∷ fs) = let e = flags_all fs in let a = sum_by-cons (λ b. one_if (not b)) true fs in let b = sum_by-cons (λ b. one_if b) true fs in omega (arith, a, b, e)
flags_all (false ∷ fs) = let e = flags_all fs in let a = sum_by-cons (λ b. one_if (not b)) false fs in let b = sum_by-cons (λ b. one_if b) false fs in omega (arith, a, b, e)

pub both_true : (x y : Bool) → (x && y) ≡ true → (x ≡ true) × (y ≡ true)
both_true true y h = (refl, h)
both_true false y h = absurd (cc)

-- the blocks of a page are free or allocated
own_page : (class : ℕ) (o : Option Page) → ((p : Page) → o ≡ Some p → IsPage p) → free_on class o + main_on class o ≡ blocks_in class * stay_on class o
own_page class None w = let z : blocks_in class * 0 ≡ 0 = mul-zero (blocks_in class) in omega (arith, z)
own_page class (Some p) w = by_test ((p.class == class) && not p.evacuating) refl
  where
    by_test : (b : Bool) → ((p.class == class) && not p.evacuating) ≡ b → cond b (count_by not p.allocated) 0 + cond b (count_by (λ b. b) p.allocated) 0 ≡ blocks_in class * one_if b
    by_test true e =
        let same : p.class ≡ class = eqb-true p.class class (both_true (p.class == class) (not p.evacuating) e).0 in
        let l = (w p refl).blocks in
        let m : length p.allocated ≡ blocks_in class = l ∙ ap blocks_in same in
        let f = flags_all p.allocated in
        let o : blocks_in class * 1 ≡ blocks_in class = omega arith in
        omega (arith, m, f, o)
    by_test false e = let z : blocks_in class * 0 ≡ 0 = mul-zero (blocks_in class) in omega (arith, z)

times_sum : (b x y : ℕ) → b * (x + y) ≡ b * x + b * y
times_sum b x y = omega arith

pub own : (class : ℕ) (pages : List (Option Page)) → ArePages pages → free_blocks pages class + main_blocks pages class ≡ blocks_in class * count_by (stays class) pages
own class [] w = let z : blocks_in class * 0 ≡ 0 = mul-zero (blocks_in class) in omega (arith, z)
own class (o ∷ os) w =
    let r = own class os (other_pages o os w) in
    let h = own_page class o (first_page o os w) in
    let a = sum_by-cons (free_on class) o os in
    let b = sum_by-cons (main_on class) o os in
    let c = sum_by-cons (stay_on class) o os in
    let t = times_sum (blocks_in class) (stay_on class o) (count_by (stays class) os) in
    let s : blocks_in class * count_by (stays class) (o ∷ os) ≡ blocks_in class * (stay_on class o + count_by (stays class) os) = ap (λ z. blocks_in class * z) c in
    omega (arith, r, h, a, b, t, s)

-- each page of a class stays or is evacuating
used_page : (class : ℕ) (o : Option Page) → (one_if (is_of class o) ≡ stay_on class o + evacuating_on class o) × (evacuating_on class o ≤ one_if (is_evacuating o))
used_page class None = (refl, omega arith)
used_page class (Some p) = by_tests (p.class == class) p.evacuating
  where
    by_tests : (b l : Bool) → (one_if b ≡ one_if (b && not l) + one_if (b && l)) × (one_if (b && l) ≤ one_if l)
    by_tests true true = (refl, omega arith)
    by_tests true false = (refl, omega arith)
    by_tests false true = (refl, omega arith)
    by_tests false false = (refl, omega arith)

pub used : (class : ℕ) (pages : List (Option Page)) → (used_pages pages class ≡ count_by (stays class) pages + sum_by (evacuating_on class) pages) × (sum_by (evacuating_on class) pages ≤ evacuating_pages pages)
used class [] = (refl, omega arith)
used class (o ∷ os) =
    let r = used class os in
    let h = used_page class o in
    let a = sum_by-cons (λ z. one_if (is_of class z)) o os in
    let b = sum_by-cons (stay_on class) o os in
    let c = sum_by-cons (evacuating_on class) o os in
    let d = sum_by-cons (λ z. one_if (is_evacuating z)) o os in
    (omega (arith, r.0, h.0, a, b, c), omega (arith, r.1, h.1, c, d))

pub class_sum_le : (f g : ℕ → ℕ) (n : ℕ) → ((k : ℕ) → k < n → f k ≤ g k) → class_sum f n ≤ class_sum g n
class_sum_le f g zero l = omega arith
class_sum_le f g (suc n) l = let r = class_sum_le f g n (λ k b. l k (omega arith)) in let h = l n (omega arith) in omega (arith, r, h)

pub class_sum_both : (f g : ℕ → ℕ) (n : ℕ) → class_sum (λ k. f k + g k) n ≡ class_sum f n + class_sum g n
class_sum_both f g zero = refl
class_sum_both f g (suc n) = let r = class_sum_both f g n in omega (arith, r)

class_sum_none : (c n : ℕ) → n ≤ c → class_sum (λ k. one_if (c == k)) n ≡ 0
class_sum_none c zero l = refl
class_sum_none c (suc n) l =
    let r = class_sum_none c n (omega arith) in
    let e : (c == n) ≡ false = ne_eqb c n (λ z. omega arith) in
    let o : one_if (c == n) ≡ 0 = ap one_if e in omega (arith, r, o)

pub class_sum_one : (c n : ℕ) → c < n → class_sum (λ k. one_if (c == k)) n ≡ 1
class_sum_one c zero l = absurd (omega arith)
class_sum_one c (suc n) l = elim (eqb_tells c n) [
  | inl e ↦ (let r = class_sum_none c n (let q = e.1 in omega arith) in let o : one_if (c == n) ≡ 1 = ap one_if e.0 in omega (arith, r, o))
  | inr d ↦ (let r = class_sum_one c n (let q = d.1 in omega arith) in let o : one_if (c == n) ≡ 0 = ap one_if d.0 in omega (arith, r, o))
]

pub zeros : (n : ℕ) → class_sum (λ k. 0) n ≡ 0
zeros zero = refl
zeros (suc n) = let r = zeros n in omega (arith, r)

-- each page is free or of one class
one_class : (o : Option Page) → ((p : Page) → o ≡ Some p → IsPage p) → class_sum (λ k. one_if (is_of k o)) CLASSES + one_if (is_free o) ≡ 1
one_class None w = let z = zeros CLASSES in omega (arith, z)
one_class (Some p) w = let r = class_sum_one p.class CLASSES ((w p refl).class) in omega (arith, r)

pub class_sum_same : (f g : ℕ → ℕ) (n : ℕ) → ((k : ℕ) → f k ≡ g k) → class_sum f n ≡ class_sum g n
class_sum_same f g zero e = refl
class_sum_same f g (suc n) e = let r = class_sum_same f g n e in let h = e n in omega (arith, r, h)

pub all_pages : (pages : List (Option Page)) → ArePages pages → class_sum (used_pages pages) CLASSES + free_pages pages ≡ length pages
all_pages [] w = let z = zeros CLASSES in omega (arith, z)
all_pages (o ∷ os) w =
    let r = all_pages os (other_pages o os w) in
    let h = one_class o (first_page o os w) in
    let a : class_sum (used_pages (o ∷ os)) CLASSES ≡ class_sum (λ k. one_if (is_of k o) + used_pages os k) CLASSES = class_sum_same (used_pages (o ∷ os)) (λ k. one_if (is_of k o) + used_pages os k) CLASSES (λ k. sum_by-cons (λ z. one_if (is_of k z)) o os) in
    let b = class_sum_both (λ k. one_if (is_of k o)) (used_pages os) CLASSES in
    let c = sum_by-cons (λ z. one_if (is_free z)) o os in
    omega (arith, r, h, a, b, c)

-- pages for blocks that are missing, beside those in use
pub whole_within : (b x u most : ℕ) → 0 < b → x + b * u ≤ most → (x + (b - 1)) / b + u ≤ (most + (b - 1)) / b
whole_within b x u most some l =
    let m = div-mul-le_self (x + (b - 1)) b in
    le-div ((x + (b - 1)) / b + u) (most + (b - 1)) b some (omega (arith, m))

no_pages : (b : ℕ) → 0 < b → (0 + (b - 1)) / b ≡ 0
no_pages b some = div-eq_of_lt (let l : 0 + (b - 1) < b = omega arith in l)

pub zero_or : (n : ℕ) → (n ≡ 0) ⊎ (0 < n)
zero_or n = grind arith

module _ (pages : List (Option Page)) (blocks need : ℕ → ℕ) (spare : ℕ) (w : ArePages pages) (b : IsBounded pages blocks spare) (asks : (class : ℕ) → class < CLASSES → main_blocks pages class + need class ≤ blocks class) where
  class_room : (class : ℕ) → class < CLASSES → whole_pages class (need class - free_blocks pages class) + used_pages pages class ≤ class_pages spare class (blocks class)
  class_room class small = by_some (blocks class == 0) refl (b.used class small)
    where
      some : 0 < blocks_in class
      some = blocks_some class small

      a : main_blocks pages class + need class ≤ blocks class
      a = asks class small

      o : free_blocks pages class + main_blocks pages class ≡ blocks_in class * count_by (stays class) pages
      o = own class pages w

      u : (used_pages pages class ≡ count_by (stays class) pages + sum_by (evacuating_on class) pages) × (sum_by (evacuating_on class) pages ≤ evacuating_pages pages)
      u = used class pages

      missing : ℕ
      missing = need class - free_blocks pages class

      by_some : (t : Bool) → (blocks class == 0) ≡ t → used_pages pages class ≤ (if t then 0 else whole_pages class (blocks class) + spare) → whole_pages class missing + used_pages pages class ≤ (if t then 0 else whole_pages class (blocks class) + spare)
      by_some true e l =
          let z : blocks class ≡ 0 = eqb-true (blocks class) 0 e in
          let m : missing ≡ 0 = omega (arith, z, a) in
          let p : whole_pages class missing ≡ 0 = ap (whole_pages class) m ∙ no_pages (blocks_in class) some in
          omega (arith, p, l)
      by_some false e l = elim (zero_or missing) [
        | inl m ↦ (let p : whole_pages class missing ≡ 0 = ap (whole_pages class) m ∙ no_pages (blocks_in class) some in omega (arith, p, l))
        | inr m ↦ (
            let s : missing + blocks_in class * count_by (stays class) pages ≤ blocks class = omega (arith, m, o, a) in
            let q = whole_within (blocks_in class) missing (count_by (stays class) pages) (blocks class) some s in
            let v = b.evacuating in
            omega (arith, q, u.0, u.1, v))
      ]

  sums : (n : ℕ) → n ≤ CLASSES → pages_needed pages need n + class_sum (used_pages pages) n ≤ pages_for blocks spare n
  sums zero l = omega arith
  sums (suc n) l = let r = sums n (omega arith) in let h = class_room n (omega arith) in omega (arith, r, h)

  pub room : pages_for blocks spare CLASSES ≤ length pages → has_room pages need ≡ true
  room fits = le-leb (pages_needed pages need CLASSES) (free_pages pages) (let s = sums CLASSES (omega arith) in let a = all_pages pages w in omega (arith, s, a, fits))

pub bounded_room : (pages : List (Option Page)) (blocks need : ℕ → ℕ) (spare : ℕ) → ArePages pages → IsBounded pages blocks spare → pages_for blocks spare CLASSES ≤ length pages
    → ((class : ℕ) → class < CLASSES → main_blocks pages class + need class ≤ blocks class) → has_room pages need ≡ true
bounded_room pages blocks need spare w b fits asks = room pages blocks need spare w b asks fits

-- a free block that is taken is one more that is allocated
-- a flag that is set is counted
pub allocated_more : (flags : List Bool) (i : ℕ) → slice_get flags i ≡ Some false → count_by (λ b. b) (set flags i true) ≡ count_by (λ b. b) flags + 1
allocated_more flags i e = let s = set_sum (λ b. one_if b) flags i false true false (slice_get_within flags i false e) (get_or_from_slice_get flags i false false e) in omega (arith, s)

main_more : (p : Page) (class k index : ℕ) → p.class ≡ class → p.evacuating ≡ false → IsOpen p index → main_on k (Some (with_allocated p index true)) ≡ main_on k (Some p) + one_if (class == k)
main_more p class k index same stay o = subst (λ z. main_on k (Some (with_allocated p index true)) ≡ main_on k (Some p) + one_if (z == k)) same (by_class (p.class == k) p.evacuating stay)
  where
    m : count_by (λ b. b) (set p.allocated index true) ≡ count_by (λ b. b) p.allocated + 1
    m = allocated_more p.allocated index o

    by_class : (b l : Bool) → l ≡ false → cond (b && not l) (count_by (λ b. b) (set p.allocated index true)) 0 ≡ cond (b && not l) (count_by (λ b. b) p.allocated) 0 + one_if b
    by_class b true e = absurd (cc)
    by_class true false e = m
    by_class false false e = refl

fresh_main : (class k : ℕ) → main_on k (Some (fresh_page class)) ≡ 0
fresh_main class k = by_class (class == k)
  where
    by_class : (b : Bool) → cond (b && true) (count_by (λ b. b) (replicate (blocks_in class) false)) 0 ≡ 0
    by_class true = sum_by-replicate (λ b. one_if b) (blocks_in class) false ∙ mul-zero (blocks_in class)
    by_class false = refl

-- One page replaces another in the list.
module _ (old new : List (Option Page)) (page : ℕ) (o v : Option Page) (l : page < length old) (at : page_at old page ≡ o) (is : new ≡ set old page v) where
  pub used_set : (k : ℕ) → used_pages new k + one_if (is_of k o) ≡ used_pages old k + one_if (is_of k v)
  used_set k = ap (λ z. used_pages z k + one_if (is_of k o)) is ∙ set_sum (λ z. one_if (is_of k z)) old page o v None l at

  pub evacuating_set : evacuating_pages new + one_if (is_evacuating o) ≡ evacuating_pages old + one_if (is_evacuating v)
  evacuating_set = ap (λ z. evacuating_pages z + one_if (is_evacuating o)) is ∙ set_sum (λ z. one_if (is_evacuating z)) old page o v None l at

  pub main_set : (k : ℕ) → main_blocks new k + main_on k o ≡ main_blocks old k + main_on k v
  main_set k = ap (λ z. main_blocks z k + main_on k o) is ∙ set_sum (main_on k) old page o v None l at

-- a page more for a class all of whose pages are full
one_page_more : (pages : List (Option Page)) (blocks : ℕ → ℕ) (spare class : ℕ) → class < CLASSES → ArePages pages → IsBounded pages blocks spare → main_blocks pages class + 1 ≤ blocks class → free_blocks pages class ≡ 0
    → used_pages pages class + 1 ≤ class_pages spare class (blocks class)
one_page_more pages blocks spare class small w b more none = by_some (blocks class == 0) refl
  where
    stay : ℕ
    stay = count_by (stays class) pages

    within : stay + 1 ≤ whole_pages class (blocks class)
    within = let o = own class pages w in let some = blocks_some class small in le-div (stay + 1) (blocks class + (blocks_in class - 1)) (blocks_in class) some (omega (arith, o, none, more, some))

    by_some : (t : Bool) → (blocks class == 0) ≡ t → used_pages pages class + 1 ≤ (if t then 0 else whole_pages class (blocks class) + spare)
    by_some true e = absurd (let z : blocks class ≡ 0 = eqb-true (blocks class) 0 e in omega (arith, z, more))
    by_some false e = let u = used class pages in let v = b.evacuating in omega (arith, within, u.0, u.1, v)

-- what a block that is taken leaves
pub record Took (old new : List (Option Page)) (blocks : ℕ → ℕ) (spare class : ℕ) : Type 0 where
  pub bounded : IsBounded new blocks spare
  pub evacuating : evacuating_pages new ≡ evacuating_pages old
  pub main : (k : ℕ) → main_blocks new k ≡ main_blocks old k + one_if (class == k)

pub one_block : (old new : List (Option Page)) (blocks : ℕ → ℕ) (spare class page index : ℕ) → class < CLASSES → ArePages old → IsBounded old blocks spare → main_blocks old class + 1 ≤ blocks class
    → TakesBlock old class page index new → Took old new blocks spare class
one_block old new blocks spare class page index small w b more t = by_usable (position (is_usable class) old) refl (position is_free old) refl t.page_is
  where
    within : page < length old
    within = page_for_within old class page t.page_is

    used_place : (p : Page) → page_at old page ≡ Some p → is_usable class (Some p) ≡ true → Took old new blocks spare class
    used_place p at usable =
        let fits = usable_fits class p usable in
        let v : Option Page = Some (with_allocated p index true) in
        let is : new ≡ set old page v = t.new_is ∙ ap (λ z. set old page (Some (with_allocated (page_of_class class z) index true))) at in
        let opened : IsOpen p index = subst (λ z. IsOpen (page_of_class class z) index) at t.was_free in
        record {
          bounded = record {
            used = λ k s. (let u = used_set old new page (Some p) v within at is k in let q = b.used k s in omega (arith, u, q));
            evacuating = (let u = evacuating_set old new page (Some p) v within at is in let q = b.evacuating in omega (arith, u, q));
          };
          evacuating = (let u = evacuating_set old new page (Some p) v within at is in omega (arith, u));
          main = λ k. (let u = main_set old new page (Some p) v within at is k in let m = main_more p class k index fits.0 fits.1 opened in omega (arith, u, m));
        }

    free_place : page_at old page ≡ None → free_blocks old class ≡ 0 → Took old new blocks spare class
    free_place at none =
        let v : Option Page = Some (with_allocated (fresh_page class) index true) in
        let is : new ≡ set old page v = t.new_is ∙ ap (λ z. set old page (Some (with_allocated (page_of_class class z) index true))) at in
        let opened : IsOpen (fresh_page class) index = subst (λ z. IsOpen (page_of_class class z) index) at t.was_free in
        let room = one_page_more old blocks spare class small w b more none in
        record {
          bounded = record {
            used = λ k s. (let u = used_set old new page None v within at is k in elim (eqb_tells class k) [
              | inl e ↦ (let o : one_if (class == k) ≡ 1 = ap one_if e.0 in subst (λ z. used_pages new z ≤ class_pages spare z (blocks z)) e.1 (let u1 = used_set old new page None v within at is class in let one : one_if (class == class) ≤ 1 = one_most (class == class) in omega (arith, u1, room, one)))
              | inr d ↦ (let o : one_if (class == k) ≡ 0 = ap one_if d.0 in let q = b.used k s in omega (arith, u, o, q))
            ]);
            evacuating = (let u = evacuating_set old new page None v within at is in let q = b.evacuating in omega (arith, u, q));
          };
          evacuating = (let u = evacuating_set old new page None v within at is in omega (arith, u));
          main = λ k. (let u = main_set old new page None v within at is k in let m = main_more (fresh_page class) class k index refl refl opened in let f = fresh_main class k in omega (arith, u, m, f));
        }
      where
        one_most : (b : Bool) → one_if b ≤ 1
        one_most true = omega arith
        one_most false = omega arith

    by_page : (o : Option Page) → page_at old page ≡ o → is_usable class o ≡ true → Took old new blocks spare class
    by_page None e u = absurd (cc)
    by_page (Some p) e u = used_place p e u

    by_free : (o : Option Page) → page_at old page ≡ o → is_free o ≡ true → free_blocks old class ≡ 0 → Took old new blocks spare class
    by_free None e u none = free_place e none
    by_free (Some p) e u none = absurd (cc)

    by_usable : (o : Option ℕ) → position (is_usable class) old ≡ o → (f : Option ℕ) → position is_free old ≡ f → first_of (position (is_usable class) old) (position is_free old) ≡ Some page → Took old new blocks spare class
    by_usable (Some k) e f g h =
        let here : position (is_usable class) old ≡ Some page = e ∙ (sym (ap (λ z. first_of z (position is_free old)) e) ∙ h) in
        by_page (page_at old page) refl (position-Some (is_usable class) old page None here).1
    by_usable None e f g h =
        let here : position is_free old ≡ Some page = sym (ap (λ z. first_of z (position is_free old)) e) ∙ h in
        by_free (page_at old page) refl (position-Some is_free old page None here).1 (no_blocks old class e)

-- and the blocks of an object
pub record TookAll (old new : List (Option Page)) (blocks : ℕ → ℕ) (spare cells parts : ℕ) : Type 0 where
  pub bounded : IsBounded new blocks spare
  pub evacuating : evacuating_pages new ≡ evacuating_pages old
  pub main : (k : ℕ) → main_blocks new k ≡ main_blocks old k + blocks_needed cells parts k

pub takes_bounded : (cells : ℕ) (at : ℕ → ℕ) (old : List (Option Page)) (parts : ℕ) (new : List (Option Page)) (blocks : ℕ → ℕ) (spare : ℕ) → ArePages old → IsBounded old blocks spare
    → ((k : ℕ) → k < CLASSES → main_blocks old k + blocks_needed cells parts k ≤ blocks k) → Takes cells at old parts new → TookAll old new blocks spare cells parts
takes_bounded cells at old parts new blocks spare w b asks Nothing_taken = record { bounded = b; evacuating = refl; main = λ k. omega arith }
takes_bounded cells at old parts new blocks spare w b asks (Part_taken part class index s t takes f block) =
    let small = class_low (part_words cells part) class f in
    let r = takes_bounded cells at old part s blocks spare w b (λ k l. (let n = more_needed cells part class k f in let a = asks k l in omega (arith, n, a))) takes in
    let own : blocks_needed cells (part + 1) class ≡ blocks_needed cells part class + 1 = more_needed cells part class class f ∙ ap (λ z. blocks_needed cells part class + one_if z) (eq-eqb class class refl) in
    let one = one_block s t blocks spare class (at part / 2048) index small (takes_pages cells at old part s w takes) r.bounded (let m = r.main class in let a = asks class small in omega (arith, m, own, a)) block in
    record { bounded = one.bounded; evacuating = one.evacuating ∙ r.evacuating; main = λ k. (let m = r.main k in let o = one.main k in let n = more_needed cells part class k f in omega (arith, m, o, n)) }
