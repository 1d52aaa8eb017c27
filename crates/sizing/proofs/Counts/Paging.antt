-- Pages that grow with the blocks that take them.
use Rattle.std.proofs.Common.{◌≡◌, ℕ, zero, suc, ◌+◌, ◌-◌, ◌<◌, ◌≤◌, ◌==◌, inl, inr, Bool, true, false, if◌then◌else◌, nat_lt, max, min, List, arith, refl, ap, ◌∙◌, sym}
use Rattle.std.specs.Prelude.{slice_index}
use Rattle.std.proofs.lemmas.Bool.{cases_lt}
use Rattle.std.proofs.lemmas.Nat.{le-div}
use Rattle.size_classes.specs.declared.class.TheConstants.{CLASSES}
use Rattle.size_classes.specs.Sizes.{blocks_in}
use Rattle.size_classes.proofs.Table.{blocks_at, blocks_between, blocks_some}
use Rattle.heap_model.specs.Pages.{whole_pages}
use Rattle.space.specs.declared.pages.TheConstants.{MOST_BLOCKS}
use Rattle.space.specs.Space.{class_sum, class_pages}
use Rattle.space.proofs.Counts.{class_sum_le}
use Rattle.fragmentation.specs.Suffice.{gathered_pages, pages_of}
use Rattle.fragmentation.proofs.Suffice.Paging.{whole_more, whole_none, gathered_more, gathered_least}
use Rattle.sizing.specs.Counts.{MOST, TOO_MANY, AreBlocks, IsPages}
use Rattle.sizing.specs.Season.{pages_gathered}

-- blocks that were gathered and those made since take more pages if there are more
pub season_more : (a b f g : ℕ → ℕ) → ((k : ℕ) → k < CLASSES → a k ≤ b k) → ((k : ℕ) → k < CLASSES → f k ≤ g k) → pages_gathered a f ≤ pages_gathered b g
season_more a b f g h e = class_sum_le (λ k. gathered_pages k (a k) + whole_pages k (f k)) (λ k. gathered_pages k (b k) + whole_pages k (g k)) CLASSES (λ k l. (let x = gathered_more k (a k) (b k) l (h k l) in let y = whole_more k (f k) (g k) l (e k l) in omega (arith, x, y)))

-- the greater of two numbers of pages
pub are_pages_max : (a b x y : ℕ) → IsPages a x → IsPages b y → IsPages (max a b) (max x y)
are_pages_max a b x y e f = omega (arith, e, f)

pub max_so : (new x pages : ℕ) → new ≡ x → IsPages x pages → IsPages new pages
max_so new x pages e h = ap (λ k. min k TOO_MANY) e ∙ h

-- a class to which no page is spared
pub unspared : (class n : ℕ) → class < CLASSES → class_pages 0 class n ≡ whole_pages class n
unspared class n small = by (n == 0) refl
  where
    is : (b : Bool) → (n == 0) ≡ b → b ≡ true → n ≡ 0
    is b e t = zero_at n (e ∙ t)
      where
        zero_at : (k : ℕ) → (k == 0) ≡ true → k ≡ 0
        zero_at k h = grind arith

    by : (b : Bool) → (n == 0) ≡ b → (if b then 0 else whole_pages class n + 0) ≡ whole_pages class n
    by true e = sym (ap (whole_pages class) (is true e refl) ∙ whole_none class small)
    by false e = omega arith

-- a class to which a page is spared if its blocks fill one
pub gathered_spared : (class n spare : ℕ) → class < CLASSES → (nat_lt n (blocks_in class) ≡ true → spare ≡ 0) → (nat_lt n (blocks_in class) ≡ false → spare ≡ 1) → class_pages spare class n ≡ gathered_pages class n
gathered_spared class n spare small few full = by (nat_lt n (blocks_in class)) refl
  where
    some : (a b : ℕ) → 0 < b → nat_lt a b ≡ false → (a == 0) ≡ false
    some a b l e = grind arith

    by : (b : Bool) → nat_lt n (blocks_in class) ≡ b → class_pages spare class n ≡ (if b then whole_pages class n else whole_pages class n + 1)
    by true e = ap (λ z. class_pages z class n) (few e) ∙ unspared class n small
    by false e = ap (λ z. class_pages z class n) (full e) ∙ ap (λ b. if b then 0 else whole_pages class n + 1) (some n (blocks_in class) (blocks_some class small) e)

-- pages of more blocks than are counted are more than can be told
many_pages : (class n : ℕ) → class < CLASSES → MOST_BLOCKS ≤ n → TOO_MANY ≤ whole_pages class n
many_pages class n small l =
    let b = blocks_between class small in
    let e = blocks_at class small in
    le-div TOO_MANY (n + (blocks_in class - 1)) (blocks_in class) (omega (arith, b.0, e)) (omega (arith, b.1, e, l))

-- the pages of a class, for blocks that are counted up to the most
told : (class n allocated : ℕ) → class < CLASSES → allocated ≡ min n MOST → IsPages (whole_pages class (min allocated MOST_BLOCKS)) (whole_pages class n)
told class n allocated small e = elim (cases_lt MOST_BLOCKS n) [
  | inl more ↦ (
      let x = many_pages class (min allocated MOST_BLOCKS) small (omega (arith, e, more)) in
      let y = many_pages class n small (omega (arith, more)) in
      omega (arith, x, y)
      )
  | inr few ↦ ap (λ k. min (whole_pages class k) TOO_MANY) (omega (arith, e, few))
]

told_gathered : (class n allocated : ℕ) → class < CLASSES → allocated ≡ min n MOST → IsPages (gathered_pages class (min allocated MOST_BLOCKS)) (gathered_pages class n)
told_gathered class n allocated small e = elim (cases_lt MOST_BLOCKS n) [
  | inl more ↦ (
      let x = many_pages class (min allocated MOST_BLOCKS) small (omega (arith, e, more)) in
      let y = many_pages class n small (omega (arith, more)) in
      let u = gathered_least class (min allocated MOST_BLOCKS) in
      let v = gathered_least class n in
      omega (arith, x, y, u, v)
      )
  | inr few ↦ ap (λ k. min (gathered_pages class k) TOO_MANY) (omega (arith, e, few))
]

are_pages_sum : (a b x y : ℕ) → IsPages a x → IsPages b y → IsPages (a + b) (x + y)
are_pages_sum a b x y e f = omega (arith, e, f)

sums_told : (f g : ℕ → ℕ) (k : ℕ) → ((class : ℕ) → class < k → IsPages (f class) (g class)) → IsPages (class_sum f k) (class_sum g k)
sums_told f g zero each = refl
sums_told f g (suc k) each = are_pages_sum (class_sum f k) (f k) (class_sum g k) (g k) (sums_told f g k (λ class l. each class (omega (arith, l)))) (each k (omega arith))

pub counted_pages : (pages : ℕ) (allocated : List ℕ) (n : ℕ → ℕ) → AreBlocks allocated n → pages ≡ class_sum (λ class. whole_pages class (min (slice_index allocated class) MOST_BLOCKS)) CLASSES → IsPages pages (pages_of n)
counted_pages pages allocated n are e = ap (λ k. min k TOO_MANY) e ∙ sums_told (λ class. whole_pages class (min (slice_index allocated class) MOST_BLOCKS)) (λ class. whole_pages class (n class)) CLASSES (λ class l. told class (n class) (slice_index allocated class) l (are class l))

pub counted_gathered : (pages : ℕ) (before made : List ℕ) (b m : ℕ → ℕ) → AreBlocks before b → AreBlocks made m
    → pages ≡ class_sum (λ class. gathered_pages class (min (slice_index before class) MOST_BLOCKS) + whole_pages class (min (slice_index made class) MOST_BLOCKS)) CLASSES → IsPages pages (pages_gathered b m)
counted_gathered pages before made b m are_before are_made e =
    ap (λ k. min k TOO_MANY) e
    ∙ sums_told (λ class. gathered_pages class (min (slice_index before class) MOST_BLOCKS) + whole_pages class (min (slice_index made class) MOST_BLOCKS)) (λ class. gathered_pages class (b class) + whole_pages class (m class)) CLASSES
    (λ class l. are_pages_sum _ _ _ _ (told_gathered class (b class) (slice_index before class) l (are_before class l)) (told class (m class) (slice_index made class) l (are_made class l)))
