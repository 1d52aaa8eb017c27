-- Pages that grow with the blocks that take them.
use Rattle.std.proofs.Common.{◌≡◌, ℕ, zero, suc, ◌+◌, ◌-◌, ◌*◌, ◌/◌, ◌<◌, ◌≤◌, ◌⊎◌, inl, inr, Bool, true, false, if◌then◌else◌, nat_lt, List, Option, ap, arith, refl}
use Rattle.std.proofs.lemmas.Nat.{le-div}
use Rattle.std.proofs.Math.Nat.{div-eq_of_lt, div-mul-le_self, lt-div-mul-add, mul-le-mul_right}
use Rattle.size_classes.specs.declared.class.TheConstants.{CLASSES}
use Rattle.size_classes.specs.Sizes.{blocks_in}
use Rattle.size_classes.proofs.Table.{blocks_some}
use Rattle.heap_model.specs.Pages.{Page, free_blocks, whole_pages, pages_needed}
use Rattle.space.specs.Space.{class_sum}
use Rattle.space.proofs.Counts.{class_sum_le, class_sum_both, zeros}
use Rattle.fragmentation.specs.Suffice.{gathered_pages, pages_of}

-- more blocks take no fewer pages
pub whole_more : (class m n : ℕ) → class < CLASSES → m ≤ n → whole_pages class m ≤ whole_pages class n
whole_more class m n small l =
    let some = blocks_some class small in
    let d = div-mul-le_self (m + (blocks_in class - 1)) (blocks_in class) in
    le-div (whole_pages class m) (n + (blocks_in class - 1)) (blocks_in class) some (omega (arith, d, l))

-- and no blocks none
pub whole_none : (class : ℕ) → class < CLASSES → whole_pages class 0 ≡ 0
whole_none class small = let some = blocks_some class small in div-eq_of_lt (omega (arith, some))

-- more blocks that were gathered take no fewer pages either
pub gathered_more : (class m n : ℕ) → class < CLASSES → m ≤ n → gathered_pages class m ≤ gathered_pages class n
gathered_more class m n small l = by_tests (nat_lt m (blocks_in class)) refl (nat_lt n (blocks_in class)) refl
  where
    w : whole_pages class m ≤ whole_pages class n
    w = whole_more class m n small l

    never : (m n b : ℕ) → m ≤ n → nat_lt m b ≡ false → nat_lt n b ≡ true → ⊥
    never m n b l x y = grind arith

    by_tests : (x : Bool) → nat_lt m (blocks_in class) ≡ x → (y : Bool) → nat_lt n (blocks_in class) ≡ y → (if x then whole_pages class m else whole_pages class m + 1) ≤ (if y then whole_pages class n else whole_pages class n + 1)
    by_tests true e true f = w
    by_tests true e false f = omega (arith, w)
    by_tests false e true f = absurd (never m n (blocks_in class) l e f)
    by_tests false e false f = omega (arith, w)

-- no fewer than whole pages
pub gathered_least : (class n : ℕ) → whole_pages class n ≤ gathered_pages class n
gathered_least class n = by_test (nat_lt n (blocks_in class))
  where
    by_test : (b : Bool) → whole_pages class n ≤ (if b then whole_pages class n else whole_pages class n + 1)
    by_test true = omega arith
    by_test false = omega arith

-- Blocks that fill a page take one page more.
pub gathered_enough : (class n : ℕ) → blocks_in class ≤ n → gathered_pages class n ≡ whole_pages class n + 1
gathered_enough class n l = ap (λ b. if b then whole_pages class n else whole_pages class n + 1) (not_less n (blocks_in class) l)
  where
    not_less : (a b : ℕ) → b ≤ a → nat_lt a b ≡ false
    not_less a b l = grind arith

-- the same of all classes
pub pages_more : (f g : ℕ → ℕ) → ((k : ℕ) → k < CLASSES → f k ≤ g k) → pages_of f ≤ pages_of g
pages_more f g e = class_sum_le _ _ CLASSES (λ k l. whole_more k (f k) (g k) l (e k l))

-- two numbers of blocks take no more pages together
pub whole_both : (b x y : ℕ) → 0 < b → (x + y + (b - 1)) / b ≤ (x + (b - 1)) / b + (y + (b - 1)) / b
whole_both b x y some =
    let p : x + (b - 1) < (x + (b - 1)) / b * b + b = lt-div-mul-add some in
    let q : y + (b - 1) < (y + (b - 1)) / b * b + b = lt-div-mul-add some in
    let r = div-mul-le_self (x + y + (b - 1)) b in
    within ((x + (b - 1)) / b) ((y + (b - 1)) / b) ((x + y + (b - 1)) / b) (omega (arith, p, some)) (omega (arith, q, some)) r
  where
    order : (a c : ℕ) → (a ≤ c) ⊎ (c + 1 ≤ a)
    order a c = grind arith

    within : (u v w : ℕ) → x ≤ u * b → y ≤ v * b → w * b ≤ x + y + (b - 1) → w ≤ u + v
    within u v w p q r = elim (order w (u + v)) [
      | inl l ↦ l
      | inr l ↦ absurd (
          let m = mul-le-mul_right b l in
          let d : (u + v + 1) * b ≡ u * b + v * b + b = omega arith in
          omega (arith, m, d, p, q, r, some))
    ]

-- two numbers of blocks of each class take no more pages together
pub pages_both : (f g : ℕ → ℕ) → pages_of (λ k. f k + g k) ≤ pages_of f + pages_of g
pages_both f g =
    let l = class_sum_le (λ k. whole_pages k (f k + g k)) (λ k. whole_pages k (f k) + whole_pages k (g k)) CLASSES (λ k l. whole_both (blocks_in k) (f k) (g k) (blocks_some k l)) in
    let e = class_sum_both (λ k. whole_pages k (f k)) (λ k. whole_pages k (g k)) CLASSES in
    omega (arith, l, e)

-- no blocks take no page
pub pages_none : pages_of (λ class. 0) ≡ 0
pages_none =
    let l = class_sum_le (λ k. whole_pages k 0) (λ k. 0) CLASSES (λ k l. (let h = whole_none k l in omega (arith, h))) in
    let z = zeros CLASSES in
    omega (arith, l, z)

-- the pages that are needed and others are no more than this many, if they are so for each class
pub needed_sums : (pages : List (Option Page)) (need others most : ℕ → ℕ) (n : ℕ) → ((k : ℕ) → k < n → whole_pages k (need k - free_blocks pages k) + others k ≤ most k) → pages_needed pages need n + class_sum others n ≤ class_sum most n
needed_sums pages need others most zero each = omega arith
needed_sums pages need others most (suc n) each = let r = needed_sums pages need others most n (λ k l. each k (omega (arith, l))) in let x = each n (omega arith) in omega (arith, r, x)
