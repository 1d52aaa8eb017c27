-- Counts that stop at the greatest number that can be allocated.
use Rattle.std.proofs.Common.{◌≡◌, ℕ, ◌+◌, ◌<◌, ◌≤◌, ◌⊎◌, inl, inr, zero, suc, replicate, set, get_or, length, List, min, max, arith, refl, ap, ◌∙◌, sym, subst}
use Rattle.std.specs.Prelude.{slice_index}
use Rattle.std.proofs.lemmas.List.{get_or-set_same, get_or-set_other}
use Rattle.size_classes.specs.declared.class.TheConstants.{CLASSES}
use Rattle.sizing.specs.Counts.{MOST, AreBlocks}

sum_at : (m a b x y z : ℕ) → x ≡ min a m → y ≡ min b m → z ≡ min (x + y) m → z ≡ min (a + b) m
sum_at m a b x y z e f g = omega arith

max_at : (m a b x y z : ℕ) → x ≡ min a m → y ≡ min b m → z ≡ max x y → z ≡ min (max a b) m
max_at m a b x y z e f g = omega arith

pub are_sum : (allocated more new : List ℕ) (a b : ℕ → ℕ) → AreBlocks allocated a → AreBlocks more b → ((class : ℕ) → class < CLASSES → slice_index new class ≡ min (slice_index allocated class + slice_index more class) MOST) → AreBlocks new (λ class. a class + b class)
are_sum allocated more new a b v w e = λ class l. sum_at MOST (a class) (b class) (slice_index allocated class) (slice_index more class) (slice_index new class) (v class l) (w class l) (e class l)

pub are_max : (allocated more new : List ℕ) (a b : ℕ → ℕ) → AreBlocks allocated a → AreBlocks more b → ((class : ℕ) → class < CLASSES → slice_index new class ≡ max (slice_index allocated class) (slice_index more class)) → AreBlocks new (λ class. max (a class) (b class))
are_max allocated more new a b v w e = λ class l. max_at MOST (a class) (b class) (slice_index allocated class) (slice_index more class) (slice_index new class) (v class l) (w class l) (e class l)

-- the same numbers
pub are_same : (allocated : List ℕ) (a b : ℕ → ℕ) → ((class : ℕ) → class < CLASSES → b class ≡ a class) → AreBlocks allocated a → AreBlocks allocated b
are_same allocated a b same v = λ class l. v class l ∙ ap (λ n. min n MOST) (sym (same class l))

pub high_at : (m n x limit : ℕ) → x ≡ min n m → limit ≤ x → limit ≤ n
high_at m n x limit e l = omega arith

none_at : (n class zero_number : ℕ) → zero_number ≡ 0 → get_or (replicate n zero_number) class 0 ≡ zero_number
none_at zero class z e = sym e
none_at (suc n) zero z e = refl
none_at (suc n) (suc class) z e = none_at n class z e

pub none_of : (n class : ℕ) → get_or (replicate n zero) class zero ≡ zero
none_of n class = none_at n class zero refl

-- one number more is written
pub one_more : (xs ys : List ℕ) (n v : ℕ) → n < length xs → ((k : ℕ) → k < n → get_or xs k 0 ≡ get_or ys k 0) → v ≡ get_or ys n 0 → (k : ℕ) → k < n + 1 → get_or (set xs n v) k 0 ≡ get_or ys k 0
one_more xs ys n v within before is k l = elim (less_or k n l) [
  | inl less ↦ get_or-set_other xs n k v 0 (λ e. omega (arith, e, less)) ∙ before k less
  | inr e ↦ subst (λ i. get_or (set xs n v) i 0 ≡ get_or ys i 0) (sym e) (get_or-set_same xs n v 0 within ∙ is)
]
  where
    less_or : (a b : ℕ) → a < b + 1 → (a < b) ⊎ (a ≡ b)
    less_or a b h = grind arith

pub equal_at : (m n x limit : ℕ) → x ≡ min n m → limit ≤ m → x < limit → n ≡ x
equal_at m n x limit e l h = omega arith
