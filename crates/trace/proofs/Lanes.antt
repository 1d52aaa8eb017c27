-- The first LF among the bytes that are compared at once.
use Rattle.std.proofs.Common.{◌≡◌, ℕ, suc, ◌+◌, ◌*◌, ◌<◌, ◌≤◌, Bool, true, false, not, cond, eqb, List, [], ◌∷◌, map, length, get_or, Some, None, arith, sym, ◌∙◌, subst}
use Rattle.std.proofs.lemmas.Bool.{not-true, not-false}
use Rattle.std.proofs.lemmas.List.Sums.{prefix_len_passes, prefix_len_stops}
use Rattle.std.proofs.lemmas.Simd.{leading_from_mask_l, trailing_mask_l}
use Rattle.std.specs.List.{prefix_len}
use lib.Count.{count_trailing_zeros}
use lib.Lanes.{mask_l}
use Rattle.memchr.specs.Find.{IsFirstByte, is_byte}

-- the places of LF among bytes, as a mask
abbrev pub line_feeds : List ℕ → ℕ
line_feeds xs = mask_l (map (λ x. eqb x 10) xs)

-- how many bytes come before the first LF
abbrev before : List ℕ → ℕ
before xs = prefix_len (λ x. not (eqb x 10)) xs

-- no byte before the first LF is LF
passed : (xs : List ℕ) (k : ℕ) → k < before xs → eqb (get_or xs k 0) 10 ≡ true → ⊥
passed xs k low is =
    let not_here = not-true _ (prefix_len_passes (λ x. not (eqb x 10)) xs k 0 low) in
    cc

-- if the mask is empty, there is no LF
pub no_lane : (xs : List ℕ) → line_feeds xs ≡ 0 → IsFirstByte (is_byte 10) xs None
no_lane xs e k from to is = passed xs k (omega (arith, to, leading_from_mask_l (λ x. eqb x 10) xs e)) is

set_case : (b : Bool) (m k l : ℕ) → 0 < cond b 1 0 + 2 * m → (0 < m → k < l) → cond (not b) (1 + k) 0 < suc l
set_case true m k l some f = omega arith
set_case false m k l some f = omega (arith, f (omega arith))

-- if the mask isn't empty, fewer bytes come before the first LF than there are
some_lane : (xs : List ℕ) → 0 < line_feeds xs → before xs < length xs
some_lane [] some = absurd (omega arith)
some_lane (x ∷ xs) some = set_case (eqb x 10) (line_feeds xs) (before xs) (length xs) some (some_lane xs)

-- the lowest bit of the mask is the first
pub first_lane : (xs : List ℕ) (r : ℕ) → length xs ≤ 64 → 0 < line_feeds xs → r ≡ count_trailing_zeros 64 (line_feeds xs) → IsFirstByte (is_byte 10) xs (Some r)
first_lane xs r few some e =
    let stop : r ≡ before xs = e ∙ trailing_mask_l (λ x. eqb x 10) 64 xs few some in
    let inside = some_lane xs some in
    let here = not-false _ (prefix_len_stops (λ x. not (eqb x 10)) xs 0 inside) in (
      record { low = omega arith; high = omega (arith, stop, inside); before = λ k from to is. passed xs k (omega (arith, stop)) is },
      subst (λ k. eqb (get_or xs k 0) 10 ≡ true) (sym stop) here,
    )
