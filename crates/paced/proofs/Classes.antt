-- How many size classes are counted.
use Rattle.std.proofs.Common.{◌≡◌, ℕ, ◌+◌, ◌≤◌, Bool, true, false, if◌then◌else◌, ap, add-one, arith}
use Rattle.space.specs.Space.{class_sum}

-- so many of the first classes are made
abbrev pub IsCount : (ℕ → Bool) → ℕ → ℕ → Type 0
IsCount makes number count = (count ≡ class_sum (λ k. if makes k then 1 else 0) number) × (count ≤ number)

abbrev ones : Bool → ℕ
ones b = if b then 1 else 0

sum_more : (makes : ℕ → Bool) (number : ℕ) → class_sum (λ k. ones (makes k)) (number + 1) ≡ class_sum (λ k. ones (makes k)) number + ones (makes number)
sum_more makes number = ap (class_sum (λ k. ones (makes k))) (add-one number)

-- one class more
pub one_more : (makes : ℕ → Bool) (count number new : ℕ) (b : Bool) → IsCount makes number count → b ≡ makes number → new ≡ count + ones b → IsCount makes (number + 1) new
one_more makes count number new true i is more =
    let z : ones true ≡ ones (makes number) = ap ones is in
    let s = sum_more makes number in
    (omega (arith, i.0, more, z, s), omega (arith, i.1, more))
one_more makes count number new false i is more =
    let z : ones false ≡ ones (makes number) = ap ones is in
    let s = sum_more makes number in
    (omega (arith, i.0, more, z, s), omega (arith, i.1, more))
