-- From how many pages on a pace fits, number after number.
use Rattle.std.proofs.Common.{◌≡◌, ℕ, ◌+◌, ◌<◌, ◌≤◌, ◌⊎◌, inl, inr, Option, Some, None, arith, subst}
use Rattle.std.specs.Option.{option_or}
use Rattle.std.proofs.lemmas.Bool.{cases_lt}

-- From this number on it holds of each below a limit, and not of the one before it; or it doesn't hold of the last.
abbrev pub HoldsFrom : (ℕ → Type 0) → ℕ → Option ℕ → Type 0
HoldsFrom Fits limit None = (pages : ℕ) → pages + 1 ≡ limit → 1 ≤ pages → Fits pages → ⊥
HoldsFrom Fits limit (Some from) = (1 ≤ from) × (from < limit) × ((pages : ℕ) → from ≤ pages → pages < limit → Fits pages) × ((pages : ℕ) → pages + 1 ≡ from → 1 ≤ pages → Fits pages → ⊥)

module _ (Fits : ℕ → Type 0) (limit : ℕ) where
  -- it holds of the next
  pub with_next : (from : Option ℕ) → HoldsFrom Fits limit from → 1 ≤ limit → Fits limit → HoldsFrom Fits (limit + 1) (option_or from (Some limit))
  with_next None holds some fits = (some, omega arith, (λ pages low high. subst Fits (omega (arith, low, high)) fits), holds)
  with_next (Some from) holds some fits = (holds.0, omega (arith, holds.1), (λ pages low high. by_size pages low (cases_lt pages limit) high), holds.3)
    where
      by_size : (pages : ℕ) → from ≤ pages → (pages < limit) ⊎ (limit ≤ pages) → pages < limit + 1 → Fits pages
      by_size pages low (inl less) high = holds.2 pages low less
      by_size pages low (inr more) high = subst Fits (omega (arith, more, high)) fits

  -- The next number doesn't fit.
  pub without_next : (Fits limit → ⊥) → HoldsFrom Fits (limit + 1) None
  without_next none = λ pages e some fits. none (subst Fits (omega (arith, e)) fits)
