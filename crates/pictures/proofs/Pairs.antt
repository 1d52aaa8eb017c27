-- Samples that become one, two by two.
use Rattle.std.proofs.Common.{◌≡◌, ◌≤◌, ◌⊎◌, inl, inr, set, subst, arith, ℕ, ◌+◌, ◌*◌, ◌<◌, List, length, get_or, ◌∙◌, sym}
use Rattle.std.proofs.lemmas.List.{get_or-set_same, get_or-set_other}
use Rattle.pictures.specs.declared.sample.Sample.{Sample}
use Rattle.pictures.specs.Samples.{joined}

less_or_at : (a b : ℕ) → a < b + 1 → (a < b) ⊎ (a ≡ b)
less_or_at a b h = grind arith

-- one place more has a sample of two
pub pairs_on : (xs ys : List Sample) (n : ℕ) (v : Sample) → n < length xs → ((k : ℕ) (d : Sample) → k < n → get_or xs k d ≡ joined (get_or ys (2 * k) d) (get_or ys (2 * k + 1) d)) → ((d : Sample) → v ≡ joined (get_or ys (2 * n) d) (get_or ys (2 * n + 1) d))
    → (k : ℕ) (d : Sample) → k < n + 1 → get_or (set xs n v) k d ≡ joined (get_or ys (2 * k) d) (get_or ys (2 * k + 1) d)
pairs_on xs ys n v within before is k d l = elim (less_or_at k n l) [
  | inl less ↦ get_or-set_other xs n k v d (λ e. omega (arith, e, less)) ∙ before k d less
  | inr e ↦ subst (λ i. get_or (set xs n v) i d ≡ joined (get_or ys (2 * i) d) (get_or ys (2 * i + 1) d)) (sym e) (get_or-set_same xs n v d within ∙ is d)
]

-- and those behind it have their own
pub pairs_rest : (xs ys : List Sample) (n : ℕ) (v : Sample) → ((k : ℕ) (d : Sample) → n ≤ k → get_or xs k d ≡ get_or ys k d) → (k : ℕ) (d : Sample) → n + 1 ≤ k → get_or (set xs n v) k d ≡ get_or ys k d
pairs_rest xs ys n v rest k d l = get_or-set_other xs n k v d (λ e. omega (arith, e, l)) ∙ rest k d (omega (arith, l))
