-- The least number above a bound, as numbers come.
use Rattle.std.proofs.Common.{◌≡◌, ℕ, ◌<◌, ◌≤◌, ◌⊎◌, inl, inr, List, [], ◌∷◌, ◌++◌, Option, Some, None, min, subst, arith}
use Rattle.std.specs.List.{Contains}
use Rattle.std.proofs.lemmas.List.Elements.{All-push, All-weaker, Contains-append_left, Contains-push}
use Rattle.size_classes.specs.declared.config.TheConstants.{MOST_HEAP_PAGES}
use Rattle.plans.specs.Order.{IsNext}

-- one more number that isn't above the bound, or that no heap may have
pub next_kept : (numbers : List ℕ) (above : ℕ) (next : Option ℕ) (p : ℕ) → (p ≤ above) ⊎ (MOST_HEAP_PAGES < p) → IsNext numbers above next → IsNext (numbers ++ p ∷ []) above next
next_kept numbers above None p off is = All-push (λ x. (x ≤ above) ⊎ (MOST_HEAP_PAGES < x)) numbers p is off
next_kept numbers above (Some n) p off is = (Contains-append_left numbers (p ∷ []) n is.0, is.1, is.2, All-push (λ x. (x ≤ above) ⊎ (n ≤ x)) numbers p is.3 (by_off off))
  where
    by_off : (p ≤ above) ⊎ (MOST_HEAP_PAGES < p) → (p ≤ above) ⊎ (n ≤ p)
    by_off (inl low) = inl low
    by_off (inr high) = inr (let m = is.2 in omega (arith, high, m))

-- One number more is looked at.
pub next_nearest : (numbers : List ℕ) (above n p : ℕ) → above < p → p ≤ MOST_HEAP_PAGES → IsNext numbers above (Some n) → IsNext (numbers ++ p ∷ []) above (Some (min n p))
next_nearest numbers above n p low high is = (
  by_min (le_or n p),
  omega (arith, low, is.1),
  omega (arith, high),
  All-push (λ x. (x ≤ above) ⊎ (min n p ≤ x)) numbers p (All-weaker (λ x. (x ≤ above) ⊎ (n ≤ x)) (λ x. (x ≤ above) ⊎ (min n p ≤ x)) weaker numbers is.3) (inr (omega arith)),
)
  where
    le_or : (a b : ℕ) → (a ≤ b) ⊎ (b < a)
    le_or a b = grind arith

    by_min : (n ≤ p) ⊎ (p < n) → Contains (numbers ++ p ∷ []) (min n p)
    by_min (inl l) = let e : n ≡ min n p = omega (arith, l) in subst (Contains (numbers ++ p ∷ [])) e (Contains-append_left numbers (p ∷ []) n is.0)
    by_min (inr l) = let e : p ≡ min n p = omega (arith, l) in subst (Contains (numbers ++ p ∷ [])) e (Contains-push numbers p)

    weaker : (x : ℕ) → (x ≤ above) ⊎ (n ≤ x) → (x ≤ above) ⊎ (min n p ≤ x)
    weaker x (inl l) = inl l
    weaker x (inr h) = inr (omega (arith, h))
