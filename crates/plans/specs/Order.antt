-- Numbers of pages in rising order, each once.
use Rattle.std.specs.Prelude.{ℕ, ◌<◌, ◌≤◌, ◌⊎◌, List, [], ◌∷◌, Option, Some, None}
use Rattle.std.specs.List.{All, AllZip, Contains}
use Rattle.size_classes.specs.declared.config.TheConstants.{MOST_HEAP_PAGES}

-- the least of some numbers above a bound, of those that a heap may have as its pages; or there is none
abbrev pub IsNext : List ℕ → ℕ → Option ℕ → Type 0
IsNext numbers above None = All (λ p. (p ≤ above) ⊎ (MOST_HEAP_PAGES < p)) numbers
IsNext numbers above (Some next) = Contains numbers next × (above < next) × (next ≤ MOST_HEAP_PAGES)
    × All (λ p. (p ≤ above) ⊎ (next ≤ p)) numbers

-- those of some numbers above a bound that a heap may have, in rising order, each once
abbrev pub AreInOrder : List ℕ → ℕ → List ℕ → Type 0
AreInOrder numbers above [] = IsNext numbers above None
AreInOrder numbers above (next ∷ rest) = IsNext numbers above (Some next) × AreInOrder numbers next rest

-- items that are one for each of some numbers of pages that a heap may have, in rising order, each once
pub record OneForEach {A : Type 0} (IsOf : ℕ → A → Type 0) (numbers : List ℕ) (items : List A) : Type 0 where
  pub shown : List ℕ
  pub in_order : AreInOrder numbers 0 shown
  pub each : AllZip IsOf shown items
