-- Texts one behind the other.
use Rattle.std.proofs.Common.{◌≡◌, ℕ, List, ◌∷◌, ap₂, refl}
use Rattle.pictures.specs.Data.{lengths_text}

-- one text, and those behind it
pub behind : {a b : List ℕ} {s t : List (List ℕ)} → a ≡ b → s ≡ t → a ∷ s ≡ b ∷ t
behind e f = ap₂ (λ (x : List ℕ) (xs : List (List ℕ)). x ∷ xs) e f

-- lengths that are the same
pub lengths_same : (lines : ℕ) {a b d e p q r t : ℕ} → a ≡ p → b ≡ q → d ≡ r → e ≡ t → lengths_text lines a b d e ≡ lengths_text lines p q r t
lengths_same lines i j k l = rw (i, j, k, l) refl
