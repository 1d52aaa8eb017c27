-- Lines of text, one after the other.
use Rattle.std.proofs.Common.{◌≡◌, ℕ, ◌+◌, List, [], ◌++◌, Result, Ok, Err, IfOk, String, Global, string_bytes, ap, ◌∙◌, sym, subst, refl, add-one, append_assoc}
use Rattle.std.proofs.lemmas.List.{append-nil}
use Rattle.std.specs.declared.alloc.AllocError.{AllocError}
use Rattle.inspector.specs.ClassLines.{class_lines}

pub no_lines : (line : ℕ → List ℕ) → class_lines line 0 ≡ []
unfolding class_lines
no_lines line = refl

pub next_line : (line : ℕ → List ℕ) (class : ℕ) → class_lines line (class + 1) ≡ class_lines line class ++ line class
unfolding class_lines
next_line line class = ap (class_lines line) (add-one class)

-- what holds of the bytes of a text, if there was memory for it
pub of_bytes : (r : Result (String Global) AllocError) (bytes : List ℕ) (Holds : List ℕ → Type 0) → IfOk r (λ text. string_bytes text ≡ bytes) → Holds bytes → IfOk r (λ text. Holds (string_bytes text))
of_bytes (Ok text) bytes Holds e holds = subst Holds (sym e) holds
of_bytes (Err why) bytes Holds e holds = tt

-- four texts, each the same as another
pub four_lines : (a b d e a1 b1 d1 e1 : List ℕ) → a ≡ a1 → b ≡ b1 → d ≡ d1 → e ≡ e1 → a ++ (b ++ (d ++ (e ++ []))) ≡ a1 ++ (b1 ++ (d1 ++ e1))
four_lines a b d e a1 b1 d1 e1 p q r s =
    ap (λ z. z ++ (b ++ (d ++ (e ++ [])))) p ∙ ap (λ z. a1 ++ (z ++ (d ++ (e ++ [])))) q ∙ ap (λ z. a1 ++ (b1 ++ (z ++ (e ++ [])))) r ∙ ap (λ z. a1 ++ (b1 ++ (d1 ++ z))) (append-nil e ∙ s)

-- Four texts join in turn, from the first one on.
pub four_in_turn : (a b d e a1 b1 d1 e1 : List ℕ) → a ≡ a1 → b ≡ b1 → d ≡ d1 → e ≡ e1 → a ++ (b ++ (d ++ (e ++ []))) ≡ ((a1 ++ b1) ++ d1) ++ e1
four_in_turn a b d e a1 b1 d1 e1 p q r s =
    four_lines a b d e a1 b1 d1 e1 p q r s ∙ sym (append_assoc (a1 ++ b1) d1 e1 ∙ append_assoc a1 b1 (d1 ++ e1))
