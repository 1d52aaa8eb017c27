-- Pieces of text that are put one behind the other.
use Rattle.std.proofs.Common.{◌≡◌, ℕ, List, ◌++◌, ap, ◌∙◌, sym, append_assoc}

-- a piece, a second, a third with a number, and a last one
pub four : (r c d e : List ℕ) {a t1 t2 t3 t4 : List ℕ} → t1 ≡ a → t2 ≡ t1 ++ r → t3 ≡ t2 ++ (c ++ d) → t4 ≡ t3 ++ e → t4 ≡ a ++ r ++ c ++ d ++ e
four r c d e {a} {t1} {t2} first second third last =
    last ∙ ap (λ t. t ++ e) (third ∙ sym (append_assoc t2 c d) ∙ ap (λ t. t ++ c ++ d) (second ∙ ap (λ t. t ++ r) first))
