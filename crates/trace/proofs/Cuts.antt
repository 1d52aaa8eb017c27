-- Parts of lists.
use Rattle.std.proofs.Common.{◌≡◌, ℕ, suc, ◌+◌, ◌-◌, ◌≤◌, ◌<◌, List, ◌∷◌, ◌++◌, length, take, drop, get_or, arith, length-drop, drop-cons, add-one, ap, ◌∙◌, sym}
use Rattle.std.proofs.Math.Seq.{take-add}
use Rattle.std.proofs.lemmas.List.{take_all, take-append-drop}

-- a range to the end
pub rest_of : (xs : List ℕ) (k : ℕ) → take (length xs - k) (drop k xs) ≡ drop k xs
rest_of xs k = take_all (length xs - k) (drop k xs) (omega (arith, length-drop k xs))

-- a beginning that is the whole list
pub whole : (n : ℕ) (xs : List ℕ) → length xs ≤ n → take n xs ≡ xs
whole n xs h = take_all n xs h

-- the bytes before a byte, and those after it
pub parted : (byte : ℕ) (bytes : List ℕ) (i : ℕ) → i < length bytes → get_or bytes i 0 ≡ byte → bytes ≡ take i bytes ++ byte ∷ drop (i + 1) bytes
parted byte bytes i h here =
    sym (take-append-drop i bytes)
    ∙ ap (λ l. take i bytes ++ l) (drop-cons bytes i 0 h ∙ ap (λ b. b ∷ drop (suc i) bytes) here ∙ ap (λ n. byte ∷ drop n bytes) (sym (add-one i)))

-- the first bytes, and the next ones after them
pub goes_on : (at n : ℕ) (bytes : List ℕ) → take at bytes ++ take n (take (length bytes - at) (drop at bytes)) ≡ take (at + n) bytes
goes_on at n bytes = ap (λ l. take at bytes ++ take n l) (rest_of bytes at) ∙ sym (take-add at n bytes)
