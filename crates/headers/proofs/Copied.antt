-- A block copied to another place.
use Rattle.std.proofs.Common.{◌≡◌, ℕ, ◌+◌, ◌-◌, ◌≤◌, ◌⊎◌, List, ◌++◌, length, take, drop, ap, ◌∙◌, arith, subst, sym}
use Rattle.std.proofs.lemmas.Grind.{common_steps}
use Rattle.heap_model.specs.Block.{words_at, record_at, record_in, spliced}
use Rattle.headers.proofs.Fields.{length-words_at}
use Rattle.headers.proofs.Fresh.{words_at-spliced, words_at-spliced_other, length-spliced}

none_after : (xs ys : List ℕ) (n : ℕ) → n ≡ 0 → xs ++ take n ys ≡ xs
none_after xs ys n e = grind (arith, common_steps)

copied_words : (words others : List ℕ) (to size : ℕ) → length others ≡ size → to + size ≤ length words → words_at (spliced words to others) to size ≡ others
copied_words words others to size e h =
    words_at-spliced words others to size (omega arith) (omega arith) ∙ none_after others (drop (to + length others) words) (size - length others) (omega arith)

module _ (words : List ℕ) (from to size : ℕ) (source : from + size ≤ length words) (target : to + size ≤ length words) where
  pub copied_here : record_at (spliced words to (words_at words from size)) to size ≡ record_at words from size
  copied_here = ap record_in (copied_words words (words_at words from size) to size (length-words_at words from size source) target)

  fits : to + length (words_at words from size) ≤ length words
  fits = omega (arith, length-words_at words from size source, target)

  pub copied_length : length (spliced words to (words_at words from size)) ≡ length words
  copied_length = length-spliced words (words_at words from size) to fits

  pub copied_others : (b t : ℕ) → (b + t ≤ to) ⊎ (to + size ≤ b) → record_at (spliced words to (words_at words from size)) b t ≡ record_at words b t
  copied_others b t apart =
      ap record_in (words_at-spliced_other words (words_at words from size) to b t fits
      (subst (λ n. (b + t ≤ to) ⊎ (to + n ≤ b)) (sym (length-words_at words from size source)) apart))
