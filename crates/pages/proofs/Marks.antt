-- Marks of free blocks that are looked at together.
use Rattle.std.proofs.Common.{◌≡◌, ℕ, ◌+◌, ◌<◌, ◌≤◌, List, false, not, eqb, eq-eqb, Some, ap, ◌∙◌, inl, inr, subst, sym, arith}
use Rattle.std.specs.Prelude.{slice_get, ◌==◌}
use Rattle.std.specs.Int.Bits.{bit_and}
use Rattle.std.proofs.lemmas.Bool.{cases_eq, ne_eqb}
use Rattle.std.proofs.lemmas.Nat.{and_le_l, and_le_r}
use Rattle.pages.specs.FreeList.{free_mark, flags_of, AreFree}

-- if the bits of both are looked at as one, and all are set, all are in each
pub in_both : (a b : ℕ) → free_mark ≤ bit_and a b → (free_mark ≤ a) × (free_mark ≤ b)
in_both a b all = (let l = and_le_l a b in omega (arith, all, l), let r = and_le_r a b in omega (arith, all, r))

-- what isn't told from the mark is no less
pub is_mark : (mark : ℕ) → not (eqb mark 18446744073709551615) ≡ false → free_mark ≤ mark
unfolding free_mark
is_mark mark same = elim (cases_eq mark 18446744073709551615) [
  | inl e ↦ omega (arith, e)
  | inr ne ↦ absurd (let n = ap not (ne_eqb mark 18446744073709551615 ne) in cc)
]

-- The range of free blocks is empty at first.
pub none_yet : (words : List ℕ) (at class from : ℕ) → AreFree words at class from from
none_yet words at class from = λ k low high. absurd (omega (arith, low, high))

-- one more block is free
pub one_more : (words : List ℕ) (at class from end next mark : ℕ) → next ≡ end + 1 → slice_get (flags_of words at class) end ≡ Some (not (mark == free_mark))
    → mark < 18446744073709551616 → free_mark ≤ mark → AreFree words at class from end → AreFree words at class from next
unfolding free_mark
one_more words at class from end next mark follows flag short high free = λ k low below. elim (cases_eq k end) [
  | inl e ↦ let is : mark ≡ 18446744073709551615 = omega (arith, short, high) in
      subst (λ n. slice_get (flags_of words at class) n ≡ Some false) (sym e) (flag ∙ ap (λ b. Some (not b)) (eq-eqb mark 18446744073709551615 is))
  | inr ne ↦ free k low (omega (arith, below, ne, follows))
]
