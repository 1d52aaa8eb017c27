-- Lists of cells, by what each cell holds.
use Rattle.std.proofs.Common.{◌≡◌, ◌≢◌, ℕ, ◌<◌, List, map, length, set, get_or, ap, ◌∙◌, sym, inl, inr, arith, length-set, get_or-set_other}
use Rattle.std.specs.List.{range_with_len}
use Rattle.std.proofs.lemmas.Bool.{cases_eq}
use Rattle.std.proofs.lemmas.List.{get_or-set_same}
use Rattle.std.proofs.lemmas.List.FromFn.{length-map-range_with_len, get_or-map-range_with_len, fill_by_all}

pub row_at : (f : ℕ → ℕ) (n i : ℕ) → i < n → f i ≡ get_or (map f (range_with_len 0 n)) i 0
row_at f n i l = sym (get_or-map-range_with_len f 0 n i i 0 l (omega arith))

module _ (old new : ℕ → ℕ) (m n : ℕ) (same : n ≡ m) where
  abbrev row : List ℕ
  row = map old (range_with_len 0 m)

  at_old : (k : ℕ) → k < n → get_or row k 0 ≡ old k
  at_old k l = get_or-map-range_with_len old 0 m k k 0 (omega (arith, l, same)) (omega arith)

  -- no cell changes
  pub row_same : ((k : ℕ) → k < n → new k ≡ old k) → map new (range_with_len 0 n) ≡ row
  row_same each = sym (fill_by_all new row n 0 (length-map-range_with_len old 0 m ∙ sym same) (λ k l. at_old k l ∙ sym (each k l)))

  -- one cell changes
  pub row_set : (i v : ℕ) → i < n → new i ≡ v → ((k : ℕ) → k < n → k ≢ i → new k ≡ old k) → map new (range_with_len 0 n) ≡ set row i v
  row_set i v low here each =
      sym (fill_by_all new (set row i v) n 0 (length-set row i v ∙ length-map-range_with_len old 0 m ∙ sym same) (λ k l. elim (cases_eq k i) [
        | inl e ↦ (let below : i < length row = omega (arith, low, same, length-map-range_with_len old 0 m) in
            ap (λ j. get_or (set row i v) j 0) e ∙ get_or-set_same row i v 0 below ∙ sym here ∙ sym (ap new e))
        | inr ne ↦ get_or-set_other row i k v 0 ne ∙ at_old k l ∙ sym (each k l ne)
      ]))
