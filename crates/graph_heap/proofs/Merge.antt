-- The entries of one mutator in a history; and the numbers below another.
use Rattle.std.proofs.Common.{◌≡◌, ℕ, zero, suc, ◌+◌, ◌<◌, ◌≤◌, ◌⊎◌, inl, inr, List, [], ◌∷◌, ◌++◌, Bool, true, false, length, slice_index_or, refl, sym, ap, ◌∙◌, arith, length-append}
use Rattle.std.specs.Prelude.{nat_eq, if◌then◌else◌}
use Rattle.std.proofs.lemmas.Bool.Decides.{nat_tests}
use mathlib.Core.List.{IsPrefix}
use Rattle.graph_heap.specs.declared.command.Entry.{Entry}
use Rattle.graph_heap.specs.Merge.{mine_from, mine, upto}

mine_later : (xs ys : List Entry) (m k : ℕ) → mine_from k (xs ++ ys) m ≡ mine_from k xs m ++ mine_from (k + length xs) ys m
mine_later [] ys m k = ap (λ (n : ℕ). mine_from n ys m) (omega arith)
mine_later (e ∷ xs) ys m k =
    let n : k + 1 + length xs ≡ k + suc (length xs) = omega arith in
    let rest : mine_from (k + 1) (xs ++ ys) m ≡ mine_from (k + 1) xs m ++ mine_from (k + suc (length xs)) ys m = mine_later xs ys m (k + 1) ∙ ap (λ (j : ℕ). mine_from (k + 1) xs m ++ mine_from j ys m) n in
    elim (nat_eq e.mutator m) as (λ (b : Bool). (if b then (k, e) ∷ mine_from (k + 1) (xs ++ ys) m else mine_from (k + 1) (xs ++ ys) m) ≡ (if b then (k, e) ∷ mine_from (k + 1) xs m else mine_from (k + 1) xs m) ++ mine_from (k + suc (length xs)) ys m) [ true ↦ ap (λ (w : List (ℕ × Entry)). (k, e) ∷ w) rest | false ↦ rest ]

pub mine_append : (xs ys : List Entry) (m : ℕ) → mine (xs ++ ys) m ≡ mine xs m ++ mine_from (length xs) ys m
mine_append xs ys m = mine_later xs ys m 0 ∙ ap (λ (n : ℕ). mine xs m ++ mine_from n ys m) (omega arith)

pub mine_own : (e : Entry) (m k : ℕ) → e.mutator ≡ m → mine_from k (e ∷ []) m ≡ (k, e) ∷ []
mine_own e m k same = grind (arith, nat_tests)

pub mine_grows : (xs ys : List Entry) (m : ℕ) → IsPrefix xs ys → length (mine xs m) ≤ length (mine ys m)
mine_grows xs ys m p = omega (arith, ap length (sym (ap (λ (w : List Entry). mine w m) p.1) ∙ mine_append xs p.0 m), length-append (mine xs m) (mine_from (length xs) p.0 m))

pub mine_more : (xs : List Entry) (e : Entry) (m : ℕ) → e.mutator ≡ m → length (mine (xs ++ e ∷ []) m) ≡ length (mine xs m) + 1
mine_more xs e m same = omega (arith, ap length (mine_append xs (e ∷ []) m), length-append (mine xs m) (mine_from (length xs) (e ∷ []) m), ap length (mine_own e m (length xs) same))

pub upto-length : (n : ℕ) → length (upto n) ≡ n
upto-length zero = refl
upto-length (suc n) = omega (arith, upto-length n, length-append (upto n) (n ∷ []))

get_front : (xs ys : List ℕ) (i : ℕ) → i < length xs → slice_index_or (xs ++ ys) i 0 ≡ slice_index_or xs i 0
get_front [] ys i le = absurd (omega arith)
get_front (x ∷ xs) ys zero le = refl
get_front (x ∷ xs) ys (suc i) le = get_front xs ys i (omega arith)

get_end : (xs : List ℕ) (x i : ℕ) → i ≡ length xs → slice_index_or (xs ++ x ∷ []) i 0 ≡ x
get_end [] x zero e = refl
get_end [] x (suc i) e = absurd (omega arith)
get_end (y ∷ xs) x zero e = absurd (omega arith)
get_end (y ∷ xs) x (suc i) e = get_end xs x i (omega arith)

-- i is the last, or before it
abbrev pub AtEnd : ℕ → ℕ → Type 0
AtEnd n i = (i ≡ n) ⊎ (i < n)

split : (n i : ℕ) → i < suc n → AtEnd n i
split n i le = grind arith

upto_step : (n i : ℕ) → (i < n → slice_index_or (upto n) i 0 ≡ i) → AtEnd n i → slice_index_or (upto (suc n)) i 0 ≡ i
upto_step n i rec (inl e) = get_end (upto n) n i (omega (arith, upto-length n, e)) ∙ sym e
upto_step n i rec (inr lt) = get_front (upto n) (n ∷ []) i (omega (arith, upto-length n, lt)) ∙ rec lt

pub upto_at : (n i : ℕ) → i < n → slice_index_or (upto n) i 0 ≡ i
upto_at zero i le = absurd (omega arith)
upto_at (suc n) i le = upto_step n i (λ lt. upto_at n i lt) (split n i le)
