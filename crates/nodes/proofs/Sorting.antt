-- Numbers in rising order.
use Rattle.std.proofs.Common.{◌≡◌, ℕ, suc, ◌<◌, ◌≤◌, Bool, true, false, ◌==◌, ◌||◌, if◌then◌else◌, List, [], ◌∷◌, ◌++◌, length, refl, ap, sym, ◌∙◌, arith}
use Rattle.std.specs.Prelude.{nat_le}
use Rattle.heap_model.specs.Collector.{contains, Once}
use Rattle.nodes.specs.Grey.{inserted, sorted}

-- a number is put somewhere among the others
pub inserted_between : (x : ℕ) (xs : List ℕ) → (front : List ℕ) × (back : List ℕ) × (xs ≡ front ++ back) × (inserted x xs ≡ front ++ x ∷ back)
unfolding inserted
inserted_between x [] = ([], [], refl, refl)
inserted_between x (y ∷ ys) = by_order (nat_le x y) (inserted_between x ys)
  where
    by_order : (b : Bool) → (front : List ℕ) × (back : List ℕ) × (ys ≡ front ++ back) × (inserted x ys ≡ front ++ x ∷ back) → (front : List ℕ) × (back : List ℕ) × (y ∷ ys ≡ front ++ back) × ((if b then x ∷ y ∷ ys else y ∷ inserted x ys) ≡ front ++ x ∷ back)
    by_order true q = ([], y ∷ ys, refl, refl)
    by_order false q = (y ∷ q.0, q.1, ap (λ zs. y ∷ zs) q.2, ap (λ zs. y ∷ zs) q.3)

-- in whichever order two are put in
pub inserted_both : (x y : ℕ) (zs : List ℕ) → inserted x (inserted y zs) ≡ inserted y (inserted x zs)
unfolding inserted
inserted_both x y [] = by_order (nat_le x y) (nat_le y x) refl refl
  where
    by_order : (b c : Bool) → nat_le x y ≡ b → nat_le y x ≡ c → (if nat_le x y then x ∷ y ∷ [] else y ∷ x ∷ []) ≡ (if nat_le y x then y ∷ x ∷ [] else x ∷ y ∷ [])
    by_order true true e f = let q : x ≡ y = (let l : x ≤ y = grind (arith, e) in let m : y ≤ x = grind (arith, f) in omega arith) in rw e (rw f (ap (λ k. x ∷ k ∷ []) (sym q) ∙ ap (λ k. k ∷ x ∷ []) q))
    by_order true false e f = rw e (rw f refl)
    by_order false true e f = rw e (rw f refl)
    by_order false false e f = absurd (let l : y < x = grind (arith, e) in let m : x < y = grind (arith, f) in omega arith)
inserted_both x y (z ∷ zs) = by_order (nat_le x z) (nat_le y z) (nat_le x y) (nat_le y x) refl refl refl refl (inserted_both x y zs)
  where
    by_order : (xz yz xy yx : Bool) → nat_le x z ≡ xz → nat_le y z ≡ yz → nat_le x y ≡ xy → nat_le y x ≡ yx → inserted x (inserted y zs) ≡ inserted y (inserted x zs) → inserted x (if nat_le y z then y ∷ z ∷ zs else z ∷ inserted y zs) ≡ inserted y (if nat_le x z then x ∷ z ∷ zs else z ∷ inserted x zs)
    by_order true true true true a b c d again = let q : x ≡ y = (let l : x ≤ y = grind (arith, c) in let m : y ≤ x = grind (arith, d) in omega arith) in ap (λ k. inserted k (inserted y (z ∷ zs))) q ∙ ap (λ k. inserted y (inserted k (z ∷ zs))) (sym q)
    by_order true true true false a b c d again = rw a (rw b (rw c (rw d refl)))
    by_order true true false true a b c d again = rw a (rw b (rw c (rw d (rw a refl))))
    by_order true true false false a b c d again = absurd (let l : y < x = grind (arith, c) in let m : x < y = grind (arith, d) in omega arith)
    by_order true false xy true a b c d again = absurd (let l : x ≤ z = grind (arith, a) in let m : z < y = grind (arith, b) in let n : y ≤ x = grind (arith, d) in omega arith)
    by_order true false xy false a b c d again = rw a (rw b (rw d (rw a refl)))
    by_order false true true yx a b c d again = absurd (let l : z < x = grind (arith, a) in let m : y ≤ z = grind (arith, b) in let n : x ≤ y = grind (arith, c) in omega arith)
    by_order false true false yx a b c d again = rw a (rw b (rw c (rw a refl)))
    by_order false false xy yx a b c d again = rw a (rw b (rw a (ap (λ ks. z ∷ ks) again)))

-- a number among others may as well be put in last
pub sorted_middle : (front back : List ℕ) (x : ℕ) → sorted (front ++ x ∷ back) ≡ inserted x (sorted (front ++ back))
unfolding sorted
sorted_middle [] back x = refl
sorted_middle (y ∷ front) back x = ap (inserted y) (sorted_middle front back x) ∙ inserted_both y x (sorted (front ++ back))

pub length-inserted : (x : ℕ) (xs : List ℕ) → length (inserted x xs) ≡ suc (length xs)
unfolding inserted
length-inserted x [] = refl
length-inserted x (y ∷ ys) = by_order (nat_le x y) (length-inserted x ys)
  where
    by_order : (b : Bool) → length (inserted x ys) ≡ suc (length ys) → length (if b then x ∷ y ∷ ys else y ∷ inserted x ys) ≡ suc (suc (length ys))
    by_order true e = refl
    by_order false e = ap suc e

pub length-sorted : (xs : List ℕ) → length (sorted xs) ≡ length xs
unfolding sorted
length-sorted [] = refl
length-sorted (x ∷ xs) = length-inserted x (sorted xs) ∙ ap suc (length-sorted xs)

pub contains-inserted : (x : ℕ) (xs : List ℕ) (k : ℕ) → contains (inserted x xs) k ≡ ((x == k) || contains xs k)
unfolding inserted contains
contains-inserted x [] k = refl
contains-inserted x (y ∷ ys) k = by_order (nat_le x y) (contains-inserted x ys k)
  where
    swapped : (a b c : Bool) → (a || (b || c)) ≡ (b || (a || c))
    swapped true true c = refl
    swapped true false c = refl
    swapped false b c = refl

    by_order : (b : Bool) → contains (inserted x ys) k ≡ ((x == k) || contains ys k) → contains (if b then x ∷ y ∷ ys else y ∷ inserted x ys) k ≡ ((x == k) || ((y == k) || contains ys k))
    by_order true e = refl
    by_order false e = ap (λ c. (y == k) || c) e ∙ swapped (y == k) (x == k) (contains ys k)

pub contains-sorted : (xs : List ℕ) (k : ℕ) → contains (sorted xs) k ≡ contains xs k
unfolding sorted contains
contains-sorted [] k = refl
contains-sorted (x ∷ xs) k = contains-inserted x (sorted xs) k ∙ ap (λ c. (x == k) || c) (contains-sorted xs k)

-- what is put in once wasn't there
pub once-inserted : (x : ℕ) (xs : List ℕ) → Once (inserted x xs) → contains xs x ≡ false
unfolding inserted contains Once
once-inserted x [] o = refl
once-inserted x (y ∷ ys) o = by_order (nat_le x y) (λ p. once-inserted x ys p) o
  where
    not_first : (b : Bool) → contains (inserted x ys) y ≡ false → (y == x) ≡ b → b ≡ false
    not_first false e z = refl
    not_first true e z = absurd (let q : x ≡ y = grind (arith, z) in let t : contains (inserted x ys) y ≡ true = contains-inserted x ys y ∙ (let r : (x == y) ≡ true = grind (arith, q) in rw r refl) in let c : false ≡ true = sym e ∙ t in cc)

    by_order : (b : Bool) → (Once (inserted x ys) → contains ys x ≡ false) → Once (if b then x ∷ y ∷ ys else y ∷ inserted x ys) → ((y == x) || contains ys x) ≡ false
    by_order true rest o = o.0
    by_order false rest o = rw (not_first (y == x) o.0 refl) (rest o.1)
