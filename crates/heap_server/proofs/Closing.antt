-- The place word and the seats once all have come back.
use Rattle.std.proofs.Common.{◌≡◌, ◌≢◌, ℕ, zero, suc, ◌+◌, ◌≤◌, ◌⊎◌, inl, inr, List, [], ◌∷◌, Bool, true, false, length, slice_index_or, refl, arith}
use Rattle.std.specs.Prelude.{nat_eq, if◌then◌else◌, IsPermutation, All}
use Rattle.std.specs.List.{sum_by}
use Rattle.std.proofs.lemmas.List.Sums.{sum_by-append, sum_by-cons}
use Rattle.std.proofs.lemmas.List.Elements.{All-nil, All-cons, All-head, All-tail}
use Rattle.std.proofs.lemmas.List.Sorted.{sum_by-IsPermutation, length_permutation}
use Rattle.std.proofs.lemmas.Bool.Decides.{nat_tests}
use mathlib.Core.List.{IsPrefix}
use Rattle.graph_heap.specs.declared.command.Entry.{Entry}
use Rattle.graph_heap.specs.Merge.{mine_from, mine, upto}
use Rattle.graph_heap.proofs.Merge.{upto-length, mine_grows}
use Rattle.heap_server.specs.Views.{SeatView}
use Rattle.heap_server.specs.Seats.{mutators_of}
use Rattle.heap_server.specs.Seen.{OneBegins, WasTold, IsKnown, EachKnown}
use Rattle.heap_server.proofs.Counting.{mutators-length}
use Rattle.heap_server.proofs.Fronts.{prefix_trans, prefix_shorter}

-- 1 if the two are the same
abbrev hits : ℕ → ℕ → ℕ
hits x m = if nat_eq x m then 1 else 0

hits_off : (x m : ℕ) → x ≢ m → hits x m ≡ 0
hits_off x m off = grind (arith, nat_tests)

hits_most : (x m : ℕ) → hits x m ≤ 1
hits_most x m = elim (nat_eq x m) as (λ (b : Bool). (if b then 1 else 0) ≤ 1) [ true ↦ omega arith | false ↦ omega arith ]

hits_none : (x n : ℕ) → n ≤ x → sum_by (hits x) (upto n) ≡ 0
hits_none x zero le = refl
hits_none x (suc n) le =
    omega (arith, sum_by-append (hits x) (upto n) (n ∷ []), sum_by-cons (hits x) n [], hits_none x n (omega arith), hits_off x n (λ e. omega arith))

-- x is n, or elsewhere
abbrev pub Apart : ℕ → ℕ → Type 0
Apart x n = (n ≤ x) ⊎ (x ≢ n)

either_way : (x n : ℕ) → Apart x n
either_way x n = grind (arith, nat_tests)

hits_split : (x n : ℕ) → sum_by (hits x) (upto n) ≤ 1 → Apart x n → sum_by (hits x) (upto (suc n)) ≤ 1
hits_split x n le (inl above) = omega (arith, sum_by-append (hits x) (upto n) (n ∷ []), sum_by-cons (hits x) n [], hits_none x n above, hits_most x n)
hits_split x n le (inr off) = omega (arith, sum_by-append (hits x) (upto n) (n ∷ []), sum_by-cons (hits x) n [], hits_off x n off)

hits_once : (x n : ℕ) → sum_by (hits x) (upto n) ≤ 1
hits_once x zero = omega arith
hits_once x (suc n) = hits_split x n (hits_once x n) (either_way x n)

mine_cons : (e : Entry) (h : List Entry) (k m : ℕ) → length (mine_from k (e ∷ h) m) ≡ hits e.mutator m + length (mine_from (k + 1) h m)
mine_cons e h k m =
    elim (nat_eq e.mutator m) as (λ (b : Bool). length (if b then (k, e) ∷ mine_from (k + 1) h m else mine_from (k + 1) h m) ≡ (if b then 1 else 0) + length (mine_from (k + 1) h m)) [ true ↦ omega arith | false ↦ omega arith ]

mine_sum : (e : Entry) (h : List Entry) (k : ℕ) (ms : List ℕ) → sum_by (λ m. length (mine_from k (e ∷ h) m)) ms ≡ sum_by (hits e.mutator) ms + sum_by (λ m. length (mine_from (k + 1) h m)) ms
mine_sum e h k [] = refl
mine_sum e h k (m ∷ ms) = omega (arith, mine_sum e h k ms, mine_cons e h k m, sum_by-cons (λ j. length (mine_from k (e ∷ h) j)) m ms, sum_by-cons (hits e.mutator) m ms, sum_by-cons (λ j. length (mine_from (k + 1) h j)) m ms)

mine_zero : (k : ℕ) (ms : List ℕ) → sum_by (λ m. length (mine_from k [] m)) ms ≡ 0
mine_zero k [] = refl
mine_zero k (m ∷ ms) = omega (arith, mine_zero k ms, sum_by-cons (λ j. length (mine_from k [] j)) m ms)

spread_from : (h : List Entry) (k n : ℕ) → sum_by (λ m. length (mine_from k h m)) (upto n) ≤ length h
spread_from [] k n = omega (arith, mine_zero k (upto n))
spread_from (e ∷ h) k n = omega (arith, mine_sum e h k (upto n), hits_once e.mutator n, spread_from h (k + 1) n)

-- no entry is of two mutators
pub spread : (h : List Entry) (n : ℕ) → sum_by (λ m. length (mine h m)) (upto n) ≤ length h
spread h n = spread_from h 0 n

by_mutators : (h : List Entry) (ss : List SeatView) → sum_by (λ s. length (mine h s.mutator)) ss ≡ sum_by (λ m. length (mine h m)) (mutators_of ss)
by_mutators h [] = refl
by_mutators h (s ∷ ss) = omega (arith, by_mutators h ss, sum_by-cons (λ (t : SeatView). length (mine h t.mutator)) s ss, sum_by-cons (λ m. length (mine h m)) s.mutator (mutators_of ss))

each_most : (ss : List SeatView) (h : List Entry) → All (IsKnown h) ss → sum_by (λ s. s.calls) ss ≤ sum_by (λ s. length (mine h s.mutator)) ss
each_most [] h each = omega arith
each_most (s ∷ ss) h each =
    let one = All-head (IsKnown h) s ss each in
    omega (arith, each_most ss h (All-tail (IsKnown h) s ss each), one.calls, mine_grows s.seen h s.mutator one.begins, sum_by-cons (λ (t : SeatView). length (mine h t.mutator)) s ss, sum_by-cons (λ (t : SeatView). t.calls) s ss)

each_told : (ss : List SeatView) (h : List Entry) → All (IsKnown h) ss → sum_by (λ s. length (mine h s.mutator)) ss ≤ sum_by (λ s. s.calls) ss → All (WasTold h) ss
each_told [] h each le = All-nil (WasTold h)
each_told (s ∷ ss) h each le =
    let one = All-head (IsKnown h) s ss each in
    let more = All-tail (IsKnown h) s ss each in
    let rest = each_most ss h more in
    let here = mine_grows s.seen h s.mutator one.begins in
    let own = one.calls in
    let first = sum_by-cons (λ (t : SeatView). length (mine h t.mutator)) s ss in
    let second = sum_by-cons (λ (t : SeatView). t.calls) s ss in
    All-cons (WasTold h) s ss (record { begins = one.begins; calls = omega (arith, own, rest, here, first, second, le) }) (each_told ss h more (omega (arith, own, rest, here, first, second, le)))

-- if as many calls were counted as the history has, it has just these
pub counted_told : (ss : List SeatView) (h : List Entry) (n : ℕ) → All (IsKnown h) ss → IsPermutation (mutators_of ss) (upto n) → length h ≡ sum_by (λ s. s.calls) ss → All (WasTold h) ss
counted_told ss h n each all counted =
    each_told ss h each (omega (arith, by_mutators h ss, sum_by-IsPermutation (λ m. length (mine h m)) (mutators_of ss) (upto n) all, spread h n))

pub known_all : (ss : List SeatView) (log : List Entry) → EachKnown log ss → All (IsKnown log) ss
known_all [] log each = All-nil (IsKnown log)
known_all (s ∷ ss) log each = All-cons (IsKnown log) s ss each.0 (known_all ss log each.1)

pub each_grows : (ss : List SeatView) (xs ys : List Entry) → IsPrefix xs ys → EachKnown xs ss → EachKnown ys ss
each_grows [] xs ys p each = tt
each_grows (s ∷ ss) xs ys p each = (record { begins = prefix_trans s.seen xs ys each.0.begins p; calls = each.0.calls }, each_grows ss xs ys p each.1)

pub known_grows : (ss : List SeatView) (xs ys : List Entry) → IsPrefix xs ys → All (IsKnown xs) ss → All (IsKnown ys) ss
known_grows ss xs ys p each i d lt = let one = each i d lt in record { begins = prefix_trans (slice_index_or ss i d).seen xs ys one.begins p; calls = one.calls }

pub all_seen : (ss : List SeatView) (log : List Entry) → All (IsKnown log) ss → All (λ s. IsPrefix s.seen log) ss
all_seen ss log each i d lt = (each i d lt).begins

-- one of two beginnings of a list begins the other
one_begins : (xs ys zs : List Entry) → IsPrefix xs zs → IsPrefix ys zs → (length xs ≤ length ys) ⊎ (length ys ≤ length xs) → IsPrefix xs ys ⊎ IsPrefix ys xs
one_begins xs ys zs p q (inl le) = inl (prefix_shorter xs ys zs p q le)
one_begins xs ys zs p q (inr le) = inr (prefix_shorter ys xs zs q p le)

either_longer : (n m : ℕ) → (n ≤ m) ⊎ (m ≤ n)
either_longer n m = grind arith

pub each_begins : (ss : List SeatView) (h log : List Entry) → IsPrefix h log → All (IsKnown log) ss → All (λ s. OneBegins h s.seen) ss
each_begins ss h log p each i d lt =
    let seen = (slice_index_or ss i d).seen in one_begins seen h log (each i d lt).begins p (either_longer (length seen) (length h))

-- how many seats there are, in whatever order
pub seats_in : (ss : List SeatView) (n : ℕ) → IsPermutation (mutators_of ss) (upto n) → length ss ≡ n
seats_in ss n all = omega (arith, mutators-length ss, length_permutation (mutators_of ss) (upto n) all, upto-length n)
