-- Intervals that are spaced, over whole periods.
use Rattle.std.proofs.Common.{◌≡◌, ℕ, zero, suc, ◌+◌, ◌-◌, ◌*◌, ◌/◌, ◌%◌, ◌<◌, ◌≤◌, inl, inr, min, List, [], ◌∷◌, length, get_or, Any, sym, ap, subst, arith}
use Rattle.std.proofs.Math.Nat.{mul-le-mul_left}
use Rattle.std.proofs.lemmas.Bool.{cases_lt}
use Rattle.quanta.specs.declared.interval.Interval.{Interval}
use Rattle.quanta.specs.Intervals.{IsRising, IsSpaced, IsSpacedFrom}
use Rattle.quanta.proofs.Spacing.{IsRisingFrom-spaced}
use Rattle.mmu_report.specs.Covered.{covered}
use Rattle.mmu_report.specs.Utilisation.{bound_of, mutator_ticks}
use Rattle.mmu_report.proofs.Counting.{covered-from, covered-mono, mutator_ticks-covered}

-- a period has no more ticks in intervals than one interval has
pub covered-period : (c q from x : ℕ) (is : List Interval) → IsSpacedFrom c q from is → covered is (x + (q + c)) ≤ covered is x + c
covered-period c q from x [] h = omega arith
covered-period c q from x (i ∷ is) h =
    let long : i.end ≡ i.start + c = h.1 in
    elim (cases_lt x i.end) [
      | inl within ↦ (let later = covered-from (i.end + q) (x + (q + c)) is (IsRisingFrom-spaced c q (i.end + q) (i.end + q) is (omega arith) h.2) in omega (arith, long, later))
      | inr behind ↦ omega (arith, long, covered-period c q (i.end + q) x is h.2)
    ]

pub covered-periods : (c q x k : ℕ) (is : List Interval) → IsSpaced c q is → covered is (x + k * (q + c)) ≤ covered is x + k * c
covered-periods c q x zero is h =
    let at : x ≡ x + zero * (q + c) = omega arith in
    let P : ℕ → Type 0 = λ y. covered is y ≤ covered is x + zero * c in
    subst P at (omega arith)
covered-periods c q x (suc k) is h =
    let at : x + k * (q + c) + (q + c) ≡ x + suc k * (q + c) = omega arith in
    let P : ℕ → Type 0 = λ y. covered is y ≤ covered is x + suc k * c in
    subst P at (omega (arith, covered-periods c q x k is h, covered-period c q 0 (x + k * (q + c)) is h))

rising : (c q : ℕ) (is : List Interval) → IsSpaced c q is → IsRising is
rising c q is h = IsRisingFrom-spaced c q 0 0 is (omega arith) h

-- k whole periods and r ticks more
kept_at : (c q k r t : ℕ) (is : List Interval) → IsSpaced c q is → r ≤ q + c → q * k + (r - c) ≤ mutator_ticks is t (k * (q + c) + r)
kept_at c q k r t is h short =
    let whole = covered-periods c q t k is h in
    let part = covered-period c q 0 (t + k * (q + c)) is h in
    let within = covered-mono is (t + k * (q + c) + r) (t + k * (q + c) + (q + c)) (omega arith) in
    let count = mutator_ticks-covered is t (k * (q + c) + r) (rising c q is h) in
    let count' = mutator_ticks-covered is (t + k * (q + c)) r (rising c q is h) in
    let at : t + (k * (q + c) + r) ≡ t + k * (q + c) + r = omega arith in
    let same = ap (covered is) at in
    omega (arith, whole, part, within, count, count', same)

-- the bound, of a window of k whole periods and r ticks more
bound_at : (c q window : ℕ) → 0 < c + q → bound_of c q window ≡ q * (window / (q + c)) + (window % (q + c) - c)
bound_at c q window some = omega arith

pub bound_kept : (c q t window : ℕ) (is : List Interval) → 0 < c + q → IsSpaced c q is → bound_of c q window ≤ mutator_ticks is t window
bound_kept c q t window is some h =
    let k = window / (q + c) in
    let r = window % (q + c) in
    let parts : k * (q + c) + r ≡ window = omega arith in
    let P : ℕ → Type 0 = λ w. q * k + (r - c) ≤ mutator_ticks is t w in
    let kept : q * k + (r - c) ≤ mutator_ticks is t window = subst P parts (kept_at c q k r t is h (omega arith)) in
    omega (arith, bound_at c q window some, kept)

-- an interval's ticks lie behind its start
pub covered-start : (is : List Interval) (k : ℕ) (i : Interval) (d : ℕ) → k < length is → get_or is k i ≡ i → covered is i.start + min d (i.end - i.start) ≤ covered is (i.start + d)
covered-start [] k i d low at = absurd (omega arith)
covered-start (j ∷ is) zero i d low at =
    let P : Interval → Type 0 = λ i. covered (j ∷ is) i.start + min d (i.end - i.start) ≤ covered (j ∷ is) (i.start + d) in
    subst P at (omega (arith, covered-mono is j.start (j.start + d) (omega arith)))
covered-start (j ∷ is) (suc k) i d low at = omega (arith, covered-start is k i d (omega arith) at)

spaced_length : (c q from : ℕ) (is : List Interval) (k : ℕ) (i : Interval) → IsSpacedFrom c q from is → k < length is → get_or is k i ≡ i → i.end ≡ i.start + c
spaced_length c q from [] k i h low at = absurd (omega arith)
spaced_length c q from (j ∷ is) zero i h low at = let P : Interval → Type 0 = λ i. i.end ≡ i.start + c in subst P at h.1
spaced_length c q from (j ∷ is) (suc k) i h low at = spaced_length c q (j.end + q) is k i h.2 (omega arith) at

-- where an interval starts
covered-begun : (c q x d : ℕ) (is : List Interval) → IsSpaced c q is → Any (λ i. i.start ≡ x) is → covered is x + min d c ≤ covered is (x + d)
covered-begun c q x d is h (k, i, low, at, e) =
    let long = spaced_length c q 0 is k i h low at in
    let P : ℕ → Type 0 = λ x. covered is x + min d c ≤ covered is (x + d) in
    subst P e (omega (arith, long, covered-start is k i d low at))

-- as many periods as begin with an interval
covered-begins : (c q s k : ℕ) (is : List Interval) → IsSpaced c q is → ((j : ℕ) → j < k → Any (λ i. i.start ≡ s + j * (c + q)) is) → covered is s + k * c ≤ covered is (s + k * (c + q))
covered-begins c q s zero is h starts =
    let at : s ≡ s + zero * (c + q) = omega arith in
    let P : ℕ → Type 0 = λ y. covered is s + zero * c ≤ covered is y in
    subst P at (omega arith)
covered-begins c q s (suc k) is h starts =
    let at : s + k * (c + q) + (c + q) ≡ s + suc k * (c + q) = omega arith in
    let P : ℕ → Type 0 = λ y. covered is s + suc k * c ≤ covered is y in
    let before = covered-begins c q s k is h (λ j low. starts j (omega arith)) in
    subst P at (omega (arith, before, covered-begun c q (s + k * (c + q)) (c + q) is h (starts k (omega arith))))

earlier_period : (j k p r : ℕ) → j < k → 0 < p → j * p < k * p + r
earlier_period j k p r low some = let next : j + 1 ≤ k = omega arith in omega (arith, mul-le-mul_left p next)

-- k whole periods and r ticks more, each period begun with an interval
met_at : (c q k r s : ℕ) (is : List Interval) → 0 < c + q → IsSpaced c q is → ((j : ℕ) → s + j * (c + q) < s + (k * (c + q) + r) → Any (λ i. i.start ≡ s + j * (c + q)) is)
    → mutator_ticks is s (k * (c + q) + r) ≤ q * k + (r - c)
met_at c q k r s is some h starts =
    let count = mutator_ticks-covered is s (k * (c + q) + r) (rising c q is h) in
    let whole = covered-begins c q s k is h (λ j low. starts j (omega (arith, earlier_period j k (c + q) r low some))) in
    let at : s + (k * (c + q) + r) ≡ s + k * (c + q) + r = omega arith in
    let same = ap (covered is) at in
    elim (cases_lt 0 r) [
      | inl more ↦ omega (arith, count, whole, same, covered-begun c q (s + k * (c + q)) r is h (starts k (omega arith)))
      | inr none ↦ omega (arith, count, whole, same, covered-mono is (s + k * (c + q)) (s + k * (c + q) + r) (omega arith))
    ]

pub bound_met : (c q s window : ℕ) (is : List Interval) → 0 < c + q → IsSpaced c q is → ((j : ℕ) → s + j * (c + q) < s + window → Any (λ i. i.start ≡ s + j * (c + q)) is)
    → mutator_ticks is s window ≤ bound_of c q window
bound_met c q s window is some h starts =
    let k = window / (q + c) in
    let r = window % (q + c) in
    let parts : window ≡ k * (c + q) + r = omega arith in
    let P : ℕ → Type 0 = λ w. mutator_ticks is s w ≤ q * k + (r - c) in
    let met : mutator_ticks is s window ≤ q * k + (r - c) = subst P (sym parts) (met_at c q k r s is some h (λ j low. starts j (omega arith))) in
    omega (arith, bound_at c q window some, met)
