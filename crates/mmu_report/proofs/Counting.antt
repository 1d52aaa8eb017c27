-- The ticks that lie in intervals, and those that don't.
use Rattle.std.proofs.Common.{◌≡◌, ℕ, zero, suc, ◌+◌, ◌-◌, ◌<◌, ◌≤◌, ◌⊎◌, inl, inr, min, Bool, true, false, cond, ◌||◌, List, [], ◌∷◌, refl, sym, ap, subst, arith, add-zero}
use Rattle.std.specs.List.{list_any}
use Rattle.std.proofs.lemmas.Bool.{cases_lt}
use Rattle.std.proofs.lemmas.Bool.Decides.{nat_tests}
use Rattle.quanta.specs.declared.interval.Interval.{Interval}
use Rattle.quanta.specs.Intervals.{IsRising, IsRisingFrom}
use Rattle.mmu_report.specs.Covered.{covered}
use Rattle.mmu_report.specs.Utilisation.{has_tick, mutator_ticks}

pub IsRisingFrom-earlier : (a b : ℕ) (is : List Interval) → a ≤ b → IsRisingFrom b is → IsRisingFrom a is
IsRisingFrom-earlier a b [] low h = tt
IsRisingFrom-earlier a b (i ∷ is) low h = let first : a ≤ i.start = omega (arith, h.0) in (first, h.1, h.2)

-- no tick below the intervals lies in one
pub covered-none : (x from : ℕ) (is : List Interval) → x ≤ from → IsRisingFrom from is → covered is x ≡ 0
covered-none x from [] low h = refl
covered-none x from (i ∷ is) low h =
    let later : x ≤ i.end = omega (arith, h.0, h.1) in
    omega (arith, h.0, h.1, covered-none x i.end is later h.2)

pub covered-mono : (is : List Interval) (x y : ℕ) → x ≤ y → covered is x ≤ covered is y
covered-mono [] x y low = omega arith
covered-mono (i ∷ is) x y low = omega (arith, covered-mono is x y low)

pub covered-from : (from x : ℕ) (is : List Interval) → IsRisingFrom from is → covered is x ≤ x - from
covered-from from x [] h = omega arith
covered-from from x (i ∷ is) h = omega (arith, h.0, h.1, covered-from i.end x is h.2)

inside : (x : ℕ) (i : Interval) → i.start ≤ x → x < i.end → has_tick x i ≡ true
inside x i low high = grind (arith, nat_tests)

outside : (x : ℕ) (i : Interval) → (x < i.start) ⊎ (i.end ≤ x) → has_tick x i ≡ false
outside x i w = grind (arith, nat_tests)

step_inside : (b r : Bool) (o o' n n' : ℕ) → b ≡ true → o' ≡ o + 1 → n' ≡ n → o' + n' ≡ o + n + cond (b || r) 1 0
step_inside b r o o' n n' e f g = let P : Bool → Type 0 = λ b. o' + n' ≡ o + n + cond (b || r) 1 0 in subst P (sym e) (omega (arith, f, g))

step_outside : (b r : Bool) (o o' n n' : ℕ) → b ≡ false → o' ≡ o → n' ≡ n + cond r 1 0 → o' + n' ≡ o + n + cond (b || r) 1 0
step_outside b r o o' n n' e f g = let P : Bool → Type 0 = λ b. o' + n' ≡ o + n + cond (b || r) 1 0 in subst P (sym e) (omega (arith, f, g))

-- One tick more is covered or not.
pub covered-more : (x from : ℕ) (is : List Interval) → IsRisingFrom from is → covered is (x + 1) ≡ covered is x + cond (list_any (has_tick x) is) 1 0
covered-more x from [] h = refl
covered-more x from (i ∷ is) h =
    let more = covered-more x i.end is h.2 in
    elim (cases_lt x i.start) [
      | inl low ↦ step_outside (has_tick x i) (list_any (has_tick x) is) (min i.end x - i.start) (min i.end (x + 1) - i.start) (covered is x) (covered is (x + 1)) (outside x i (inl low)) (omega arith) more
      | inr from_start ↦ elim (cases_lt x i.end) [
        | inl within ↦ (let none = covered-none x i.end is (omega arith) h.2 in let none' = covered-none (x + 1) i.end is (omega arith) h.2 in
            step_inside (has_tick x i) (list_any (has_tick x) is) (min i.end x - i.start) (min i.end (x + 1) - i.start) (covered is x) (covered is (x + 1)) (inside x i from_start within) (omega arith) (omega (arith, none, none')))
        | inr behind ↦ step_outside (has_tick x i) (list_any (has_tick x) is) (min i.end x - i.start) (min i.end (x + 1) - i.start) (covered is x) (covered is (x + 1)) (outside x i (inr behind)) (omega arith) more
      ]
    ]

one_more : (b : Bool) (m n n' w v : ℕ) → m + n ≡ w + v → n' ≡ n + cond b 1 0 → m + cond b 0 1 + n' ≡ suc w + v
one_more true m n n' w v e f = omega (arith, e, f)
one_more false m n n' w v e f = omega (arith, e, f)

-- each tick of a window lies in an interval or in none
pub mutator_ticks-covered : (is : List Interval) (t w : ℕ) → IsRising is → mutator_ticks is t w + covered is (t + w) ≡ w + covered is t
unfolding mutator_ticks
mutator_ticks-covered is t zero h = ap (λ x. 0 + covered is x) (add-zero t)
mutator_ticks-covered is t (suc w) h =
    let at : t + w + 1 ≡ t + suc w = omega arith in
    let P : ℕ → Type 0 = λ x. mutator_ticks is t w + cond (list_any (has_tick (t + w)) is) 0 1 + covered is x ≡ suc w + covered is t in
    subst P at (one_more (list_any (has_tick (t + w)) is) (mutator_ticks is t w) (covered is (t + w)) (covered is (t + w + 1)) w (covered is t) (mutator_ticks-covered is t w h) (covered-more (t + w) 0 is h))

pub mutator_ticks-within : (is : List Interval) (t w : ℕ) → IsRising is → mutator_ticks is t w ≤ w
mutator_ticks-within is t w h = omega (arith, mutator_ticks-covered is t w h, covered-mono is t (t + w) (omega arith))

-- the mutators' ticks of the window that starts at 0
pub mutator_ticks-first : (is : List Interval) (w ended : ℕ) → IsRising is → ended ≡ covered is w → w - ended ≡ mutator_ticks is 0 w
mutator_ticks-first is w ended h e =
    let at : 0 + w ≡ w = omega arith in
    omega (arith, e, ap (covered is) at, mutator_ticks-covered is 0 w h, covered-none 0 0 is (omega arith) h)
