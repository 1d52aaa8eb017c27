-- A front that goes up over intervals.
use Rattle.std.proofs.Common.{◌≡◌, ℕ, ◌+◌, ◌-◌, ◌<◌, ◌≤◌, List, ◌∷◌, arith}
use Rattle.quanta.specs.declared.interval.Interval.{Interval}
use Rattle.quanta.specs.Intervals.{IsRising}
use Rattle.mmu_report.specs.Covered.{covered}
use Rattle.mmu_report.proofs.Counting.{IsRisingFrom-earlier, covered-none}

-- A front has passed intervals with this many ticks, and others are ahead: together they have below each
-- place, from one on, `ticks` of that place.
pub record IsFront (ticks : ℕ → ℕ) (place passed : ℕ) (ahead : List Interval) : Type 0 where
  pub rising : IsRising ahead
  pub counts : (x : ℕ) → place ≤ x → passed + covered ahead x ≡ ticks x

-- it passes an interval that ends by then
pub IsFront-passed : (ticks : ℕ → ℕ) (place passed : ℕ) (i : Interval) (ahead : List Interval)
    → IsFront ticks place passed (i ∷ ahead) → i.end ≤ place → IsFront ticks place (passed + (i.end - i.start)) ahead
IsFront-passed ticks place passed i ahead h low = record {
  rising = IsRisingFrom-earlier 0 i.end ahead (omega arith) h.rising.2;
  counts = λ x later. omega (arith, h.rising.1, h.counts x later);
}

-- it stops before one that ends later, of which some ticks may lie below
pub covered-stopped : (place : ℕ) (i : Interval) (ahead : List Interval)
    → IsRising (i ∷ ahead) → place < i.end → covered (i ∷ ahead) place ≡ place - i.start
covered-stopped place i ahead h low =
    let none = covered-none place i.end ahead (omega arith) h.2 in
    omega (arith, none)
