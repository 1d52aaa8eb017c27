-- Lists of intervals.
use Rattle.std.specs.Prelude.{◌≡◌, ℕ, ◌+◌, ◌≤◌, List, [], ◌∷◌}
use Rattle.quanta.specs.declared.interval.Interval.{Interval}

-- in rising order without overlap, and none before a tick
abbrev pub IsRisingFrom : ℕ → List Interval → Type 0
IsRisingFrom tick [] = Unit {0}
IsRisingFrom tick (i ∷ is) = (tick ≤ i.start) × (i.start ≤ i.end) × IsRisingFrom i.end is

-- in rising order without overlap
abbrev pub IsRising : List Interval → Type 0
IsRising intervals = IsRisingFrom 0 intervals

-- each of c ticks, the first not before a tick, and each other at least q after the end of the one before
abbrev pub IsSpacedFrom : ℕ → ℕ → ℕ → List Interval → Type 0
IsSpacedFrom c q tick [] = Unit {0}
IsSpacedFrom c q tick (i ∷ is) = (tick ≤ i.start) × (i.end ≡ i.start + c) × IsSpacedFrom c q (i.end + q) is

-- in rising order, each of c ticks, and each at least q after the end of the one before
abbrev pub IsSpaced : ℕ → ℕ → List Interval → Type 0
IsSpaced c q intervals = IsSpacedFrom c q 0 intervals
