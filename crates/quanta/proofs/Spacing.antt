-- Intervals that are spaced.
use Rattle.std.proofs.Common.{◌≡◌, ℕ, ◌+◌, ◌≤◌, List, [], ◌∷◌, ◌++◌, Option, Some, arith}
use Rattle.std.specs.List.{last_or}
use Rattle.quanta.specs.declared.interval.Interval.{Interval}
use Rattle.quanta.specs.Intervals.{IsRisingFrom, IsSpacedFrom}
use Rattle.quanta.specs.Timetable.{start_after}

pub IsSpacedFrom-append : (c q : ℕ) (o : Option Interval) (is : List Interval) (i : Interval)
    → IsSpacedFrom c q (start_after q o) is → start_after q (last_or o is) ≤ i.start → i.end ≡ i.start + c
    → IsSpacedFrom c q (start_after q o) (is ++ i ∷ [])
IsSpacedFrom-append c q o [] i spaced behind long = (behind, long, tt)
IsSpacedFrom-append c q o (j ∷ js) i spaced behind long = (spaced.0, spaced.1, IsSpacedFrom-append c q (Some j) js i spaced.2 behind long)

pub IsRisingFrom-spaced : (c q tick from : ℕ) (is : List Interval) → tick ≤ from → IsSpacedFrom c q from is → IsRisingFrom tick is
IsRisingFrom-spaced c q tick from [] low spaced = tt
IsRisingFrom-spaced c q tick from (j ∷ js) low spaced =
    let later : tick ≤ j.start = omega (arith, spaced.0) in
    let long : j.start ≤ j.end = omega (arith, spaced.1) in
    let next : j.end ≤ j.end + q = omega arith in
    (later, long, IsRisingFrom-spaced c q j.end (j.end + q) js next spaced.2)
