use Rattle.std.proofs.Common.{◌≡◌, ℕ, ◌-◌, ◌<◌, List, ◌∷◌, arith, subst}
use Rattle.quanta.specs.declared.interval.Interval.{Interval}
use Rattle.quanta.specs.Intervals.{IsRising}
use Rattle.mmu_report.specs.Covered.{covered}
use Rattle.mmu_report.proofs.Fronts.{IsFront-passed, covered-stopped}
use Rattle.mmu_report.proofs.front.Front.covered_below.Goals as goal

stopped : (place : ℕ) (all : List Interval) (i : Interval) (ahead : List Interval) → all ≡ i ∷ ahead → IsRising all → place < i.end → covered all place ≡ place - i.start
stopped place all i ahead e h low = rw e (covered-stopped place i ahead (subst IsRising e h) low)

pub returns-then-place-first-clause-covered : goal.returns-then-place-first-clause-covered
returns-then-place-first-clause-covered c =
    let counts = c.loop-first.invariant.counts c.args.place (omega arith) in
    let here = stopped c.args.place c.loop-first.self.ahead.now c.in-Some.first.now c.in-Some.others.now c.in-Some.ensures.cases.0 c.loop-first.invariant.rising c.if-place-first.true in
    omega (arith, counts, here, c.saturating_sub.ensures)

pub loop-first-preserved : goal.loop-first-preserved
loop-first-preserved c =
    let h = rw c.in-Some.ensures.cases.0 at c.loop-first.invariant in
    IsFront-passed _ c.args.place c.loop-first.self.passed c.in-Some.first.now c.in-Some.others.now h c.if-place-first.false
