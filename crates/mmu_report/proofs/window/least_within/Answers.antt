use Rattle.std.proofs.Common.{◌≡◌, ℕ, ◌+◌, ◌-◌, List, inl, inr, arith, ap}
use Rattle.quanta.specs.declared.interval.Interval.{Interval}
use Rattle.mmu_report.specs.Covered.{covered}
use Rattle.mmu_report.specs.Utilisation.{mutator_ticks}
use Rattle.mmu_report.proofs.Counting.{covered-from, mutator_ticks-first, mutator_ticks-within}
use Rattle.mmu_report.proofs.Windows.{IsLeast-passed, IsSettled-none}
use Rattle.mmu_report.proofs.Sweeps.{at_index, IsLeast-swept, IsOver, IsSwept-next, IsTried-last, IsTried-next, passed-next}
use Rattle.mmu_report.proofs.window.least_within.Goals as goal
use Rattle.mmu_report.proofs.window.least_within.Goals.{else-loop-interval-test, then-loop-interval-test+then-last-interval}

-- The search is at the start.

first_is : (all ahead : List Interval) (passed x ended : ℕ) → ahead ≡ all → passed ≡ 0 → ended ≡ passed + covered ahead x → ended ≡ covered all x
first_is all ahead passed x ended e none is = omega (arith, is, none, ap (λ l. covered l x) e)

pub covered_below-requires-clause-fits : goal.covered_below-requires-clause-fits
covered_below-requires-clause-fits c =
    let few = covered-from 0 c.args.window c.args.intervals.now c.requires.rising in
    rw c.new-ends.ensures.ahead (omega (arith, few, c.new-ends.ensures.passed))

pub overflow_sub-least : goal.overflow_sub-least
overflow_sub-least c =
    let is = first_is _ _ _ c.args.window c.covered_below.result c.new-ends.ensures.ahead c.new-ends.ensures.passed c.covered_below.ensures.covered in
    omega (arith, is, covered-from 0 c.args.window c.args.intervals.now c.requires.rising)

pub loop-interval-init : goal.loop-interval-init
loop-interval-init c =
    let is = first_is _ _ _ c.args.window c.covered_below.result c.new-ends.ensures.ahead c.new-ends.ensures.passed c.covered_below.ensures.covered in
    record {
      rising = c.requires.rising;
      settled = IsSettled-none c.args.intervals.now c.args.last c.args.window _ c.requires.rising (mutator_ticks-first c.args.intervals.now c.args.window c.covered_below.result c.requires.rising is);
      front = record {
        rising = c.covered_below.ensures.rising;
        counts = λ x low. first_is _ _ _ x _ c.new-ends.ensures.ahead c.new-ends.ensures.passed (c.covered_below.ensures.later x (omega arith));
      };
    }

-- The search is at an interval.

pub covered_below-requires-in-loop-interval-clause-fits : goal.covered_below-requires-in-loop-interval-clause-fits
covered_below-requires-in-loop-interval-clause-fits c =
    let tried = IsTried-next c.loop-interval.invariant c.loop-interval-test.true in
    omega (arith, tried.fits, c.if-last-interval.false, c.requires.fits)

pub overflow_sub-window : goal.overflow_sub-window
overflow_sub-window c =
    let tried = IsTried-next c.loop-interval.invariant c.loop-interval-test.true in
    omega (arith, tried.part, c.covered_below-in-loop-interval.ensures.covered)

pub overflow_add-covered : goal.overflow_add-covered
overflow_add-covered c = omega (arith, passed-next c.loop-interval.invariant c.loop-interval-test.true)

pub loop-interval-preserved : goal.loop-interval-preserved
loop-interval-preserved c =
    let start = (at_index c.args.intervals.now c.loop-interval.interval-index).start in
    let ended = c.covered_below-in-loop-interval in
    let tried = IsTried-next c.loop-interval.invariant c.loop-interval-test.true in
    let ticks : c.args.window - (ended.result - c.loop-interval.covered) ≡ mutator_ticks c.args.intervals.now start c.args.window = omega (arith, tried.ticks, ended.ensures.covered) in
    rw c.min-least.ensures (IsSwept-next _ c.loop-interval.invariant c.loop-interval-test.true c.if-last-interval.false ticks ended.ensures.rising ended.ensures.later)

-- The search is at the end.

pub covered_below-requires-then-reached-last-clause-fits : goal.covered_below-requires-then-reached-last-clause-fits
covered_below-requires-then-reached-last-clause-fits c =
    let over : IsOver c.args.intervals.now c.args.last c.loop-interval.interval-index = elim c.loop-interval-test.branch [
      | else-loop-interval-test w ↦ inl w.loop-interval-test.false
      | then-loop-interval-test+then-last-interval w ↦ inr (w.loop-interval-test.true, w.if-last-interval.true)
    ] in
    let tried = IsTried-last c.loop-interval.invariant c.if-reached-last.true over in
    omega (arith, tried.fits, c.requires.fits)

pub overflow_sub-window-then-reached-last : goal.overflow_sub-window-then-reached-last
overflow_sub-window-then-reached-last c =
    let over : IsOver c.args.intervals.now c.args.last c.loop-interval.interval-index = elim c.loop-interval-test.branch [
      | else-loop-interval-test w ↦ inl w.loop-interval-test.false
      | then-loop-interval-test+then-last-interval w ↦ inr (w.loop-interval-test.true, w.if-last-interval.true)
    ] in
    let tried = IsTried-last c.loop-interval.invariant c.if-reached-last.true over in
    omega (arith, tried.part, c.covered_below-then-reached-last.ensures.covered)

pub returns-then-reached-last-clause-least : goal.returns-then-reached-last-clause-least
returns-then-reached-last-clause-least c =
    let ended = c.covered_below-then-reached-last in
    let over : IsOver c.args.intervals.now c.args.last c.loop-interval.interval-index = elim c.loop-interval-test.branch [
      | else-loop-interval-test w ↦ inl w.loop-interval-test.false
      | then-loop-interval-test+then-last-interval w ↦ inr (w.loop-interval-test.true, w.if-last-interval.true)
    ] in
    let tried = IsTried-last c.loop-interval.invariant c.if-reached-last.true over in
    let ticks : c.args.window - (ended.result - c.loop-interval.covered) ≡ mutator_ticks c.args.intervals.now c.args.last c.args.window = omega (arith, tried.ticks, ended.ensures.covered) in
    rw c.min-least-then-reached-last.ensures (IsLeast-swept _ c.loop-interval.invariant c.if-reached-last.true over ticks)

pub returns-else-reached-last-clause-least : goal.returns-else-reached-last-clause-least
returns-else-reached-last-clause-least c = IsLeast-passed c.loop-interval.invariant.settled c.if-reached-last.false

pub returns-else-reached-last-clause-part : goal.returns-else-reached-last-clause-part
returns-else-reached-last-clause-part c =
    let s = c.loop-interval.invariant.settled in
    omega (arith, s.attained.2, mutator_ticks-within c.args.intervals.now s.attained.0 c.args.window c.requires.rising)
