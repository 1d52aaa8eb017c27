use Rattle.std.proofs.Common.{refl, arith}
use Rattle.trace.proofs.Fronts.{row_none, row_narrow, row_small, row_more}
use Rattle.trace.proofs.field.front_digits.Goals as goal

pub loop-at-init : goal.loop-at-init
loop-at-init c = (omega arith, row_none c.args.bytes.now)

pub returns-in_default-clause-end : goal.returns-in_default-clause-end
returns-in_default-clause-end c = λ _. c.in_default.ensures.none refl

pub returns-in_default-clause-small : goal.returns-in_default-clause-small
returns-in_default-clause-small c = row_narrow c.args.bytes.now c.loop-at.n c.loop-at.at c.loop-at.invariant.1

pub returns-clause-small : goal.returns-clause-small
returns-clause-small c = row_narrow c.args.bytes.now c.loop-at.n c.loop-at.at c.loop-at.invariant.1

pub overflow_mul-n : goal.overflow_mul-n
overflow_mul-n c = omega (arith, row_small c.args.bytes.now c.loop-at.n c.loop-at.at c.loop-at.invariant.1 (omega (arith, c.loop-at-test.true)))

pub overflow_add-n : goal.overflow_add-n
overflow_add-n c =
    let d = c.in-Some.ensures.some in
    omega (arith, row_small c.args.bytes.now c.loop-at.n c.loop-at.at c.loop-at.invariant.1 (omega (arith, c.loop-at-test.true)), d.value, d.high)

pub loop-at-preserved : goal.loop-at-preserved
loop-at-preserved c =
    let d = c.in-Some.ensures.some in
    (omega (arith, c.loop-at-test.true), row_more c.args.bytes.now c.loop-at.n c.loop-at.at _ c.loop-at.invariant.1 d.within d.low d.high (omega (arith, d.value)))
