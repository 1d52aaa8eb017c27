use Rattle.std.proofs.Common.{arith}
use Rattle.trace.proofs.Fronts.{row_small, row_fronts, row_count, row_is, some_digit, one_zero}
use Rattle.trace.proofs.field.front_number.Goals.{else-count-gt1-via-then-count-gt1+else-bytes-eq48, else-count-gt1-via-else-count-gt1}
use Rattle.trace.proofs.field.front_number.Goals as goal

pub returns-then-count-eq0-clause-only : goal.returns-then-count-eq0-clause-only
returns-then-count-eq0-clause-only c m rest fits e ends =
    let d = c.front_digits-n in
    absurd (omega (arith, c.if-count-eq0.true, row_count c.args.bytes.now rest m fits e ends d.result.0 d.result.1 d.ensures.row (d.ensures.end (omega (arith, c.if-count-eq0.true))), some_digit c.args.bytes.now rest m fits e ends))

pub returns-then-bytes-eq48-clause-only : goal.returns-then-bytes-eq48-clause-only
returns-then-bytes-eq48-clause-only c m rest fits e ends =
    let d = c.front_digits-n in
    absurd (omega (arith, c.if-count-gt1.true, one_zero c.args.bytes.now rest m fits e ends c.if-bytes-eq48.true, row_count c.args.bytes.now rest m fits e ends d.result.0 d.result.1 d.ensures.row (d.ensures.end (omega (arith, c.if-count-eq-LONG.false, d.ensures.most)))))

pub returns-clause-found : goal.returns-clause-found
returns-clause-found c =
    let d = c.front_digits-n in
    row_fronts c.args.bytes.now d.result.0 d.result.1 d.ensures.row (omega (arith, c.if-count-eq0.false))
    (λ z. elim c.else-count-gt1.branch [
      | else-count-gt1-via-then-count-gt1+else-bytes-eq48 w ↦ omega (arith, z, w.if-bytes-eq48.false)
      | else-count-gt1-via-else-count-gt1 w ↦ omega (arith, w.if-count-gt1.false, c.if-count-eq0.false)
    ])
    (omega (arith, row_small c.args.bytes.now d.result.0 d.result.1 d.ensures.row (omega (arith, c.if-count-eq-LONG.false, d.ensures.most))))

pub returns-clause-only : goal.returns-clause-only
returns-clause-only c m rest fits e ends =
    let d = c.front_digits-n in
    row_is c.args.bytes.now rest m fits e ends d.result.0 d.result.1 d.ensures.row (d.ensures.end (omega (arith, c.if-count-eq-LONG.false, d.ensures.most)))
