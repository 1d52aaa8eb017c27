use Rattle.std.proofs.Common.{◌-◌, ◌*◌, ◌+◌, get_or, arith, refl}
use Rattle.trace.proofs.Fronts.{row_more, row_fronts, row_is, row_most, reach, one_zero, too_many}
use Rattle.trace.proofs.field.long_number.Goals.{then-bytes-eq-LONG-via-then-bytes-eq-LONG, then-bytes-eq-LONG-via-else-bytes-eq-LONG+then-not-is_ascii_digit, else-bytes-via-then-bytes+else-is_ascii_digit, else-bytes-via-else-bytes}
use Rattle.trace.proofs.field.long_number.Goals as goal

pub returns-then-bytes-eq48-clause-only : goal.returns-then-bytes-eq48-clause-only
returns-then-bytes-eq48-clause-only c m rest fits e ends =
    absurd (omega (arith, one_zero c.args.bytes.now rest m fits e ends c.if-bytes-eq48.true, reach c.args.bytes.now rest m fits e ends 19 c.requires.within c.requires.digits))

pub returns-then-bytes-eq-LONG-clause-found : goal.returns-then-bytes-eq-LONG-clause-found
returns-then-bytes-eq-LONG-clause-found c =
    row_fronts c.args.bytes.now c.args.n 19 c.requires (omega arith) (λ z. omega (arith, z, c.if-bytes-eq48.false)) (omega (arith, c.ranges.n.fits))

pub returns-then-bytes-eq-LONG-clause-only : goal.returns-then-bytes-eq-LONG-clause-only
returns-then-bytes-eq-LONG-clause-only c m rest fits e ends =
    row_is c.args.bytes.now rest m fits e ends c.args.n 19 c.requires (λ inside low high. elim c.then-bytes-eq-LONG.branch [
      | then-bytes-eq-LONG-via-then-bytes-eq-LONG w ↦ omega (arith, inside, w.if-bytes-eq-LONG.true)
      | then-bytes-eq-LONG-via-else-bytes-eq-LONG+then-not-is_ascii_digit w ↦ omega (arith, low, high, w.if-not-is_ascii_digit.ensures.cases)
    ])

pub returns-then-is_ascii_digit-clause-only : goal.returns-then-is_ascii_digit-clause-only
returns-then-is_ascii_digit-clause-only c m rest fits e ends =
    absurd (too_many c.args.bytes.now rest m fits e ends c.args.n c.requires c.if-bytes.true c.if-not-is_ascii_digit.ensures.cases c.if-is_ascii_digit.ensures.cases)

pub returns-in_err-checked_mul-clause-only : goal.returns-in_err-checked_mul-clause-only
returns-in_err-checked_mul-clause-only c m rest fits e ends =
    let digit = c.if-not-is_ascii_digit.ensures.cases in
    let row = row_more c.args.bytes.now c.args.n 19 (c.args.n * 10 + (get_or c.args.bytes.now 19 0 - 48)) c.requires (omega (arith, c.requires.within, c.if-bytes-eq-LONG.false)) digit.0 digit.1 refl in
    absurd (omega (arith, fits, c.in_err-checked_mul.ensures, row_most c.args.bytes.now rest m fits e ends (c.args.n * 10 + (get_or c.args.bytes.now 19 0 - 48)) 20 row))

pub returns-in_err-n-clause-only : goal.returns-in_err-n-clause-only
returns-in_err-n-clause-only c m rest fits e ends =
    let digit = c.if-not-is_ascii_digit.ensures.cases in
    let row = row_more c.args.bytes.now c.args.n 19 (c.args.n * 10 + (get_or c.args.bytes.now 19 0 - 48)) c.requires (omega (arith, c.requires.within, c.if-bytes-eq-LONG.false)) digit.0 digit.1 refl in
    absurd (omega (arith, fits, c.in_ok-checked_mul.ensures, c.from.ensures, c.in_err-n.ensures, row_most c.args.bytes.now rest m fits e ends (c.args.n * 10 + (get_or c.args.bytes.now 19 0 - 48)) 20 row))

pub returns-clause-found : goal.returns-clause-found
returns-clause-found c =
    let digit = c.if-not-is_ascii_digit.ensures.cases in
    let row = row_more c.args.bytes.now c.args.n 19 c.in_ok-n.n c.requires (omega (arith, c.requires.within, c.if-bytes-eq-LONG.false)) digit.0 digit.1 (omega (arith, c.in_ok-checked_mul.ensures, c.from.ensures, c.in_ok-n.ensures)) in
    row_fronts c.args.bytes.now c.in_ok-n.n 20 row (omega arith) (λ z. omega (arith, z, c.if-bytes-eq48.false)) (omega (arith, c.in_ok-n.ensures))

pub returns-clause-only : goal.returns-clause-only
returns-clause-only c m rest fits e ends =
    let digit = c.if-not-is_ascii_digit.ensures.cases in
    let row = row_more c.args.bytes.now c.args.n 19 c.in_ok-n.n c.requires (omega (arith, c.requires.within, c.if-bytes-eq-LONG.false)) digit.0 digit.1 (omega (arith, c.in_ok-checked_mul.ensures, c.from.ensures, c.in_ok-n.ensures)) in
    row_is c.args.bytes.now rest m fits e ends c.in_ok-n.n 20 row (λ inside low high. elim c.else-bytes.branch [
      | else-bytes-via-then-bytes+else-is_ascii_digit w ↦ omega (arith, low, high, w.if-is_ascii_digit.ensures.cases)
      | else-bytes-via-else-bytes w ↦ omega (arith, inside, w.if-bytes.false)
    ])
