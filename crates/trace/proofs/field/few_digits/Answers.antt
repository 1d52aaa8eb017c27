use Rattle.std.proofs.Common.{◌≡◌, arith, subst}
use Rattle.trace.specs.Numbers.{DigitsSpell}
use Rattle.trace.proofs.Fronts.{row_fronts}
use Rattle.trace.proofs.field.few_digits.Goals.{else-bytes-eq48-via-then-bytes-eq48+else-count-gt1, else-bytes-eq48-via-else-bytes-eq48}
use Rattle.trace.proofs.field.few_digits.Goals as goal

pub returns-clause-fronts : goal.returns-clause-fronts
returns-clause-fronts c =
    let d = c.front_digits-n in
    let small = d.ensures.small (omega (arith, d.ensures.most, c.requires.few)) in
    let whole : d.result.1 ≡ c.args.count = omega (arith, d.ensures.most) in
    row_fronts c.args.bytes.now d.result.0 c.args.count (subst (DigitsSpell c.args.bytes.now d.result.0) whole d.ensures.row) c.requires.some
    (λ z. elim c.else-bytes-eq48.branch [
      | else-bytes-eq48-via-then-bytes-eq48+else-count-gt1 w ↦ omega (arith, w.if-count-gt1.false, c.requires.some)
      | else-bytes-eq48-via-else-bytes-eq48 w ↦ omega (arith, z, w.if-bytes-eq48.false)
    ])
    (omega (arith, small))

pub returns-clause-narrow : goal.returns-clause-narrow
returns-clause-narrow c =
    let d = c.front_digits-n in
    d.ensures.small (omega (arith, d.ensures.most, c.requires.few))
