use Rattle.std.proofs.Common.{None, ◌+◌, arith}
use Rattle.trace.proofs.Cuts.{rest_of}
use Rattle.trace.proofs.Fronts.{Pair, no_pair, pair_count, field_is, field_none, blank_moved}
use Rattle.trace.proofs.field.U64Leading.lead.Goals.{else-count-bytes-via-then-count-bytes+else-bytes-count-eq32, else-count-bytes-via-else-count-bytes}
use Rattle.trace.proofs.field.U64Leading.lead.Goals as goal

pub returns-in_err-w : goal.returns-in_err-w
returns-in_err-w c = rw c.from_residual.ensures (field_none c.args.bytes.now None c.in_err-w.ensures.only (λ n count e. absurd (no_pair n count e)))

pub returns-then-bytes-count-eq32 : goal.returns-then-bytes-count-eq32
returns-then-bytes-count-eq32 c = rw (rest_of c.args.bytes.now (c.in_ok-w.count + 1)) (field_is c.args.bytes.now c.in_ok-w.w c.in_ok-w.count c.in_ok-w.ensures.found c.if-count-bytes.true c.if-bytes-count-eq32.true)

pub returns-else-count-bytes : goal.returns-else-count-bytes
returns-else-count-bytes c =
    field_none c.args.bytes.now (Pair c.in_ok-w.w c.in_ok-w.count) c.in_ok-w.ensures.only (λ n count e inside blank.
    let same = pair_count c.in_ok-w.w c.in_ok-w.count n count e in
    elim c.else-count-bytes.branch [
      | else-count-bytes-via-then-count-bytes+else-bytes-count-eq32 w ↦ w.if-bytes-count-eq32.false (blank_moved c.args.bytes.now c.in_ok-w.count count same blank)
      | else-count-bytes-via-else-count-bytes w ↦ omega (arith, w.if-count-bytes.false, same, inside)
    ])
