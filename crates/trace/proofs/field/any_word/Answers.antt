use Rattle.std.proofs.Common.{None, length, arith}
use Rattle.trace.proofs.Fronts.{Pair, no_pair, pair_count, word_is, word_none}
use Rattle.trace.proofs.field.any_word.Goals as goal

pub returns-in_err-w : goal.returns-in_err-w
returns-in_err-w c = rw c.from_residual.ensures (word_none c.args.bytes.now None c.in_err-w.ensures.only (λ n e. no_pair n (length c.args.bytes.now) e))

pub returns-then-count-bytes : goal.returns-then-count-bytes
returns-then-count-bytes c = word_is c.args.bytes.now c.in_ok-w.w c.in_ok-w.count c.in_ok-w.ensures.found c.if-count-bytes.true

pub returns-else-count-bytes : goal.returns-else-count-bytes
returns-else-count-bytes c =
    word_none c.args.bytes.now (Pair c.in_ok-w.w c.in_ok-w.count) c.in_ok-w.ensures.only (λ n e. omega (arith, pair_count c.in_ok-w.w c.in_ok-w.count n (length c.args.bytes.now) e, c.if-count-bytes.false))
