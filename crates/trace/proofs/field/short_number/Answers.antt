use Rattle.std.proofs.Common.{arith}
use Rattle.trace.proofs.Fronts.{whole_number}
use Rattle.trace.proofs.field.short_number.Goals as goal

pub returns-then-bytes-count-clause-wide : goal.returns-then-bytes-count-clause-wide
returns-then-bytes-count-clause-wide c = whole_number c.args.bytes.now c.args.count c.few_digits.result c.few_digits.ensures.fronts (omega arith)
