use Rattle.std.proofs.Common.{arith}
use Rattle.pages.proofs.Summaries.{kept_off}
use Rattle.pages.proofs.levels.put.Goals as goal

pub returns-else-on-clause-kept : goal.returns-else-on-clause-kept
returns-else-on-clause-kept c = λ e.
    kept_off c.args.words.now c.args.k c.with_bit-word.result c.args.on c.requires c.with_bit-word.ensures.here c.with_bit-word.ensures.others c.if-on.false (grind arith) c.with_bit-word.type_inv
