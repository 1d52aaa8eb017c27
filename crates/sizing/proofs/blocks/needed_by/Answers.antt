use Rattle.std.proofs.Common.{◌≡◌, ◌∙◌, ap, get_or, length-set, arith}
use Rattle.sizing.proofs.Counts.Counting.{one_more}
use Rattle.sizing.proofs.blocks.needed_by.Goals as goal

pub loop-number-preserved : goal.loop-number-preserved
loop-number-preserved c = record { long = length-set c.loop-number.blocks c.loop-number.number c.from.result ∙ c.loop-number.invariant.long; done = one_more c.loop-number.blocks c.from_parts-need.result c.loop-number.number c.from.result (omega arith) c.loop-number.invariant.done (let n : c.new.result ≡ c.loop-number.number = omega arith in c.from.ensures ∙ c.blocks-in-loop-number.ensures ∙ ap (λ i. get_or c.from_parts-need.result i 0) n) }
