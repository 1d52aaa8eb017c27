use Rattle.std.proofs.Common.{arith, take}
use Rattle.trace.proofs.Numbers.{one_digit_more}
use Rattle.trace.proofs.text.put_below_10000.Goals as goal

pub returns-clause-text : goal.returns-clause-text
returns-clause-text c = one_digit_more (take c.args.at c.args.out.now) _ _ c.args.n (omega arith) (omega arith) c.put_below_1000-next.ensures.text c.put_digit.ensures.text
