use Rattle.std.proofs.Common.{Ok}
use Rattle.paced.proofs.Paths.{begin_paced}
use Rattle.paced.proofs.pacer.Pacer.begin.Goals as goal

pub returns-clause-paced : goal.returns-clause-paced
returns-clause-paced c = begin_paced c.args.self.now c.count_begin.new.self c.args.heap.now c.begin.new.heap (Ok c.in_ok-begin.field-0) c.in_ok-begin.ensures.begins c.count_begin.ensures
