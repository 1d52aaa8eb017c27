use Rattle.std.proofs.Common.{subst}
use Rattle.paced.specs.Logged.{Enters}
use Rattle.paced.specs.Pacing.{paced_by, PaysUnless}
use Rattle.paced.proofs.pacer.Pacer.pay_for.Goals as goal

pub returns : goal.returns
returns g c = subst (λ n. PaysUnless (λ es. Enters g.L.Log.enters c.args.log.now es c.pay.new.log) (paced_by c.args.self.now c.args.heap.now c.args.cycles.now) n c.pay.result (paced_by c.pay.new.self c.pay.new.heap c.pay.new.cycles)) c.words_of_shape-words.ensures c.pay.ensures
