use Rattle.std.proofs.Common.{◌∷◌, [], subst}
use Rattle.trace.specs.Observing.{moment}
use Rattle.pictures.specs.Sampler.{IsAlong}
use Rattle.pictures.proofs.run_log.RunLog.new.Goals as goal

pub returns : goal.returns
returns c = (subst (λ h. IsAlong (moment 0 h ∷ []) c.new.result) c.heap.ensures.heap c.new.ensures, c.new-2.ensures c.args.recorded.now.course, c.new-3.ensures)
