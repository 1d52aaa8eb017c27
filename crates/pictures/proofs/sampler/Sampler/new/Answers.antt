use Rattle.trace.specs.Observing.{moment}
use Rattle.pictures.proofs.Along.{first_taken}
use Rattle.pictures.proofs.sampler.Sampler.new.Goals as goal

pub returns : goal.returns
returns c = rw (c.new.ensures.items, c.from_heap.ensures) (first_taken (moment 0 c.args.heap.now))
