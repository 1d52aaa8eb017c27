use Rattle.std.proofs.Common.{List, sym, subst}
use Rattle.pictures.specs.declared.sample.Sample.{Sample}
use Rattle.pictures.specs.Samples.{AreSampled}
use Rattle.pictures.proofs.Along.{are_sampled}
use Rattle.pictures.proofs.sampler.Sampler.finish.Goals as goal

pub returns : goal.returns
returns c = λ moments seen.
    let s = c.args.self in
    let Samples : List Sample → Type 0 = λ xs. AreSampled moments s.samples.stride xs in
    subst Samples (sym c.in_ok-push.ensures.items) (are_sampled moments s.samples.items.items s.last s.samples.stride s.since seen)
