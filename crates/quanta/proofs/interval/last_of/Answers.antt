use Rattle.std.proofs.Common.{◌∙◌}
use Rattle.quanta.proofs.Lasts.{slice_get-last}
use Rattle.quanta.proofs.interval.last_of.Goals as goal

pub returns : goal.returns
returns c = c.copied.ensures ∙ c.last.ensures.value ∙ slice_get-last c.args.intervals.now
