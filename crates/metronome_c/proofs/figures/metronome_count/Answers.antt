use Rattle.std.proofs.Common.{rules}
use Rattle.metronome_c.specs.Figures.{counts_of}
use Rattle.metronome_c.proofs.Telling.{tells}
use Rattle.metronome_c.proofs.figures.metronome_count.Goals as goal

pub returns : goal.returns
returns c = tells counts_of _ _ _ _ _ _ (λ h a met. search rules) c.inspect.ensures.same c.inspect.ensures.looks c.tell.ensures
