use Rattle.std.proofs.Common.{rules}
use Rattle.metronome_c.specs.Figures.{page_of}
use Rattle.metronome_c.proofs.Telling.{tells}
use Rattle.metronome_c.proofs.page.metronome_page.Goals as goal

pub returns : goal.returns
returns c = tells (page_of c.args.number) _ _ _ _ _ _ (λ h a met. search rules) c.inspect.ensures.same c.inspect.ensures.looks c.tell.ensures
