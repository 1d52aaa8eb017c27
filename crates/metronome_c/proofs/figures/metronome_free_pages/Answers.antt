use Rattle.std.proofs.Common.{rules}
use Rattle.heap_model.specs.Pages.{free_pages}
use Rattle.metronome_c.proofs.Telling.{tells}
use Rattle.metronome_c.proofs.figures.metronome_free_pages.Goals as goal

pub returns : goal.returns
returns c = tells (λ h. free_pages h.store.pages) _ _ _ _ _ _ (λ h a met. search rules) c.inspect.ensures.same c.inspect.ensures.looks c.tell.ensures
