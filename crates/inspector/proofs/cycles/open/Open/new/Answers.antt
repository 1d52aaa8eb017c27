use Rattle.std.proofs.Common.{length, refl, sym, ap, ◌∙◌}
use Rattle.heap_model.specs.Event.{Course}
use Rattle.heap_model.specs.Pages.{free_pages}
use Rattle.inspector.proofs.cycles.open.Open.new.Goals as goal

pub returns : goal.returns
returns c = λ earlier s base line before. record {
  start = record {
    line = sym line;
    base = base;
    place = ap length c.history.ensures.history ∙ ap (λ (r : Course). length r.history) (sym before);
    free = c.free_pages.ensures.free ∙ ap (λ h. free_pages h.store.pages) c.heap.ensures.heap ∙ ap (λ (r : Course). free_pages r.heap.store.pages) (sym before);
  };
  quanta = refl;
  longest = refl;
  sweep = refl;
  end = refl;
}
