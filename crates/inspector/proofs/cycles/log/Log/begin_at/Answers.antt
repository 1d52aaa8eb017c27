use Rattle.std.proofs.Common.{sym, ap, subst, ◌∙◌}
use Rattle.heap_model.specs.Event.{Course}
use Rattle.inspector.specs.Log.{IsBase}
use Rattle.inspector.proofs.cycles.Stepping.{idles, no_quantum}
use Rattle.inspector.proofs.cycles.Logging.{is_begun, base_stays}
use Rattle.inspector.proofs.cycles.log.Log.begin_at.Goals as goal

pub returns : goal.returns
returns c = λ steps s is begun line before.
    let base = subst (IsBase steps) (sym c.close.ensures.base) is.base in
    record {
      base = base_stays steps s c.close.new.self.base base (idles s (no_quantum s.event begun));
      cycles = is_begun steps s c.close.new.self.closed.items c.new.result (c.in_ok-close.ensures.cycles steps s.before is (ap (λ (r : Course). r.heap) before ∙ sym c.heap.ensures.heap)) begun (c.new.ensures steps s base line before);
    }
