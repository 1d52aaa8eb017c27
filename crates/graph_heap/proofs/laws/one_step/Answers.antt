use Rattle.std.proofs.Common.{◌∙◌}
use Rattle.graph_heap.specs.History.{had_room}
use Rattle.graph_heap.proofs.Histories.{IsEntryOf-step}
use Rattle.graph_heap.proofs.laws.one_step.Goals as goal

pub returns : goal.returns
returns c g after e =
    ((λ s. let t = IsEntryOf-step g e s.0 s.1 in (t.0, t.1 ∙ s.2)), (λ h. (had_room e.reply, h.0, h.1)))
