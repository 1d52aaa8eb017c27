use Rattle.std.proofs.Common.{◌∙◌, ap, sym}
use Rattle.std.proofs.lemmas.Result.{IfOk-weaker}
use Rattle.heap_model.specs.Event.{Course}
use Rattle.inspector.proofs.cycles.surveying.LogSurvey.finish.Goals as goal

pub returns : goal.returns
returns c =
    IfOk-weaker c.cycles.result _ _
    (λ cycles are config given run there lines seen. are _ _ seen (ap (λ (r : Course). r.heap) there ∙ sym (c.heap.ensures.heap ∙ ap (λ (r : Course). r.heap) c.recorded.ensures)))
    c.cycles.ensures
