use Rattle.std.proofs.Common.{◌≡◌, ap, ◌∙◌, sym}
use Rattle.std.proofs.lemmas.Result.{IfOk-weaker}
use Rattle.heap_model.specs.Event.{present_of}
use Rattle.heap_model.specs.Settings.{HeapSettings}
use Rattle.inspector.proofs.Histories.{graph_at}
use Rattle.inspector.proofs.present.graph_after.Goals as goal

pub returns : goal.returns
returns c =
    let r = c.args.player.now.course in
    IfOk-weaker c.present.result _ (λ graph. graph ≡ present_of r)
    (λ graph is. graph_at r c.recorded.result.now.course c.limits.result c.history.result.now graph c.recorded.ensures
    (c.limits.ensures ∙ sym (ap (λ (s : HeapSettings). s.limits) c.requires)) c.history.ensures.history c.history.ensures.legal is)
    c.present.ensures
