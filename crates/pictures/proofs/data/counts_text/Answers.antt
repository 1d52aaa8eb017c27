use Rattle.std.proofs.Common.{◌∙◌, ap, length, count_by}
use Rattle.std.proofs.lemmas.Result.{IfOk-weaker}
use Rattle.heap_model.specs.Event.{Course}
use Rattle.inspector.specs.Made.{makes}
use Rattle.pictures.specs.Utilisation.{span_of}
use Rattle.pictures.proofs.Texts.{lengths_same}
use Rattle.pictures.proofs.data.counts_text.Goals as goal

pub returns : goal.returns
returns c =
    let history = c.history-history.ensures.history ∙ ap (λ (r : Course). r.history) c.recorded.ensures in
    IfOk-weaker c.lengths_text.result _ _
    (λ text told. told ∙ lengths_same c.args.lines (ap length history) (c.made.ensures ∙ ap (λ h. count_by makes h) history) (c.span-ticks.ensures.span ∙ ap span_of c.schedule.ensures) c.cycle_limit.ensures)
    c.lengths_text.ensures
