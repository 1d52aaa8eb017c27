use Rattle.std.proofs.Common.{◌∙◌, ap}
use Rattle.std.proofs.lemmas.Result.{IfOk-weaker}
use Rattle.plans.specs.Bars.{plans_table}
use Rattle.plans.proofs.bars.plans_data.Goals as goal

pub returns-in_ok-bars-in-Some : goal.returns-in_ok-bars-in-Some
returns-in_ok-bars-in-Some c =
    let bars = c.in_ok-bars-in-Some.bars in
    rw c.in-Some.is (IfOk-weaker c.table_of.result _ _ (λ text told. (bars.items, c.in_ok-bars-in-Some.ensures, told ∙ ap (plans_table c.in-Some.live) c.as_slice.ensures.value)) c.table_of.ensures)
