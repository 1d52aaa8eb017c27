use Rattle.std.proofs.Common.{ap}
use Rattle.std.specs.Prelude.{option_map, Option}
use Rattle.plans.specs.declared.bars.PlanBar.{PlanBar}
use Rattle.plans.specs.declared.bars.PlanFigures.{PlanFigures}
use Rattle.paced.specs.Rooms.{made_of}
use Rattle.plans.proofs.Rows.{fastest_words}
use Rattle.plans.proofs.bars.bar.Goals as goal

pub figures-requires : goal.figures-requires
figures-requires c = fastest_words (made_of (option_map (λ used. used.now) c.args.classes)) c.on_pages-on.result c.args.live_words 0 c.planned-plan.result c.planned-plan.ensures

pub returns : goal.returns
returns c =
    let bar : Option PlanFigures → PlanBar = λ plan. record { pages = c.args.pages; plan = plan } in
    (record { on = c.on_pages-on.result; is_on = c.on_pages-on.ensures; plan = c.planned-plan.result; fastest = c.planned-plan.ensures }, ap bar c.figures.ensures)
