use Rattle.std.proofs.Common.{subst, sym}
use Rattle.std.specs.Prelude.{IsTrue}
use Rattle.paced.specs.Planning.{HasPlanOn}
use Rattle.paced.proofs.Planning.{has_plan}
use Rattle.paced.proofs.plan.has_plan_on.Goals as goal

pub returns : goal.returns
returns c = λ makes made. subst (λ b. (IsTrue b → HasPlanOn makes c.args.config.now c.args.live_words c.args.largest c.args.pages) × (HasPlanOn makes c.args.config.now c.args.live_words c.args.largest c.args.pages → IsTrue b)) (sym c.is_some.ensures)
    (has_plan makes c.args.config.now c.args.live_words c.args.largest c.args.pages c.lasting.result (c.lasting.ensures.some makes made) (c.lasting.ensures.none makes made))
