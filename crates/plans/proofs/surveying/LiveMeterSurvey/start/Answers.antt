use Rattle.std.proofs.lemmas.Result.{IfOk-weaker}
use Rattle.plans.proofs.Metering.{nothing_metered}
use Rattle.plans.proofs.surveying.LiveMeterSurvey.start.Goals as goal

pub returns : goal.returns
returns c = IfOk-weaker c.new.result _ _ (λ meter is. nothing_metered c.args.config.now c.limits.result c.args._player.now meter c.requires c.limits.ensures is) c.new.ensures
