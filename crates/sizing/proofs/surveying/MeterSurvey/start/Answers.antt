use Rattle.std.proofs.lemmas.Result.{IfOk-weaker}
use Rattle.sizing.proofs.Measurements.Seeing.{nothing_measured}
use Rattle.sizing.proofs.surveying.MeterSurvey.start.Goals as goal

pub returns : goal.returns
returns c = IfOk-weaker c.new.result _ _ (λ meter measures. nothing_measured c.args.config.now c.limits.result c.args._player.now meter c.requires c.limits.ensures measures) c.new.ensures
