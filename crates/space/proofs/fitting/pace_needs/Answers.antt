use Rattle.space.specs.Fitting.{pace_in}
use Rattle.space.proofs.Fittings.Needed.{unmoved_takes, moved_takes, unmoved_needed, moved_needed}
use Rattle.space.proofs.fitting.pace_needs.Goals as goal

pub returns-then-unmoved-moved : goal.returns-then-unmoved-moved
returns-then-unmoved-moved c =
    let unmoved = unmoved_takes c.args.config.now (pace_in c.args.pace.now) c.args.pages c.of-unmoved.result c.unmoved_quanta.result c.below.result c.unmoved_quanta.ensures.quanta c.below.ensures c.of-unmoved.ensures.pages c.of-unmoved.ensures.quanta in
    let moved = moved_takes c.args.config.now (pace_in c.args.pace.now) c.args.pages c.of-moved.result c.moved_quanta-quanta.result c.spare.result c.moved_quanta-quanta.ensures.quanta c.spare.ensures c.of-moved.ensures.pages c.of-moved.ensures.quanta in
    unmoved_needed c.args.config.now (pace_in c.args.pace.now) c.args.pages c.of-unmoved.result c.of-moved.result unmoved moved c.if-unmoved-moved.true

pub returns-else-unmoved-moved : goal.returns-else-unmoved-moved
returns-else-unmoved-moved c =
    let unmoved = unmoved_takes c.args.config.now (pace_in c.args.pace.now) c.args.pages c.of-unmoved.result c.unmoved_quanta.result c.below.result c.unmoved_quanta.ensures.quanta c.below.ensures c.of-unmoved.ensures.pages c.of-unmoved.ensures.quanta in
    let moved = moved_takes c.args.config.now (pace_in c.args.pace.now) c.args.pages c.of-moved.result c.moved_quanta-quanta.result c.spare.result c.moved_quanta-quanta.ensures.quanta c.spare.ensures c.of-moved.ensures.pages c.of-moved.ensures.quanta in
    moved_needed c.args.config.now (pace_in c.args.pace.now) c.args.pages c.of-unmoved.result c.of-moved.result unmoved moved c.if-unmoved-moved.false
