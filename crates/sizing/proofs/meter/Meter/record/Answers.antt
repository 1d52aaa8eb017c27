use Rattle.sizing.proofs.Meters.Making.{asked_so}
use Rattle.sizing.proofs.meter.Meter.record.Goals as goal

pub returns-clause-asked : goal.returns-clause-asked
returns-clause-asked c = λ row. asked_so c.args.self.now.graph c.args.entry.now.mutator c.args.entry.now.command c.blocks_for.result c.in_ok-shape.shape row c.in_ok-shape.ensures.asked c.blocks_for.ensures.some c.blocks_for.ensures.none
