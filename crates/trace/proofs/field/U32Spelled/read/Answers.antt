use Rattle.trace.proofs.Fronts.{number_narrow}
use Rattle.trace.proofs.field.U32Spelled.read.Goals as goal

pub returns-in-Some : goal.returns-in-Some
returns-in-Some c = number_narrow c.args.bytes.now c.in-Some.n c.in-Some.ensures.wide c.in-Some.ensures.narrow
