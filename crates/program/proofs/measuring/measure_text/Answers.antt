use Rattle.std.proofs.Common.{arith}
use Rattle.sizing.specs.Measuring.{RunMeasured}
use Rattle.program.proofs.Failing.{surveyed_unwritten}
use Rattle.program.proofs.Reading.{reads_text}
use Rattle.program.proofs.measuring.measure_text.Goals as goal

pub returns-clause-measured : goal.returns-clause-measured
returns-clause-measured c =
    let s = c.new-source in
    let m = c.survey_run in
    (_, reads_text _ s.result m.new.source s.ensures.bytes s.ensures.place (m.ensures.input (omega (arith, m.ensures.reads))), m.ensures.surveyed)

pub returns-clause-writes : goal.returns-clause-writes
returns-clause-writes c = surveyed_unwritten RunMeasured c.args.config.now _ c.survey_run.result c.survey_run.ensures.surveyed
