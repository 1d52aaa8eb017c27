use Rattle.std.proofs.Common.{arith}
use Rattle.program.proofs.Reading.{reads_text}
use Rattle.program.proofs.two_runs.text_run.Goals as goal

pub returns-clause-run : goal.returns-clause-run
returns-clause-run c =
    let s = c.new-source in
    let m = c.run_data in
    (_, reads_text _ s.result m.new.source s.ensures.bytes s.ensures.place (m.ensures.input (omega (arith, m.ensures.reads))), m.ensures.told)
