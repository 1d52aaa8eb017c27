use Rattle.std.specs.Prelude.{string_bytes}
use Rattle.inspector.specs.NeededReport.{IsPaceReport}
use Rattle.program.specs.Answered.{TellsPace}
use Rattle.program.proofs.Finishing.{value_so}
use Rattle.program.proofs.answer_job.pace_text.Goals as goal

pub returns : goal.returns
returns c =
    let slow = c.slowest-slow.result in
    let m = c.args.measured.now in
    value_so c.pace_report.result (λ text. IsPaceReport slow m.pace (string_bytes text)) (λ text. TellsPace c.args.config.now m (string_bytes text)) (λ text report. record { slow = slow; units = c.slowest-slow.ensures; report = report }) c.pace_report.ensures
