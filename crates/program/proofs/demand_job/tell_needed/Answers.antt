use Rattle.std.proofs.Common.{ℕ, List, ◌≡◌, ◌++◌, Ok, arith}
use Rattle.trace.specs.Streams.{taken_by}
use Rattle.inspector.specs.NeededReport.{needed_told, room_line}
use Rattle.program.proofs.Failing.{text_unread, text_unwritten}
use Rattle.program.proofs.MadeText.{report_told}
use Rattle.program.proofs.demand_job.tell_needed.Goals as goal

pub returns-clause-told : goal.returns-clause-told
returns-clause-told g c =
    let m = c.in_ok-measured.measured in
    let found = c.in_ok-found.found in
    let Tells : List ℕ → Type 0 = λ report. report ≡ needed_told c.args.config.now m.needed ++ room_line found in
    let told = report_told Tells c.needed_report.result (taken_by g.K.Sink.taken g.K.Sink.sent c.args.sink.now c.tell_text.new.sink) c.tell_text.result c.needed_report.ensures c.tell_text.ensures.told in
    (Ok m, c.in_ok-measured.ensures.measured, (Ok found, c.in_ok-found.ensures.found, told))

pub returns-in_err-measured-clause-reads : goal.returns-in_err-measured-clause-reads
returns-in_err-measured-clause-reads g c = text_unread c.from_residual.result c.in_err-measured.field-0.0 c.from_residual.ensures.1 c.in_err-measured.ensures.reads

pub returns-in_err-measured-clause-writes : goal.returns-in_err-measured-clause-writes
returns-in_err-measured-clause-writes g c = omega (arith, text_unwritten c.from_residual.result c.in_err-measured.field-0.0 c.from_residual.ensures.1 c.in_err-measured.ensures.writes)

pub returns-in_err-found-clause-reads : goal.returns-in_err-found-clause-reads
returns-in_err-found-clause-reads g c = text_unread c.from_residual-in_err-found.result c.in_err-found.field-0.0 c.from_residual-in_err-found.ensures.1 c.in_err-found.ensures.reads

pub returns-in_err-found-clause-writes : goal.returns-in_err-found-clause-writes
returns-in_err-found-clause-writes g c = omega (arith, text_unwritten c.from_residual-in_err-found.result c.in_err-found.field-0.0 c.from_residual-in_err-found.ensures.1 c.in_err-found.ensures.writes)
