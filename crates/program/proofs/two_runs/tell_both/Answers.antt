use Rattle.std.proofs.Common.{ℕ, List, Ok, ap₂, subst, arith}
use Rattle.std.specs.Prelude.{string_bytes, IfOk}
use Rattle.trace.specs.Streams.{taken_by}
use Rattle.program.specs.TwoRuns.{AreRuns}
use Rattle.program.proofs.Failing.{text_unread, text_unwritten}
use Rattle.program.proofs.MadeText.{report_told}
use Rattle.program.proofs.two_runs.tell_both.Goals as goal

pub returns-clause-told : goal.returns-clause-told
returns-clause-told g c =
    let first = c.in_ok-first.first in
    let second = c.in_ok-second.second in
    let runs = c.args.runs.now in
    let Shows : List ℕ → Type 0 = AreRuns runs (string_bytes first) (string_bytes second) in
    let made = subst (λ (both : List ℕ × List ℕ). IfOk c.runs_text.result (λ text. AreRuns runs both.0 both.1 (string_bytes text))) (ap₂ (λ (a b : List ℕ). (a, b)) c.as_str.ensures.value c.as_str-2.ensures.value) c.runs_text.ensures in
    let told = report_told Shows c.runs_text.result (taken_by g.K.Sink.taken g.K.Sink.sent c.args.sink.now c.tell_text.new.sink) c.tell_text.result made c.tell_text.ensures.told in
    (Ok first, c.in_ok-first.ensures.run, (Ok second, c.in_ok-second.ensures.run, told))

pub returns-in_err-first-clause-reads : goal.returns-in_err-first-clause-reads
returns-in_err-first-clause-reads g c = text_unread c.from_residual.result c.in_err-first.field-0.0 c.from_residual.ensures.1 c.in_err-first.ensures.reads

pub returns-in_err-first-clause-writes : goal.returns-in_err-first-clause-writes
returns-in_err-first-clause-writes g c = omega (arith, text_unwritten c.from_residual.result c.in_err-first.field-0.0 c.from_residual.ensures.1 c.in_err-first.ensures.writes)

pub returns-in_err-second-clause-reads : goal.returns-in_err-second-clause-reads
returns-in_err-second-clause-reads g c = text_unread c.from_residual-in_err-second.result c.in_err-second.field-0.0 c.from_residual-in_err-second.ensures.1 c.in_err-second.ensures.reads

pub returns-in_err-second-clause-writes : goal.returns-in_err-second-clause-writes
returns-in_err-second-clause-writes g c = omega (arith, text_unwritten c.from_residual-in_err-second.result c.in_err-second.field-0.0 c.from_residual-in_err-second.ensures.1 c.in_err-second.ensures.writes)
