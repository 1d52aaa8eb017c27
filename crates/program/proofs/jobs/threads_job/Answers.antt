use Rattle.std.proofs.Common.{◌++◌, List, Ok, Err, inl, inr, ap, ◌∙◌, subst, arith}
use Rattle.graph_heap.specs.declared.command.Entry.{Entry}
use Rattle.trace.specs.Streams.{GrowsByPart, given_by}
use Rattle.trace.specs.declared.player.style.Style.TheVariants.{Entries}
use Rattle.trace.specs.Playing.{text_written}
use Rattle.program.specs.Faults.{failed_reads, failed_writes}
use Rattle.program.proofs.Finishing.{failed_so}
use Rattle.program.proofs.Failing.{reads_text, text_unwritten, scripts_unwritten, memory_unread, memory_unwritten, none_read, one_written, finished_unread, finished_unwritten}
use Rattle.program.proofs.jobs.threads_job.Goals as goal

pub returns-in_err-write_history-clause-done : goal.returns-in_err-write_history-clause-done
returns-in_err-write_history-clause-done g c =
    let version = c.in_ok-version.version in
    let scripts = c.in_ok-version.scripts in
    let outcome = c.in_ok-outcome.outcome in
    let old = g.K.Sink.taken c.args.sink.now in
    let new = g.K.Sink.taken c.write_history.new.sink in
    let Part : List Entry → Type 0 = λ history. GrowsByPart old new (text_written Entries version history) in
    let read = c.in_ok-version.ensures.read in
    let ran = c.in_ok-outcome.ensures in
    let part = subst Part c.history.ensures.history c.in_err-write_history.ensures.err in
    (Ok (version, scripts), read, inr (outcome, ran, inr (failed_so c.from_residual-in_err-write_history.result _ c.from_residual-in_err-write_history.ensures.1, part)))

pub returns-clause-done : goal.returns-clause-done
returns-clause-done g c =
    let version = c.in_ok-version.version in
    let scripts = c.in_ok-version.scripts in
    let outcome = c.in_ok-outcome.outcome in
    let old = g.K.Sink.taken c.args.sink.now in
    let read = c.in_ok-version.ensures.read in
    let ran = c.in_ok-outcome.ensures in
    (Ok (version, scripts), read, inr (outcome, ran, inl (c.finished.ensures, c.in_ok-write_history.ensures.ok ∙ ap (λ (h : List Entry). old ++ text_written Entries version h) c.history.ensures.history)))

pub returns-in_err-version-clause-reads : goal.returns-in_err-version-clause-reads
returns-in_err-version-clause-reads g c = reads_text c.from_residual.result c.in_err-version.field-0.0 _ _ c.from_residual.ensures.1 c.in_err-version.ensures.reads

pub returns-in_err-version-clause-writes : goal.returns-in_err-version-clause-writes
returns-in_err-version-clause-writes g c = omega (arith, text_unwritten c.from_residual.result c.in_err-version.field-0.0 c.from_residual.ensures.1 (scripts_unwritten (given_by g.S.Source.given g.S.Source.ended c.args.source.now c.read_scripts.new.source) c.args.config.now.mutators (Err c.in_err-version.field-0.0) c.in_err-version.ensures.read))

pub returns-in_err-outcome-clause-reads : goal.returns-in_err-outcome-clause-reads
returns-in_err-outcome-clause-reads g c = omega (arith, memory_unread c.from_residual-in_err-outcome.result c.from_residual-in_err-outcome.ensures.1, c.in_ok-version.ensures.reads)

pub returns-in_err-outcome-clause-writes : goal.returns-in_err-outcome-clause-writes
returns-in_err-outcome-clause-writes g c = omega (arith, memory_unwritten c.from_residual-in_err-outcome.result c.from_residual-in_err-outcome.ensures.1)

pub returns-in_err-write_history-clause-reads : goal.returns-in_err-write_history-clause-reads
returns-in_err-write_history-clause-reads g c = omega (arith, none_read c.from_residual-in_err-write_history.result c.from_residual-in_err-write_history.ensures.1, c.in_ok-version.ensures.reads)

pub returns-in_err-write_history-clause-writes : goal.returns-in_err-write_history-clause-writes
returns-in_err-write_history-clause-writes g c = omega (arith, one_written c.from_residual-in_err-write_history.result c.from_residual-in_err-write_history.ensures.1, c.in_err-write_history.ensures.cause)

pub returns-clause-reads : goal.returns-clause-reads
returns-clause-reads g c = omega (arith, c.in_ok-version.ensures.reads, ap failed_reads c.finished.ensures, finished_unread c.in_ok-outcome.outcome.all)

pub returns-clause-writes : goal.returns-clause-writes
returns-clause-writes g c = omega (arith, c.in_ok-write_history.ensures.cause, ap failed_writes c.finished.ensures, finished_unwritten c.in_ok-outcome.outcome.all)
