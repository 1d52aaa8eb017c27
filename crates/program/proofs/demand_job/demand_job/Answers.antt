use Rattle.std.proofs.Common.{List, ℕ, inl, inr, refl, subst, true, arith}
use Rattle.trace.specs.Streams.{given_by, taken_by}
use Rattle.program.specs.Demand.{NeededTold}
use Rattle.program.proofs.Finishing.{failed_so}
use Rattle.program.proofs.Failing.{reads_on, unreadable_unwritten}
use Rattle.program.proofs.Obeying.{rest_read}
use Rattle.program.proofs.demand_job.demand_job.Goals as goal

pub returns-in_err-text-clause-done : goal.returns-in_err-text-clause-done
returns-in_err-text-clause-done g c = inr (c.in_err-text.field-0.0, c.in_err-text.ensures.unread, failed_so c.from_residual.result _ c.from_residual.ensures.1, refl)

pub returns-in_err-text-clause-reads : goal.returns-in_err-text-clause-reads
returns-in_err-text-clause-reads g c = reads_on c.from_residual.result c.in_err-text.field-0.0 (g.S.Source.failures c.args.source.now) (g.S.Source.failures c.read_bytes.new.source) c.from_residual.ensures.1 c.in_err-text.ensures.reads

pub returns-in_err-text-clause-writes : goal.returns-in_err-text-clause-writes
returns-in_err-text-clause-writes g c = omega (arith, unreadable_unwritten c.from_residual.result true c.in_err-text.field-0.0 c.from_residual.ensures.1 c.in_err-text.ensures.unread)

pub returns-clause-done : goal.returns-clause-done
returns-clause-done g c =
    let Told : List ℕ → Type 0 = λ text. NeededTold c.args.config.now text (taken_by g.K.Sink.taken g.K.Sink.sent c.args.sink.now c.tell_needed-told.new.sink) c.tell_needed-told.result in
    let rest = rest_read (given_by g.S.Source.given g.S.Source.ended c.args.source.now c.read_bytes.new.source) c.in_ok-text.text.items c.in_ok-text.ensures.front in
    inl (c.in_ok-text.text.items, rest, subst Told c.as_slice.ensures.value c.tell_needed-told.ensures.told)
