use Rattle.std.proofs.Common.{refl, subst, arith}
use Rattle.quanta.specs.Timetable.{Timetable}
use Rattle.program.specs.Windows.{AllTold, FirstTold}
use Rattle.program.proofs.Finishing.{failed_so}
use Rattle.program.proofs.Telling.{told_reserved, first_reserved}
use Rattle.program.proofs.Failing.{reads_on, writes_on}
use Rattle.program.proofs.after.windows.tell_windows.Goals as goal

pub returns-in_err-write_windows-clause-told : goal.returns-in_err-write_windows-clause-told
returns-in_err-write_windows-clause-told g c =
    let config = c.args.config.now in
    let windows = c.args.windows.now in
    let old = g.K.Sink.taken c.args.sink.now in
    let new = g.K.Sink.taken c.write_windows.new.sink in
    let fault = c.in_err-write_windows.field-0.0 in
    rw (failed_so c.from_residual.result fault c.from_residual.ensures.1)
    (subst (λ (x : Timetable). FirstTold config x windows fault old new) c.schedule.ensures (first_reserved config c.schedule.result.now 0 windows old new fault c.in_err-write_windows.ensures.err))

pub returns-clause-told : goal.returns-clause-told
returns-clause-told g c =
    let config = c.args.config.now in
    let windows = c.args.windows.now in
    let old = g.K.Sink.taken c.args.sink.now in
    let new = g.K.Sink.taken c.write_windows.new.sink in
    (refl, subst (λ (x : Timetable). AllTold config x windows old new) c.schedule.ensures (told_reserved config c.schedule.result.now 0 windows old new c.in_ok-write_windows.ensures.ok))

pub returns-in_err-write_windows-clause-reads : goal.returns-in_err-write_windows-clause-reads
returns-in_err-write_windows-clause-reads g c = omega (arith, reads_on c.from_residual.result c.in_err-write_windows.field-0.0 0 0 c.from_residual.ensures.1 (omega (arith, c.in_err-write_windows.ensures.reads)))

pub returns-in_err-write_windows-clause-writes : goal.returns-in_err-write_windows-clause-writes
returns-in_err-write_windows-clause-writes g c = writes_on c.from_residual.result c.in_err-write_windows.field-0.0 (g.K.Sink.failures c.args.sink.now) (g.K.Sink.failures c.write_windows.new.sink) c.from_residual.ensures.1 c.in_err-write_windows.ensures.writes
