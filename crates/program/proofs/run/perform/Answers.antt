use Rattle.std.proofs.Common.{inl, inr, refl, subst, sym}
use Rattle.command_line.specs.Words.{IsHelp}
use Rattle.trace.specs.Streams.{taken_by}
use Rattle.trace.specs.declared.fault.PlayFault.TheVariants as texts
use Rattle.program.specs.declared.fault.Ending.TheVariants.{Done}
use Rattle.program.specs.declared.fault.RunFault.TheVariants as faults
use Rattle.program.specs.Files.{KnownFiles, read_from}
use Rattle.program.specs.Run.{Obeyed}
use Rattle.program.specs.Told.{TextWritten}
use Rattle.program.proofs.Finishing.{failed_so}
use Rattle.program.proofs.run.perform.Goals as goal

pub returns-in_err-write_all-in-Err-Help-clause-done : goal.returns-in_err-write_all-in-Err-Help-clause-done
returns-in_err-write_all-in-Err-Help-clause-done g c =
    let help = c.as_bytes.result.now in
    let taken = taken_by g.K.Sink.taken g.K.Sink.sent c.args.sink.now c.write_all.new.sink in
    let told : TextWritten Done help taken c.from_residual.result =
    rw (failed_so c.from_residual.result (faults.Text texts.Write) c.from_residual.ensures.1) (refl, c.in_err-write_all-in-Err-Help.ensures.err) in
    inr (inl (c.in-Err-Help.ensures.help (subst IsHelp (sym c.in-Err-Help.field-0-is) tt), help, told))

pub returns-clause-done : goal.returns-clause-done
returns-clause-done g c =
    let files : KnownFiles = record { named = g.O.Opener.known c.args.host.now.opener.now; input = read_from (g.R.Read.remaining c.args.input) } in
    let taken = taken_by g.K.Sink.taken g.K.Sink.sent c.args.sink.now c.obey.new.sink in
    inl (c.in-Ok.job, c.in-Ok.ensures.by, subst (λ words. Obeyed files words c.in-Ok.job taken c.obey.result) c.words-asked.ensures c.obey.ensures.done)
