use Rattle.std.proofs.Common.{subst}
use Rattle.trace.specs.Streams.{taken_by}
use Rattle.program.specs.declared.fault.Ending.TheVariants.{Done}
use Rattle.program.specs.Told.{TextWritten}
use Rattle.program.proofs.MadeText.{ended_told}
use Rattle.program.proofs.told.tell_text.Goals as goal

pub returns-clause-told : goal.returns-clause-told
returns-clause-told g c =
    let taken = taken_by g.K.Sink.taken g.K.Sink.sent c.args.sink.now c.write_all.new.sink in
    rw (c.in-Ok.is) (subst (λ text. TextWritten Done text taken c.ended.result) c.as_bytes.ensures.value
    (ended_told _ taken c.write_all.result c.ended.result c.write_all.ensures.ok c.write_all.ensures.err c.ended.ensures.ok c.ended.ensures.err))
