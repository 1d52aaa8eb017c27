use Rattle.std.proofs.Common.{◌++◌, append_assoc, ap, ◌∙◌}
use Rattle.trace.specs.declared.player.style.Style.TheVariants.{Entries}
use Rattle.trace.specs.Playing.{written_of, written_version}
use Rattle.inspector.proofs.Parts.{part_first, part_after, at_err, err_so}
use Rattle.program.proofs.Finishing.{ok_so}
use Rattle.program.proofs.jobs.write_history.Goals as goal

pub returns-in_err-write_version-clause-err : goal.returns-in_err-write_version-clause-err
returns-in_err-write_version-clause-err g c =
    at_err c.from_residual.result _
    (part_first (g.K.Sink.taken c.args.sink.now) (g.K.Sink.taken c.write_version.new.sink) (written_version c.args.version Entries) (written_of Entries c.args.history.now) c.in_err-write_version.ensures.err)

pub returns-clause-ok : goal.returns-clause-ok
returns-clause-ok g c =
    let old = g.K.Sink.taken c.args.sink.now in
    let told = written_version c.args.version Entries in
    let entries = written_of Entries c.args.history.now in
    ok_so c.write_entries.result _ _ (λ e. e ∙ ap (λ t. t ++ entries) c.in_ok-write_version.ensures.ok ∙ append_assoc old told entries) c.write_entries.ensures.ok

pub returns-clause-err : goal.returns-clause-err
returns-clause-err g c =
    let old = g.K.Sink.taken c.args.sink.now in
    let mid = g.K.Sink.taken c.write_version.new.sink in
    let new = g.K.Sink.taken c.write_entries.new.sink in
    err_so c.write_entries.result _ _ (part_after old mid new (written_version c.args.version Entries) (written_of Entries c.args.history.now) c.in_ok-write_version.ensures.ok) c.write_entries.ensures.err
