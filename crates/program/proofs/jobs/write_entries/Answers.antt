use Rattle.std.proofs.Common.{List, ℕ, [], ◌∷◌, ◌++◌, ap, ◌∙◌, subst, arith}
use Rattle.trace.specs.Streams.{GrowsByPart}
use Rattle.trace.specs.declared.player.style.Style.TheVariants.{Entries}
use Rattle.trace.specs.Playing.{written_line}
use Rattle.program.proofs.Writing.{with_next, with_part, at_end}
use Rattle.inspector.proofs.Parts.{at_err}
use Rattle.program.proofs.jobs.write_entries.Goals as goal

pub returns-in_err-end_line-clause-err : goal.returns-in_err-end_line-clause-err
returns-in_err-end_line-clause-err g c =
    let old = g.K.Sink.taken c.args.sink.now in
    let mid = g.K.Sink.taken c.loop-entry.sink in
    let new = g.K.Sink.taken c.end_line.new.sink in
    let Part : List ℕ → Type 0 = λ line. GrowsByPart mid new (line ++ 10 ∷ []) in
    at_err c.from_residual.result _
    (with_part (written_line Entries) old mid new c.args.history.now c.loop-entry.entry-index _ c.loop-entry-test.true c.loop-entry.invariant.text (subst Part c.write_entry-end.ensures.text c.in_err-end_line.ensures.err))

pub loop-entry-preserved : goal.loop-entry-preserved
loop-entry-preserved g c =
    let mid = g.K.Sink.taken c.loop-entry.sink in
    record {
      text = with_next (written_line Entries) (g.K.Sink.taken c.args.sink.now) mid (g.K.Sink.taken c.end_line.new.sink) c.args.history.now c.loop-entry.entry-index _ c.loop-entry-test.true c.loop-entry.invariant.text
          (c.in_ok-end_line.ensures.ok ∙ ap (λ t. mid ++ (t ++ 10 ∷ [])) c.write_entry-end.ensures.text);
      failures = omega (arith, c.in_ok-end_line.ensures.cause, c.loop-entry.invariant.failures);
    }

pub returns-clause-ok : goal.returns-clause-ok
returns-clause-ok g c = at_end (written_line Entries) (g.K.Sink.taken c.args.sink.now) (g.K.Sink.taken c.loop-entry.sink) c.args.history.now c.loop-entry.entry-index c.loop-entry-test.false c.loop-entry.invariant.text
