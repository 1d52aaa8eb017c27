use Rattle.std.proofs.Common.{ℕ, ◌+◌, List, Option, drop, ap, ◌∙◌, sym, subst, refl, arith}
use Rattle.std.proofs.lemmas.List.{drop_all}
use Rattle.pictures.specs.Lines.{lines_text, present}
use Rattle.pictures.proofs.Lines.{lines_are, present_some, present_none}
use Rattle.pictures.proofs.Parts.{SoFar, at_err, none_yet, further, cut_short, all_of}
use Rattle.pictures.proofs.writing.write_present.Goals.{in-Some+in_ok-write_line, in_default}
use Rattle.pictures.proofs.writing.write_present.Goals as goal

pub loop-line-init : goal.loop-line-init
loop-line-init g c = record { written = none_yet (lines_are g.L.DocumentLine.line) _ _; failures = refl }

pub returns-in_err-write_line-clause-err : goal.returns-in_err-write_line-clause-err
returns-in_err-write_line-clause-err g c =
    let on = present_some c.args.lines.now c.line-item.result c.line-item.result c.in-Some.line c.loop-line.line-index c.loop-line-test.true c.line-item.is c.in-Some.is in
    at_err c.from_residual.result _ (cut_short (lines_are g.L.DocumentLine.line) _ _ _ _ c.loop-line.invariant.written _ _ on _ c.in_err-write_line.ensures.err)

pub loop-line-preserved : goal.loop-line-preserved
loop-line-preserved g c =
    let lines : List (Option g.row.L.Denot) = c.args.lines.now in
    let text : List g.row.L.Denot → List ℕ = lines_text g.L.DocumentLine.line in
    let taken : List ℕ = g.K.Sink.taken c.args.sink.now in
    let rest : List g.row.L.Denot = present (drop (c.loop-line.line-index + 1) lines) in
    elim c.match-line.branch [
      | in-Some+in_ok-write_line w ↦
          (let on = present_some lines c.line-item.result c.line-item.result w.in-Some.line c.loop-line.line-index c.loop-line-test.true c.line-item.is w.in-Some.is in
          record {
            written = subst (λ s. SoFar text taken (g.K.Sink.taken s) (present lines) rest) (sym w.sink-is) (further (lines_are g.L.DocumentLine.line) _ _ _ _ c.loop-line.invariant.written _ _ on _ w.in_ok-write_line.ensures.ok);
            failures = ap g.K.Sink.failures w.sink-is ∙ omega (arith, w.in_ok-write_line.ensures.cause, c.loop-line.invariant.failures);
          })
      | in_default w ↦
          (let on = present_none lines c.line-item.result c.line-item.result c.loop-line.line-index c.loop-line-test.true c.line-item.is w.in_default.is in
          record {
            written = subst (λ s. SoFar text taken (g.K.Sink.taken s) (present lines) rest) (sym w.sink-is) (subst (SoFar text taken (g.K.Sink.taken c.loop-line.sink) (present lines)) on c.loop-line.invariant.written);
            failures = ap g.K.Sink.failures w.sink-is ∙ c.loop-line.invariant.failures;
          })
    ]

pub returns-clause-ok : goal.returns-clause-ok
returns-clause-ok g c =
    all_of _ _ _ _ c.loop-line.invariant.written (ap present (drop_all c.loop-line.line-index c.args.lines.now c.loop-line-test.false))
