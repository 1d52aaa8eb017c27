use Rattle.std.proofs.Common.{[], ◌∷◌, ◌+◌, ap, ◌∙◌, sym, arith, refl, append-nil, length}
use Rattle.std.proofs.lemmas.Result.{err_from_is_err_and}
use Rattle.std.proofs.lemmas.List.{length_push}
use Rattle.trace.proofs.LinesProcessed.{one_line, at_first, goes_on, ends_without, ends_over, ends_in, ends_at}
use Rattle.trace.specs.declared.transcripts.histories.Checked.{Checked}
use Rattle.trace.specs.TextLine.{Text}
use Rattle.trace.specs.LinesProcessed.{LineEffect}
use Rattle.trace.specs.Histories.{DoesNothing, DoesEntry, HistoryStops, IsWrong}
use Rattle.trace.proofs.transcripts.Checking.{checked}
use Rattle.trace.proofs.Reading.{reading_at_first, reading_on}
use Rattle.trace.proofs.transcripts.histories.check_entries.Goals as goal

pub loop-reader-init : goal.loop-reader-init
loop-reader-init g c = rw c.new-reader.ensures (record {
  done = at_first (LineEffect DoesNothing DoesEntry) (g.S.Source.given c.args.source.now) (g.S.Source.ended c.args.source.now) c.args.reference.now;
  good = refl;
  few = omega arith;
  reading = reading_at_first (g.S.Source.given c.args.source.now) (g.S.Source.failures c.args.source.now) (g.S.Source.input c.args.source.now);
})

pub returns-in_err-next_line-clause-checked : goal.returns-in_err-next_line-clause-checked
returns-in_err-next_line-clause-checked g c =
    let p = err_from_is_err_and c.from_residual.result c.from_residual.ensures.1 in
    let e = c.in_err-next_line.ensures in
    rw (p.1, p.2) (checked _ _ _ _
    (ends_without c.loop-reader.invariant.done c.next_line.new.self _ _ Checked HistoryStops _ e.hands))

pub returns-clause-checked : goal.returns-clause-checked
returns-clause-checked g c =
    let e = c.in_ok-next_line.ensures in
    let i = c.loop-reader.invariant in
    checked _ _ _ _
    (ends_over i.done c.next_line.new.self _ _ _ e.hands c.if-branch.false _ (λ rest all. (all.0, all.1, refl, i.good)))

pub returns-in_err-check_line-clause-checked : goal.returns-in_err-check_line-clause-checked
returns-in_err-check_line-clause-checked g c =
    let p = err_from_is_err_and c.from_residual-in_err-check_line.result c.from_residual-in_err-check_line.ensures.1 in
    let e = c.in_ok-next_line.ensures in
    rw (p.1, p.2) (checked _ _ _ _
    (ends_at c.loop-reader.invariant.done c.next_line.new.self _ _ _ e.hands c.if-branch.true _ c.text.ensures Checked HistoryStops _ _ c.in_err-check_line.ensures))

pub loop-reader-preserved-in-Skipped : goal.loop-reader-preserved-in-Skipped
loop-reader-preserved-in-Skipped g c =
    let e = c.in_ok-next_line.ensures in
    let i = c.loop-reader.invariant in
    record {
      done = goes_on i.done c.next_line.new.self _ _ _ e.hands c.if-branch.true _ c.text.ensures _ [] (rw c.in-Skipped.is at c.in_ok-check_line.ensures);
      good = i.good ∙ ap length (sym (append-nil i.done.events));
      few = omega (arith, e.hands.number, i.few);
      reading = reading_on i.reading e.behind e.cause (e.input (refl {a = 0}));
    }

pub loop-reader-preserved : goal.loop-reader-preserved
loop-reader-preserved g c =
    let e = c.in_ok-next_line.ensures in
    let i = c.loop-reader.invariant in
    let does = rw c.in-Done.is at c.in_ok-check_line.ensures in
    let more = one_line c.loop-reader.reader.text.number c.next_line.new.self c.in_ok-next_line.field-0 c.if-branch.true e.hands.number in
    record {
      done = goes_on i.done c.next_line.new.self _ _ _ e.hands c.if-branch.true _ c.text.ensures _ (does.0 ∷ []) does.1;
      good = ap (λ n. n + 1) i.good ∙ sym (length_push i.done.events does.0);
      few = omega (arith, more, i.few);
      reading = reading_on i.reading e.behind e.cause (e.input (refl {a = 0}));
    }

pub returns-in-Wrong-clause-checked : goal.returns-in-Wrong-clause-checked
returns-in-Wrong-clause-checked g c =
    let e = c.in_ok-next_line.ensures in
    let i = c.loop-reader.invariant in
    let wrong = rw c.in-Wrong.is at c.in_ok-check_line.ensures in
    checked _ _ _ _
    (ends_in i.done c.next_line.new.self _ _ _ e.hands c.if-branch.true _ c.text.ensures (IsWrong c.loop-reader.reference) wrong.0 _ (λ count rest next. (c.number.ensures ∙ ap (λ (t : Text). t.number) (sym c.text.ensures) ∙ count, next, wrong.1)))
