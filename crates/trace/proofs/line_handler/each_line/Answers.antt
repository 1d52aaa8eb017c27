use Rattle.std.proofs.Common.{◌+◌, ◌∙◌, ap, subst, refl, sym, arith}
use Rattle.std.proofs.lemmas.Result.{err_from_is_err_and}
use Rattle.std.specs.Prelude.{Ok}
use Rattle.trace.specs.declared.line_handler.InputEnd.{InputEnd}
use Rattle.trace.specs.Handling.{HandlesLine, HandlerStops}
use Rattle.trace.specs.LineReader.{Versions}
use Rattle.trace.specs.TextLine.{Text}
use Rattle.trace.proofs.LinesProcessed.{at_first, one_line, no_line, goes_on, ends_without, ends_over, ends_at}
use Rattle.trace.proofs.Reading.{reading_at_first, reading_on}
use Rattle.trace.proofs.line_handler.each_line.Goals as goal

pub loop-handler-init : goal.loop-handler-init
loop-handler-init g c = rw c.new-reader.ensures (record {
  done = at_first (HandlesLine g.H.LineHandler.handles) (g.S.Source.given c.args.source.now) (g.S.Source.ended c.args.source.now) c.args.handler.now;
  ready = c.requires;
  reading = reading_at_first (g.S.Source.given c.args.source.now) (g.S.Source.failures c.args.source.now) (g.S.Source.input c.args.source.now);
})

pub returns-in_err-next_line-clause-handled : goal.returns-in_err-next_line-clause-handled
returns-in_err-next_line-clause-handled g c =
    let p = err_from_is_err_and c.from_residual.result c.from_residual.ensures.1 in
    rw (p.1, p.2) (record {
      over = ends_without c.loop-handler.invariant.done c.next_line.new.self _ _ InputEnd (HandlerStops g.H.LineHandler.handles) _ c.in_err-next_line.ensures.hands;
      tells = tt;
    })

pub handle-requires : goal.handle-requires
handle-requires g c =
    let e = c.in_ok-next_line.ensures in
    let next = one_line c.loop-handler.reader.text.number c.next_line.new.self c.in_ok-next_line.field-0 c.if-branch.true e.hands.number in
    subst (λ n. g.H.LineHandler.is_ready n c.loop-handler.handler) (sym (ap (λ (t : Text). t.number) c.text.ensures ∙ next)) c.loop-handler.invariant.ready

pub loop-handler-preserved : goal.loop-handler-preserved
loop-handler-preserved g c =
    let e = c.in_ok-next_line.ensures in
    let i = c.loop-handler.invariant in
    record {
      done = goes_on i.done c.next_line.new.self _ _ _ e.hands c.if-branch.true _ c.text.ensures c.handle.new.self _ (refl, c.in_ok-handle.ensures.handles);
      ready = subst (λ n. g.H.LineHandler.is_ready (n + 1) c.handle.new.self) (ap (λ (t : Text). t.number) c.text.ensures) c.in_ok-handle.ensures.ready;
      reading = reading_on i.reading e.behind e.cause (e.input (refl {a = 0}));
    }

pub returns-in_err-handle-clause-handled : goal.returns-in_err-handle-clause-handled
returns-in_err-handle-clause-handled g c =
    let e = c.in_ok-next_line.ensures in
    let p = err_from_is_err_and c.from_residual-in_err-handle.result c.from_residual-in_err-handle.ensures.1 in
    rw (p.1, p.2) (record {
      over = ends_at c.loop-handler.invariant.done c.next_line.new.self _ _ _ e.hands c.if-branch.true _ c.text.ensures InputEnd (HandlerStops g.H.LineHandler.handles) _ c.handle.new.self c.in_err-handle.ensures.handles;
      tells = tt;
    })

pub returns-clause-handled : goal.returns-clause-handled
returns-clause-handled g c =
    let e = c.in_ok-next_line.ensures in
    let i = c.loop-handler.invariant in
    let none = no_line c.loop-handler.reader.text.number c.next_line.new.self c.in_ok-next_line.field-0 c.if-branch.false e.hands.number in
    record {
      over = ends_over i.done c.next_line.new.self _ _ _ e.hands c.if-branch.false _ (λ rest all. (all.0, all.1, refl));
      tells = (omega (arith, c.number.ensures, none, i.done.counted), c.next_version.ensures ∙ subst (λ b. Versions (Ok b) c.loop-handler.reader c.next_line.new.self) c.if-branch.false e.hands.versions);
    }
