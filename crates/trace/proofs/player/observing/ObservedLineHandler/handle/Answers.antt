use Rattle.std.proofs.Common.{Ok, Option, ◌∙◌, sym, subst}
use Rattle.std.proofs.lemmas.Result.{err_from_is_err_and}
use Rattle.trace.specs.declared.line.Line.{Line}
use Rattle.trace.specs.Numbered.{LineRead}
use Rattle.trace.specs.TextLine.{text_in}
use Rattle.trace.specs.Observing.{observed}
use Rattle.trace.proofs.LinesSeen.{text_stops, refused_after, version_observed, skip_observed, event_observed}
use Rattle.trace.proofs.player.observing.ObservedLineHandler.handle.Goals as goal

pub returns-in_default-clause-handles : goal.returns-in_default-clause-handles
returns-in_default-clause-handles g c =
    version_observed g.O.Observer.has_seen (text_in c.args.text) c.args.self.now c.in_ok-line.field-0 c.in_ok-line.ensures (λ line. c.in_default.not-Some line)

pub returns-in_err-do_line-clause-handles : goal.returns-in_err-do_line-clause-handles
returns-in_err-do_line-clause-handles g c =
    let p = err_from_is_err_and c.from_residual-in_err-do_line.result c.from_residual-in_err-do_line.ensures.1 in
    let read = subst (λ (o : Option Line). LineRead (text_in c.args.text) (Ok o)) c.in-Some.is c.in_ok-line.ensures in
    rw (p.1, p.2) (text_stops g.O.Observer.has_seen g.O.Observer.may_be_refused (text_in c.args.text) c.in-Some.line c.args.self.now (observed c.do_line.new.player c.do_line.new.observer) c.in_err-do_line.field-0.0 read c.in_err-do_line.ensures.done)

pub returns-in_err-line_done-clause-handles : goal.returns-in_err-line_done-clause-handles
returns-in_err-line_done-clause-handles g c =
    let p = err_from_is_err_and c.from_residual-in_err-line_done.result c.from_residual-in_err-line_done.ensures.1 in
    let read = subst (λ (o : Option Line). LineRead (text_in c.args.text) (Ok o)) c.in-Some.is c.in_ok-line.ensures in
    rw (p.1, p.2) (refused_after g.O.Observer.has_seen (text_in c.args.text) c.in-Some.line c.args.self.now c.do_line.new.player c.do_line.new.observer read c.in_ok-do_line.ensures.done)

pub returns-in_ok-line_done-clause-handles : goal.returns-in_ok-line_done-clause-handles
returns-in_ok-line_done-clause-handles g c =
    let read = subst (λ (o : Option Line). LineRead (text_in c.args.text) (Ok o)) c.in-Some.is c.in_ok-line.ensures in
    event_observed g.O.Observer.has_seen (text_in c.args.text) c.in-Some.line c.args.self.now c.do_line.new.player c.do_line.new.observer c.line_done.new.self c.is_event.result read c.in_ok-do_line.ensures.done c.is_event.ensures c.if-is_event.true
    (λ run has now. c.in_ok-line_done.ensures.seen run has (now ∙ sym c.recorded.ensures))

pub returns-else-is_event-clause-handles : goal.returns-else-is_event-clause-handles
returns-else-is_event-clause-handles g c =
    let read = subst (λ (o : Option Line). LineRead (text_in c.args.text) (Ok o)) c.in-Some.is c.in_ok-line.ensures in
    skip_observed g.O.Observer.has_seen (text_in c.args.text) c.in-Some.line c.args.self.now c.do_line.new.player c.do_line.new.observer c.is_event.result read c.in_ok-do_line.ensures.done c.is_event.ensures c.if-is_event.false
