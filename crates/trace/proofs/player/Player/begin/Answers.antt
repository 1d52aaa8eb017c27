use Rattle.std.proofs.Common.{true, ap, ◌∙◌, sym, subst}
use Rattle.quanta.specs.Timetable.{Timetable, with_reserved}
use Rattle.trace.specs.declared.line.Line.TheVariants as lines
use Rattle.trace.specs.Observing.{observed, LineSeen}
use Rattle.trace.specs.Player.{PlayerState, player_of}
use Rattle.trace.proofs.Doing.{cycle_begun, cycle_on}
use Rattle.trace.proofs.Seeing.{begin_seen}
use Rattle.trace.proofs.player.Player.begin.Goals as goal

pub returns-then-is_ok-clause-begun : goal.returns-then-is_ok-clause-begun
returns-then-is_ok-clause-begun g c =
    let p = player_of c.self.inside in
    let new = record p { course = c.begin.new.self.course; timetable = with_reserved c.start_cycle.new.self 0; begun = true } in
    subst (λ (x : PlayerState). LineSeen g.O.Observer.has_seen c.args.number lines.Begin (observed x c.args.observer.now) (observed new c.begins.new.self)) c.self.view_is
    (begin_seen g.O.Observer.has_seen c.args.number (observed p c.args.observer.now) (observed new c.begins.new.self)
    (cycle_begun p c.begin.new.self.course (with_reserved c.start_cycle.new.self 0) c.begin.result (sym c.is_ok.ensures.value ∙ c.if-is_ok.true) c.begin.ensures.does (ap (λ (t : Timetable). with_reserved t 0) c.start_cycle.ensures))
    c.in_ok-begins.ensures.seen)

pub returns-else-is_ok-clause-begun : goal.returns-else-is_ok-clause-begun
returns-else-is_ok-clause-begun g c =
    let p = player_of c.self.inside in
    let new = record p { course = c.begin.new.self.course } in
    subst (λ (x : PlayerState). LineSeen g.O.Observer.has_seen c.args.number lines.Begin (observed x c.args.observer.now) (observed new c.begins.new.self)) c.self.view_is
    (begin_seen g.O.Observer.has_seen c.args.number (observed p c.args.observer.now) (observed new c.begins.new.self)
    (cycle_on p c.begin.new.self.course c.begin.result (sym c.is_ok.ensures.value ∙ c.if-is_ok.false) c.begin.ensures.does)
    c.in_ok-begins.ensures.seen)
