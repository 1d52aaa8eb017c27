use Rattle.std.proofs.Common.{◌≡◌, ◌+◌, Ok, ap, ◌∙◌, sym, subst, refl, arith}
use Rattle.std.specs.Prelude.{OnOk}
use Rattle.std.proofs.lemmas.Result.{err_from_is_err_and}
use Rattle.quanta.specs.Timetable.{Timetable, with_reserved}
use Rattle.trace.specs.Observing.{observed, SeesDue}
use Rattle.trace.specs.Player.{PlayerState, player_of}
use Rattle.trace.specs.Ticking.{DueDone}
use Rattle.trace.proofs.Seeing.{none_seen, one_seen, ticks_seen, ticks_refused}
use Rattle.trace.proofs.Ticking.{one_later, clock_stays}
use Rattle.trace.proofs.player.Player.tick.Goals as goal

pub loop-init : goal.loop-init
loop-init g c =
    let e : c.now-2.result ≡ c.args.self.now.timetable.clock = c.now-2.ensures.clock ∙ ap (λ (x : PlayerState). x.timetable.clock) c.self.view_is in
    let same : c.now-2.result ≡ c.now.result = c.now-2.ensures.clock ∙ sym c.now.ensures.clock in
    record {
      within = omega (arith, c.if-ticks-now.false, c.now.ensures.within, same);
      is = ap (λ n. n + c.args.ticks) e;
      clock = refl;
      seen = none_seen g.O.Observer.has_seen (c.now-2.result + c.args.ticks) (observed c.args.self.now c.args.observer.now);
    }

pub loop-smaller : goal.loop-smaller
loop-smaller g c =
    one_later c.loop.self c.due_quantum.new.self (c.now-2.result + c.args.ticks)
    (subst (λ b. DueDone (c.now-2.result + c.args.ticks) c.loop.self c.due_quantum.new.self (Ok b)) c.if-branch.true c.in_ok-due_quantum.ensures.done) c.due_quantum.ensures.ticks

pub loop-preserved : goal.loop-preserved
loop-preserved g c =
    let i = c.loop.invariant in
    let until = c.now-2.result + c.args.ticks in
    let old = observed c.loop.self c.loop.observer in
    let new = observed c.due_quantum.new.self c.due_quantum.new.observer in
    let d = subst (λ b. DueDone until c.loop.self c.due_quantum.new.self (Ok b)) c.if-branch.true c.in_ok-due_quantum.ensures.done in
    let s = subst (λ b. SeesDue g.O.Observer.has_seen old new (Ok b)) c.if-branch.true c.in_ok-due_quantum.ensures.seen in
    record {
      within = i.within;
      is = i.is;
      clock = clock_stays c.loop.self c.due_quantum.new.self until d ∙ i.clock;
      seen = one_seen g.O.Observer.has_seen until (observed c.args.self.now c.args.observer.now) old new d s i.seen;
    }

pub returns : goal.returns
returns g c =
    let i = c.loop.invariant in
    let until = c.now-2.result + c.args.ticks in
    let mid = observed c.loop.self c.loop.observer in
    let d = subst (λ b. DueDone until c.loop.self c.due_quantum.new.self (Ok b)) c.if-branch.false c.in_ok-due_quantum.ensures.done in
    let s = subst (λ b. SeesDue g.O.Observer.has_seen mid (observed c.due_quantum.new.self c.due_quantum.new.observer) (Ok b)) c.if-branch.false c.in_ok-due_quantum.ensures.seen in
    let q = player_of c.self-2.inside in
    let t = with_reserved c.advance.new.self 0 in
    let is : q ≡ c.loop.self = c.self-2.view_is ∙ d.1 in
    let moved : t ≡ record q.timetable { clock = q.timetable.clock + c.args.ticks } =
    ap (λ (t : Timetable). with_reserved t 0) (subst (λ r. OnOk r (c.advance.new.self ≡ record c.self-2.inside.schedule { clock = c.self-2.inside.schedule.clock + c.args.ticks })) c.unwrap.ensures c.advance.ensures.ok) in
    ticks_seen g.O.Observer.has_seen c.args.ticks until (observed c.args.self.now c.args.observer.now) mid (observed (record q { timetable = t }) c.due_quantum.new.observer) t i.within i.is i.clock i.seen d.0
    (ap (λ (x : PlayerState). record x { timetable = t }) is) (moved ∙ ap (λ (x : PlayerState). record x.timetable { clock = x.timetable.clock + c.args.ticks }) is) s

pub returns-in_err-due_quantum : goal.returns-in_err-due_quantum
returns-in_err-due_quantum g c =
    let p = err_from_is_err_and c.from_residual.result c.from_residual.ensures.1 in
    let i = c.loop.invariant in
    rw (p.1, p.2) (ticks_refused g.O.Observer.has_seen c.args.ticks (c.now-2.result + c.args.ticks) (observed c.args.self.now c.args.observer.now) (observed c.loop.self c.loop.observer) (observed c.due_quantum.new.self c.due_quantum.new.observer) c.in_err-due_quantum.field-0.0 i.is i.seen c.in_err-due_quantum.ensures.done)
