use Rattle.std.proofs.Common.{[], inl, inr, refl, sym}
use Rattle.std.proofs.lemmas.Result.{err_from_is_err_and}
use Rattle.trace.specs.Observing.{observed, run_by}
use Rattle.trace.specs.Playing.{session}
use Rattle.trace.specs.Surveying.{NewRun}
use Rattle.trace.proofs.LinesSeen.{stops_new}
use Rattle.trace.proofs.player.surveying.survey_run.Goals as goal

pub returns-in_err-player-clause-surveyed : goal.returns-in_err-player-clause-surveyed
returns-in_err-player-clause-surveyed g c =
    let p = err_from_is_err_and c.from_residual.result c.from_residual.ensures.1 in
    rw (p.1, p.2) (inl refl)

pub returns-in_err-observer-clause-surveyed : goal.returns-in_err-observer-clause-surveyed
returns-in_err-observer-clause-surveyed g c =
    let p = err_from_is_err_and c.from_residual-in_err-observer.result c.from_residual-in_err-observer.ensures.1 in
    rw (p.1, p.2) (inl refl)

pub returns-in_err-finish-clause-surveyed : goal.returns-in_err-finish-clause-surveyed
returns-in_err-finish-clause-surveyed g c =
    let p = err_from_is_err_and c.from_residual-in_err-finish.result c.from_residual-in_err-finish.ensures.1 in
    rw (p.1, p.2) (inr (c.in_ok-player.player, c.observe.new.run.player, c.in_ok-player.ensures, inr c.in_ok-end.ensures.observed.0))

pub returns-in_err-end-clause-surveyed : goal.returns-in_err-end-clause-surveyed
returns-in_err-end-clause-surveyed g c =
    let p = err_from_is_err_and c.from_residual-in_err-end.result c.from_residual-in_err-end.ensures.1 in
    rw (p.1, p.2) (stops_new g.O.Observer.has_seen c.args.config.now _ (observed c.in_ok-player.player c.in_ok-observer.observer) c.observe.new.run c.in_err-end.field-0.0 c.in_err-end.ensures.observed c.in_ok-player.ensures)

pub finish-requires : goal.finish-requires
finish-requires g c =
    let o = c.in_ok-end.ensures.observed in
    (run_by o.0, o.1)

pub returns-clause-surveyed : goal.returns-clause-surveyed
returns-clause-surveyed g c =
    let o = c.in_ok-end.ensures.observed in
    let run : NewRun c.args.config.now _ = record { old = c.in_ok-player.player; new = session c.observe.new.run.player []; played = o.0; is_new = c.in_ok-player.ensures } in
    (run, c.in_ok-finish.ensures _ _ run refl (sym o.2) o.1)
