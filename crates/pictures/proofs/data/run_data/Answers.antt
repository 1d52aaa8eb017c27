use Rattle.std.proofs.Common.{[], None, inl, inr, refl, subst}
use Rattle.std.proofs.lemmas.Result.{err_from_is_err_and}
use Rattle.trace.specs.Observing.{observed, run_by}
use Rattle.trace.specs.Playing.{session}
use Rattle.trace.specs.Surveying.{NewRun}
use Rattle.trace.proofs.LinesSeen.{stops_new}
use Rattle.std.specs.Prelude.{string_bytes}
use Rattle.trace.specs.declared.player.style.Style.TheVariants.{Nothing}
use Rattle.inspector.proofs.Histories.{played_settings}
use Rattle.pictures.specs.Data.{HasRun, IsRunData}
use Rattle.pictures.proofs.data.run_data.Goals as goal

pub returns-in_err-player-clause-told : goal.returns-in_err-player-clause-told
returns-in_err-player-clause-told g c =
    let p = err_from_is_err_and c.from_residual.result c.from_residual.ensures.1 in
    rw (p.1, p.2) (inl refl)

pub returns-in_err-end-clause-told : goal.returns-in_err-end-clause-told
returns-in_err-end-clause-told g c =
    let p = err_from_is_err_and c.from_residual-in_err-end.result c.from_residual-in_err-end.ensures.1 in
    rw (p.1, p.2) (stops_new HasRun c.args.config.now _ (observed c.in_ok-player.player c.new-observer.result) c.observe.new.run c.in_err-end.field-0.0 c.in_err-end.ensures.observed c.in_ok-player.ensures)

pub returns-in_err-run_text-clause-told : goal.returns-in_err-run_text-clause-told
returns-in_err-run_text-clause-told g c =
    let p = err_from_is_err_and c.from_residual-in_err-run_text.result c.from_residual-in_err-run_text.ensures.1 in
    rw (p.1, p.2) (inr (c.in_ok-player.player, c.observe.new.run.player, c.in_ok-player.ensures, inr c.in_ok-end.ensures.observed.0))

pub run_text-requires : goal.run_text-requires
run_text-requires g c =
    played_settings c.args.config.now None Nothing _ (session c.in_ok-player.player []) (session c.observe.new.run.player []) c.in_ok-player.ensures c.in_ok-end.ensures.observed.0

pub returns-clause-told : goal.returns-clause-told
returns-clause-told g c =
    let o = c.in_ok-end.ensures.observed in
    let run : NewRun c.args.config.now _ = record { old = c.in_ok-player.player; new = session c.observe.new.run.player []; played = o.0; is_new = c.in_ok-player.ensures } in
    let player = c.observe.new.run.player in
    let text = string_bytes c.in_ok-run_text.field-0 in
    (run, subst (λ lines. IsRunData c.args.config.now (run_by o.0) player lines text) o.2 (c.in_ok-run_text.ensures (run_by o.0) o.1 refl))
