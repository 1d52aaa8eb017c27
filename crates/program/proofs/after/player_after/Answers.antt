use Rattle.std.proofs.Common.{Ok, Err, inl, inr, refl, arith}
use Rattle.trace.specs.declared.player.style.Style.TheVariants.{Nothing}
use Rattle.trace.specs.Playing.{session, PlayedUpTo}
use Rattle.trace.specs.Streams.{given_by, taken_by}
use Rattle.trace.specs.declared.fault.PlayFault.TheVariants as texts
use Rattle.program.specs.declared.fault.RunFault.TheVariants as faults
use Rattle.inspector.proofs.Histories.{played_settings}
use Rattle.program.proofs.Alive.{not_held}
use Rattle.program.proofs.Finishing.{failed_so}
use Rattle.program.proofs.Failing.{reads_text, writes_text, memory_unread, memory_unwritten}
use Rattle.program.proofs.after.player_after.Goals as goal

pub returns-in_err-player-clause-play : goal.returns-in_err-player-clause-play
returns-in_err-player-clause-play g c = rw (failed_so c.from_residual.result (faults.Text texts.NoMemory) c.from_residual.ensures.1) (inl (refl, refl, refl))

pub returns-in_err-play_up_to-clause-play : goal.returns-in_err-play_up_to-clause-play
returns-in_err-play_up_to-clause-play g c =
    let given = given_by g.S.Source.given g.S.Source.ended c.args.source.now c.play_up_to.new.source in
    let old = session c.in_ok-player.player (g.K.Sink.taken c.args.sink.now) in
    let new = session c.play_up_to.new.player (g.K.Sink.taken c.play_up_to.new.sink) in
    let taken = taken_by g.K.Sink.taken g.K.Sink.sent c.args.sink.now c.play_up_to.new.sink in
    let fault = c.in_err-play_up_to.field-0.0 in
    let played = not_held taken (Err fault) (PlayedUpTo c.args.after Nothing given old new) c.in_err-play_up_to.ensures.played in
    rw (failed_so c.from_residual-in_err-play_up_to.result _ c.from_residual-in_err-play_up_to.ensures.1)
    (inr (c.in_ok-player.player, c.play_up_to.new.player, fault, c.in_ok-player.ensures, played, refl))

pub returns-clause-play : goal.returns-clause-play
returns-clause-play g c =
    let given = given_by g.S.Source.given g.S.Source.ended c.args.source.now c.play_up_to.new.source in
    let old = session c.in_ok-player.player (g.K.Sink.taken c.args.sink.now) in
    let new = session c.play_up_to.new.player (g.K.Sink.taken c.play_up_to.new.sink) in
    let taken = taken_by g.K.Sink.taken g.K.Sink.sent c.args.sink.now c.play_up_to.new.sink in
    (c.in_ok-player.player, c.in_ok-player.ensures, not_held taken (Ok tt) (PlayedUpTo c.args.after Nothing given old new) c.in_ok-play_up_to.ensures.played)

pub returns-clause-settings : goal.returns-clause-settings
returns-clause-settings g c =
    let given = given_by g.S.Source.given g.S.Source.ended c.args.source.now c.play_up_to.new.source in
    let old = session c.in_ok-player.player (g.K.Sink.taken c.args.sink.now) in
    let new = session c.play_up_to.new.player (g.K.Sink.taken c.play_up_to.new.sink) in
    let taken = taken_by g.K.Sink.taken g.K.Sink.sent c.args.sink.now c.play_up_to.new.sink in
    played_settings c.args.config.now c.args.after Nothing given old new c.in_ok-player.ensures (not_held taken (Ok tt) (PlayedUpTo c.args.after Nothing given old new) c.in_ok-play_up_to.ensures.played)

pub returns-in_err-player-clause-reads : goal.returns-in_err-player-clause-reads
returns-in_err-player-clause-reads g c = omega (arith, memory_unread c.from_residual.result c.from_residual.ensures.1)

pub returns-in_err-player-clause-writes : goal.returns-in_err-player-clause-writes
returns-in_err-player-clause-writes g c = omega (arith, memory_unwritten c.from_residual.result c.from_residual.ensures.1)

pub returns-in_err-play_up_to-clause-reads : goal.returns-in_err-play_up_to-clause-reads
returns-in_err-play_up_to-clause-reads g c = reads_text c.from_residual-in_err-play_up_to.result c.in_err-play_up_to.field-0.0 _ _ c.from_residual-in_err-play_up_to.ensures.1 c.in_err-play_up_to.ensures.reads

pub returns-in_err-play_up_to-clause-writes : goal.returns-in_err-play_up_to-clause-writes
returns-in_err-play_up_to-clause-writes g c = writes_text c.from_residual-in_err-play_up_to.result c.in_err-play_up_to.field-0.0 _ _ c.from_residual-in_err-play_up_to.ensures.1 c.in_err-play_up_to.ensures.writes
