use Rattle.std.proofs.Common.{inl, inr, arith}
use Rattle.program.proofs.Finishing.{failed_so}
use Rattle.program.proofs.Failing.{reads_on, writes_on}
use Rattle.program.proofs.after.after_play.Goals as goal

pub returns-in_err-player-clause-done : goal.returns-in_err-player-clause-done
returns-in_err-player-clause-done g c = inr (c.in_err-player.field-0.0, failed_so c.from_residual.result _ c.from_residual.ensures.1, c.in_err-player.ensures.play)

pub returns-in_err-player-clause-reads : goal.returns-in_err-player-clause-reads
returns-in_err-player-clause-reads g c = reads_on c.from_residual.result c.in_err-player.field-0.0 _ _ c.from_residual.ensures.1 c.in_err-player.ensures.reads

pub returns-in_err-player-clause-writes : goal.returns-in_err-player-clause-writes
returns-in_err-player-clause-writes g c = writes_on c.from_residual.result c.in_err-player.field-0.0 _ _ c.from_residual.ensures.1 c.in_err-player.ensures.writes

pub returns-clause-done : goal.returns-clause-done
returns-clause-done g c = inl (c.in_ok-player.player, g.K.Sink.taken c.player_after.new.sink, c.in_ok-player.ensures.play, c.tell.ensures.told)

pub returns-clause-reads : goal.returns-clause-reads
returns-clause-reads g c = omega (arith, c.tell.ensures.reads, c.in_ok-player.ensures.reads)

pub returns-clause-writes : goal.returns-clause-writes
returns-clause-writes g c = omega (arith, c.tell.ensures.writes, c.in_ok-player.ensures.writes)
