use Rattle.std.proofs.Common.{Err, inr, arith}
use Rattle.program.proofs.Finishing.{failed_so}
use Rattle.program.proofs.Failing.{reads_text, writes_text, memory_unread, memory_unwritten}
use Rattle.program.proofs.jobs.play_job.Goals as goal

pub returns-in_err-player-clause-reads : goal.returns-in_err-player-clause-reads
returns-in_err-player-clause-reads g c = omega (arith, memory_unread c.from_residual.result c.from_residual.ensures.1)

pub returns-in_err-player-clause-writes : goal.returns-in_err-player-clause-writes
returns-in_err-player-clause-writes g c = omega (arith, memory_unwritten c.from_residual.result c.from_residual.ensures.1)

pub returns-in_err-play-clause-done : goal.returns-in_err-play-clause-done
returns-in_err-play-clause-done g c =
    inr (c.in_ok-player.player, c.play.new.player, Err c.in_err-play.field-0.0, c.in_ok-player.ensures, c.in_err-play.ensures.played, c.in_err-play.ensures.sent, failed_so c.from_residual-in_err-play.result _ c.from_residual-in_err-play.ensures.1)

pub returns-in_err-play-clause-reads : goal.returns-in_err-play-clause-reads
returns-in_err-play-clause-reads g c = reads_text c.from_residual-in_err-play.result c.in_err-play.field-0.0 _ _ c.from_residual-in_err-play.ensures.1 c.in_err-play.ensures.reads

pub returns-in_err-play-clause-writes : goal.returns-in_err-play-clause-writes
returns-in_err-play-clause-writes g c = writes_text c.from_residual-in_err-play.result c.in_err-play.field-0.0 _ _ c.from_residual-in_err-play.ensures.1 c.in_err-play.ensures.writes
