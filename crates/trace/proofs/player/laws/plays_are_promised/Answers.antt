use Rattle.trace.proofs.Promised.{play_promised}
use Rattle.trace.proofs.player.laws.plays_are_promised.Goals as goal

pub returns : goal.returns
returns c = play_promised
