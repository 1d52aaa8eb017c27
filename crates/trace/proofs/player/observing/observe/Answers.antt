use Rattle.trace.proofs.LinesSeen.{all_observed}
use Rattle.trace.proofs.player.observing.observe.Goals as goal

pub returns-clause-observed : goal.returns-clause-observed
returns-clause-observed g c = all_observed g.O.Observer.has_seen c.args.run.now c.requires _ c.each_line.new.handler c.each_line.result c.each_line.ensures.handled
