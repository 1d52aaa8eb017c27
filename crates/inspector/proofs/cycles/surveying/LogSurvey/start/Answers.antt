use Rattle.inspector.proofs.cycles.surveying.LogSurvey.start.Goals as goal

pub returns : goal.returns
returns c = c.new.ensures c.args._player.now.course
