use Rattle.inspector.proofs.cycles.log.Log.cycles.Goals as goal

pub returns : goal.returns
returns c = λ steps now is heap. c.in_ok-close.ensures.cycles steps now is heap
