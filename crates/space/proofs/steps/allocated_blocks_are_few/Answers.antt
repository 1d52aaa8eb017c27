use Rattle.space.proofs.Placement.Census.{census}
use Rattle.space.proofs.steps.allocated_blocks_are_few.Goals as goal

pub returns : goal.returns
returns c = λ s class objects first ids w tidy kept only. census s w class objects tidy first ids kept only
