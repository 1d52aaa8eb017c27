use Rattle.space.proofs.Counts.{takes_bounded}
use Rattle.space.proofs.steps.taken_blocks_stay_bounded.Goals as goal

pub returns : goal.returns
returns c = λ cells at old parts new blocks spare w b asks t. let r = takes_bounded cells at old parts new blocks spare w b asks t in (r.bounded, r.main)
