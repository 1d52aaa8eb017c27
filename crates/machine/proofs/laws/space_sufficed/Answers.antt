use Rattle.machine.proofs.Space.{found_space}
use Rattle.machine.proofs.laws.space_sufficed.Goals as goal

pub returns : goal.returns
returns c = found_space
