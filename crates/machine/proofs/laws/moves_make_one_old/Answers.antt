use Rattle.machine.proofs.Copies.{moves_make_one_old as it}
use Rattle.machine.proofs.laws.moves_make_one_old.Goals as goal

pub returns : goal.returns
returns c = it
