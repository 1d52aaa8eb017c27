use Rattle.paced.proofs.Paths.{other_paced}
use Rattle.paced.proofs.laws.other_commands_need_no_pacer.Goals as goal

pub returns : goal.returns
returns c = other_paced
