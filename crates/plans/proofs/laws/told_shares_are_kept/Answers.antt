use Rattle.plans.proofs.Shares.{told_room, told_permille}
use Rattle.plans.proofs.laws.told_shares_are_kept.Goals as goal

pub returns-clause-room : goal.returns-clause-room
returns-clause-room c = told_room

pub returns-clause-permille : goal.returns-clause-permille
returns-clause-permille c = told_permille
