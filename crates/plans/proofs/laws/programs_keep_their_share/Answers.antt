use Rattle.plans.proofs.Windows.{share_kept}
use Rattle.plans.proofs.laws.programs_keep_their_share.Goals as goal

pub returns : goal.returns
returns c = λ config plan live largest longest most run lasts paced times asks w. share_kept config plan live largest longest (most w.own) run lasts paced times w (asks w)
