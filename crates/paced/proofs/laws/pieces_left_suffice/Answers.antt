use Rattle.paced.proofs.Remaining.{pieces_suffice, pieces_fewer}
use Rattle.paced.proofs.laws.pieces_left_suffice.Goals as goal

pub returns-clause-most : goal.returns-clause-most
returns-clause-most c = λ config plan live words old mid before es work lasts made path works lives. pieces_suffice config plan live words old made lasts es mid before work path works lives

pub returns-clause-fewer : goal.returns-clause-fewer
returns-clause-fewer c = λ config plan live words old mid before es work lasts made path works lives none. pieces_fewer config plan live words old made lasts es mid before work path works lives none
