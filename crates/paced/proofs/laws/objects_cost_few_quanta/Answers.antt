use Rattle.paced.proofs.Single.{one_bounded, small_one, each_short}
use Rattle.paced.proofs.laws.objects_cost_few_quanta.Goals as goal

pub returns-clause-bound : goal.returns-clause-bound
returns-clause-bound c = λ config plan live largest words old mid before es work lasts made path small works lives. one_bounded config plan live largest old made lasts words small es mid before work path works lives

pub returns-clause-small : goal.returns-clause-small
returns-clause-small c = small_one

pub returns-clause-each : goal.returns-clause-each
returns-clause-each c = λ config plan live largest old mid new es stretch lasts made path done lives. each_short config plan live largest old made lasts stretch es mid new path done lives
