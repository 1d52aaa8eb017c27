use Rattle.paced.proofs.Planning.{resized_plan, plan_resized}
use Rattle.paced.proofs.laws.plans_need_pages.Goals as goal

pub returns : goal.returns
returns c = λ makes config resized live largest is. (resized_plan makes config resized live largest is, plan_resized makes config resized live largest is)
