use Rattle.trace.proofs.Cutting.{one_more, as_many}
use Rattle.trace.proofs.laws.one_more_line.Goals as goal

pub returns-clause-more : goal.returns-clause-more
returns-clause-more c = one_more

pub returns-clause-few : goal.returns-clause-few
returns-clause-few c = as_many
