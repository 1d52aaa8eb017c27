use Rattle.paced.proofs.Stretches.{stretches_keep}
use Rattle.paced.proofs.laws.work_keeps_to_words.Goals as goal

pub returns : goal.returns
returns c = λ config plan live largest old mid new es stretch lasts made path done small lives. stretches_keep config plan live largest old made lasts es mid new stretch path done small lives
