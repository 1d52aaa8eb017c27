use Rattle.paced.proofs.Ahead.{ahead_free}
use Rattle.paced.proofs.laws.words_paid_ahead_are_free.Goals as goal

pub returns : goal.returns
returns c = λ config plan old mid new es words stretch made path may done none few. ahead_free config plan old made es mid new words stretch path may done none few
