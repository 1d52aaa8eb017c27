use Rattle.headers.proofs.Written.{link_written}
use Rattle.headers.proofs.laws.link_written.Goals as goal

pub returns : goal.returns
returns c = λ words v address size four inside. link_written words address size four inside v
