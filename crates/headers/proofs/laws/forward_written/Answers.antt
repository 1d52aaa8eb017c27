use Rattle.headers.proofs.Written.{forward_written}
use Rattle.headers.proofs.laws.forward_written.Goals as goal

pub returns : goal.returns
returns c = λ words v address size four inside. forward_written words address size four inside v
