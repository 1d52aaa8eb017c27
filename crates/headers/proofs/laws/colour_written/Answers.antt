use Rattle.headers.proofs.Written.{colour_written}
use Rattle.headers.proofs.laws.colour_written.Goals as goal

pub returns : goal.returns
returns c = λ words colour address size four inside. colour_written words address size four inside colour
