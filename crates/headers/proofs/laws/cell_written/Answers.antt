use Rattle.headers.proofs.Written.{cell_written}
use Rattle.headers.proofs.laws.cell_written.Goals as goal

pub returns : goal.returns
returns c = λ words i v address size within inside. cell_written words i v address size within inside
