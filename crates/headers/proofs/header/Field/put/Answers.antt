use Rattle.std.proofs.Common.{arith}
use Rattle.std.proofs.lemmas.Nat.{shl_whole}
use Rattle.headers.proofs.header.Field.put.Goals as goal

pub returns : goal.returns
returns c = shl_whole c.args.value c.args.self.bits c.args.self.low 64 c.requires.value (let w = c.requires.within in omega arith)
