use Rattle.trace.proofs.ReadLines.{read_found, read_only}
use Rattle.trace.proofs.line.read_line.Goals as goal

pub returns-clause-found : goal.returns-clause-found
returns-clause-found c = read_found c.args.version c.args.bytes.now c.meaning.result c.meaning.ensures

pub returns-clause-only : goal.returns-clause-only
returns-clause-only c = read_only c.args.version c.args.bytes.now c.meaning.result c.meaning.ensures
