use Rattle.trace.proofs.transcripts.Listing.{not_command, no_line}
use Rattle.trace.proofs.transcripts.scripts.script_line.Goals as goal

pub returns-in_default-clause-refused : goal.returns-in_default-clause-refused
returns-in_default-clause-refused c = no_line c.args.version c.args.bytes.now (rw c.in_default.is at c.read_line.ensures.only)

pub returns-in_default-line-clause-refused : goal.returns-in_default-line-clause-refused
returns-in_default-line-clause-refused c = not_command c.args.version c.args.bytes.now c.in-Some.line c.in_default-line.not-Skip c.in_default-line.not-Command c.in-Some.ensures.only
