use Rattle.std.proofs.Common.{Some, arith}
use Rattle.trace.proofs.Feeds.{found_in, none_found}
use Rattle.trace.proofs.line_reader.line_feed.Goals as goal

pub returns-in-Some-clause-found : goal.returns-in-Some-clause-found
returns-in-Some-clause-found c = found_in 32 (omega arith) c.args.bytes.now (Some _) c.in-Some.ensures

pub returns-clause-found : goal.returns-clause-found
returns-clause-found c = found_in 257 (omega arith) c.args.bytes.now c.far_line_feed.result c.far_line_feed.ensures

pub returns-clause-none : goal.returns-clause-none
returns-clause-none c = none_found c.args.bytes.now c.far_line_feed.result c.far_line_feed.ensures
