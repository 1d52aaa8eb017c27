use Rattle.std.proofs.Common.{arith}
use Rattle.trace.proofs.transcripts.Listing.{lists_put}
use Rattle.trace.proofs.transcripts.scripts.add.Goals as goal

pub returns-clause-ok : goal.returns-clause-ok
returns-clause-ok c = lists_put c.args.scripts.now.items c.args.mutator c.args.command c.index_mut.result.now c.push.new.self (omega (arith, c.args.scripts.now.ok.0)) c.index_mut.ensures.value c.in_ok-push.ensures.items
