use Rattle.std.proofs.Common.{◌++◌, take, ap, ◌∙◌, sym}
use Rattle.trace.proofs.Cuts.{goes_on}
use Rattle.trace.proofs.streams.memory.MemorySourceSource.read.Goals as goal

pub returns-clause-bytes : goal.returns-clause-bytes
returns-clause-bytes c =
    let at = c.args.self.now.at in
    let bytes = c.args.self.now.bytes.now in
    sym (ap (λ l. take at bytes ++ l) c.copy_front-n.ensures.bytes ∙ goes_on at c.copy_front-n.result bytes)
