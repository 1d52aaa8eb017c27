use Rattle.heap_model.proofs.Represents.{represents_limit}
use Rattle.paced.proofs.pacer.Pacer.allows.Goals as goal

pub returns-then-words-eq0-clause-within : goal.returns-then-words-eq0-clause-within
returns-then-words-eq0-clause-within c = let r = c.phase.ensures.represents in represents_limit c.args.heap.now r.0 r.1 r.2

pub returns-then-after-from-clause-within : goal.returns-then-after-from-clause-within
returns-then-after-from-clause-within c = let r = c.phase.ensures.represents in represents_limit c.args.heap.now r.0 r.1 r.2

pub returns-clause-within : goal.returns-clause-within
returns-clause-within c = let r = c.phase.ensures.represents in represents_limit c.args.heap.now r.0 r.1 r.2
