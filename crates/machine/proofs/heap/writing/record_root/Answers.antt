use Rattle.std.proofs.Common.{subst}
use Rattle.nodes.specs.HeapFields.{state_of}
use Rattle.machine.specs.Writing.{IsRecorded}
use Rattle.machine.proofs.Writing.{root_follows}
use Rattle.machine.proofs.heap.writing.record_root.Goals as goal

pub record-requires-clause-leads : goal.record-requires-clause-leads
record-requires-clause-leads c = root_follows (state_of c.args.heap.now) c.requires.heap.heap c.args.root c.get-before.result c.requires.root c.get-before.ensures

pub returns : goal.returns
returns c =
    let done = c.record.ensures in
    subst (λ x. IsRecorded c.args.heap.now c.args.mutator x c.record.new.heap) c.get-before.ensures (record { records = done.records; buffers = done.buffers; linked = done.linked; allocated = done.allocated; same = done.same })
