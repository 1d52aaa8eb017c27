use Rattle.graph_heap.proofs.Slots.{some_slots}
use Rattle.inspector.proofs.by_root.places.root_at.Goals as goal

pub nonzero_div-mutator : goal.nonzero_div-mutator
nonzero_div-mutator c = some_slots c.args.limits.now.mutators c.args.limits.now.slots c.args.place c.if-place-all.true

pub nonzero_rem-slot : goal.nonzero_rem-slot
nonzero_rem-slot c = some_slots c.args.limits.now.mutators c.args.limits.now.slots c.args.place c.if-place-all.true
