use Rattle.std.proofs.Common.{ap, ◌∙◌}
use Rattle.std.specs.BTreeMap.{insert_entry}
use Rattle.graph_heap.specs.Roots.{slot_order}
use Rattle.graph_heap.proofs.Slots.{next_slot}
use Rattle.graph_heap.proofs.reference.roots.add_slots.Goals as goal

pub loop-slot-preserved : goal.loop-slot-preserved
loop-slot-preserved c =
    c.in_ok-insert.ensures.entries ∙ ap (λ es. insert_entry slot_order es (c.args.mutator, c.loop-slot.slot) 0) c.loop-slot.invariant
    ∙ next_slot c.args.mutator c.args.count c.loop-slot.slot
