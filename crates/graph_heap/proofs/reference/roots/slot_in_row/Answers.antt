use Rattle.std.proofs.Common.{◌/◌, ◌<◌, arith}
use Rattle.std.proofs.Math.Nat.{div-lt_iff_lt-mul}
use Rattle.graph_heap.proofs.Slots.{some_slots}
use Rattle.graph_heap.proofs.reference.roots.slot_in_row.Goals as goal

pub overflow_cast-result : goal.overflow_cast-result
overflow_cast-result c =
    let l = c.args.limits in
    let bound : c.args.cell / l.slots < l.mutators = (div-lt_iff_lt-mul (some_slots l.mutators l.slots c.args.cell c.requires)).1 c.requires in
    omega (arith, bound)
