use Rattle.std.proofs.Common.{◌<◌, length, ap, sym, subst}
use Rattle.graph_heap.specs.declared.command.Entry.{Entry}
use Rattle.std.proofs.Common.{List, arith}
use Rattle.heap_model.specs.Settings.{HeapSettings}
use Rattle.heap_model.specs.Event.{IsCourse}
use Rattle.heap_model.proofs.Event.Kept.{opening_course}
use Rattle.machine.proofs.recorded.Recorded.new.Goals as goal

pub invariant_of-result : goal.invariant_of-result
invariant_of-result c =
    let some : 0 < length c.in_ok-heap.heap.store.pages = (let p = c.args.config.now.pages_in_range.0 in let e = ap (λ (x : HeapSettings). x.pages) c.in_ok-heap.ensures.settings in omega (arith, e, p)) in
    subst (λ (l : List Entry). IsCourse (record { heap = c.in_ok-heap.heap; history = l; place = 0 })) (sym c.new-2.ensures.items) (opening_course c.in_ok-heap.heap c.in_ok-heap.ensures.opening some)
