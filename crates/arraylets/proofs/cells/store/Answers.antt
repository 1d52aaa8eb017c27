use Rattle.std.proofs.Common.{◌<◌, length, ap, ◌∙◌, sym, subst}
use Rattle.heap_model.specs.Change.{Records}
use Rattle.heap_model.proofs.Change.Recording.{records_cells, records_allocated}
use Rattle.nodes.specs.HeapFields.{state_of}
use Rattle.nodes.specs.Referent.{CanFollow}
use Rattle.nodes.proofs.Keeping.{store_kept, linked_still}
use Rattle.satb_barrier.specs.Recording.{buffers_after}
use Rattle.arraylets.proofs.OneCell.{by_store, sets_ref}
use Rattle.arraylets.proofs.cells.store.Goals as goal

pub record-requires-clause-leads : goal.record-requires-clause-leads
record-requires-clause-leads c = subst (CanFollow c.args.heap.now.nodes) (sym c.load-before.ensures.holds) c.requires.leads

pub set_cell-requires-clause-allocated : goal.set_cell-requires-clause-allocated
set_cell-requires-clause-allocated c = records_allocated (state_of c.args.heap.now) (state_of c.record.new.heap) c.load-before.result c.args.at.block c.record.ensures.records c.requires.cell.allocated

pub set_cell-requires-clause-within : goal.set_cell-requires-clause-within
set_cell-requires-clause-within c =
    subst (λ xs. c.args.at.index < length xs) (sym (records_cells (state_of c.args.heap.now) (state_of c.record.new.heap) c.load-before.result c.args.at.block c.record.ensures.records c.requires.cell.allocated)) c.requires.cell.within

pub returns-clause-stored : goal.returns-clause-stored
returns-clause-stored c =
    let a = c.args.heap.now in let k = c.record.new.heap in let new = c.set_cell.new.self in
    record {
      mid = state_of k;
      recorded = subst (λ x. Records (state_of a) x (state_of k)) c.load-before.ensures.holds c.record.ensures.records;
      written = c.set_cell.ensures.written;
      state = store_kept k c.record.ensures.allocated new (ap length c.set_cell.ensures.written.pages) c.set_cell.ensures.links;
      buffers = c.record.ensures.buffers ∙ ap (buffers_after a c.args.mutator) c.load-before.ensures.holds;
      linked = linked_still k new c.record.ensures.linked c.record.ensures.allocated (ap length c.set_cell.ensures.written.pages) c.set_cell.ensures.links;
    }

pub returns-clause-refs : goal.returns-clause-refs
returns-clause-refs c = λ object i is.
    let a = c.args.heap.now in let new = c.set_cell.new.self in
    sets_ref a.nodes new c.args.at c.args.reference (by_store (state_of a) (state_of c.record.new.heap) c.load-before.result new c.args.at c.args.reference c.requires.cell c.record.ensures.records c.set_cell.ensures.written) object i is
