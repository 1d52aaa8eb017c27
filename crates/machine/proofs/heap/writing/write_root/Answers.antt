use Rattle.std.proofs.Common.{◌<◌, length, sym, subst, refl}
use Rattle.machine.proofs.Doing.{present_agrees}
use Rattle.machine.proofs.Writing.{root_does}
use Rattle.nodes.specs.declared.heap_fields.HeapFields.{HeapFields}
use Rattle.nodes.specs.HeapFields.{state_of}
use Rattle.machine.proofs.heap.writing.write_root.Goals as goal

pub record_root-requires-clause-root : goal.record_root-requires-clause-root
record_root-requires-clause-root c = (c.requires.write c.requires.heap.heap.present (present_agrees _ c.requires.heap.heap)).1.2

pub set-requires : goal.set-requires
set-requires c =
    subst (λ (x : HeapFields). c.args.cell < length x.roots.cells) (sym c.record_root.ensures.same) (c.requires.write c.requires.heap.heap.present (present_agrees _ c.requires.heap.heap)).1.2

pub returns : goal.returns
returns c = record {
  does = rw c.set.ensures (root_does (state_of c.args.heap.now) (state_of c.record_root.new.heap) _ c.record_root.ensures.records c.args.cell c.args.reference refl);
  buffers = c.record_root.ensures.buffers;
  linked = c.record_root.ensures.linked;
}
