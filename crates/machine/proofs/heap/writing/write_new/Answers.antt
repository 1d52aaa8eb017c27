use Rattle.std.proofs.Common.{◌≡◌, ◌+◌, ◌<◌, ◌^◌, length, set, sym, subst, true, arith, refl}
use Rattle.size_classes.specs.Need.{needed}
use Rattle.heap_model.specs.Pages as page_list
use Rattle.heap_model.proofs.Change.Recording.{records_stay}
use Rattle.nodes.specs.declared.heap_fields.HeapFields.{HeapFields}
use Rattle.nodes.specs.HeapFields.{state_of}
use Rattle.machine.proofs.Doing.{present_agrees}
use Rattle.machine.proofs.Writing.{new_does}
use Rattle.heap_model.specs.State.{HeapState}
use Rattle.heap_model.proofs.Taking.{takes_count}
use Rattle.size_classes.specs.Parts.{cells_of, parts_in}
use Rattle.machine.specs.Plan.{DoesEach}
use Rattle.machine.specs.declared.plan.Write.TheVariants as writes
use Rattle.nodes.proofs.Keeping.{store_kept, linked_still}
use Rattle.machine.proofs.heap.writing.write_new.Goals as goal

pub record_root-requires-clause-root : goal.record_root-requires-clause-root
record_root-requires-clause-root c = (c.requires.write c.requires.heap.heap.present (present_agrees _ c.requires.heap.heap)).1.1

pub new_object-block-requires-clause-fits : goal.new_object-block-requires-clause-fits
new_object-block-requires-clause-fits c = (c.requires.write c.requires.heap.heap.present (present_agrees _ c.requires.heap.heap)).1.3

pub new_object-block-requires-clause-room : goal.new_object-block-requires-clause-room
new_object-block-requires-clause-room c =
    subst (λ z. page_list.has_room z (needed c.args.shape) ≡ true) (sym (records_stay (state_of c.args.heap.now) (state_of c.record_root.new.heap) _ c.record_root.ensures.records).pages)
    (c.requires.write c.requires.heap.heap.present (present_agrees _ c.requires.heap.heap)).1.4

pub set-requires : goal.set-requires
set-requires c =
    subst (λ (x : HeapFields). c.args.root < length x.roots.cells) (sym c.record_root.ensures.same) (c.requires.write c.requires.heap.heap.present (present_agrees _ c.requires.heap.heap)).1.1

pub overflow_add-heap : goal.overflow_add-heap
overflow_add-heap c =
    let next = subst (λ (x : HeapFields). x.next < 2 ^ 63) (sym c.record_root.ensures.same) (c.requires.write c.requires.heap.heap.present (present_agrees _ c.requires.heap.heap)).1.2 in
    omega (arith, next)

pub returns : goal.returns
returns c =
    let a = c.args.heap.now in let rec = c.record_root.new.heap in let new = c.new_object-block.new.nodes in let made = c.new_object-block.ensures.made in
    let count : length new.pages ≡ length rec.nodes.pages = takes_count (cells_of c.args.shape) made.0 rec.nodes.pages (parts_in (cells_of c.args.shape)) new.pages made.3 in
    record {
      does =
          rw c.set.ensures
          (subst (λ (h : HeapState). DoesEach (state_of a) (writes.New c.args.root c.args.shape) (record h { next = rec.next + 1; roots = set rec.roots.cells c.args.root (c.new_object-block.result + 1) }))
          (sym (store_kept rec c.record_root.ensures.allocated new count c.new_object-block.ensures.links))
          (new_does (state_of a) (state_of rec) _ c.record_root.ensures.records c.args.root c.new_object-block.result c.args.shape new refl made));
      buffers = c.record_root.ensures.buffers;
      linked = linked_still rec new c.record_root.ensures.linked c.record_root.ensures.allocated count c.new_object-block.ensures.links;
    }
