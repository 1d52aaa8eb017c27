use Rattle.std.proofs.Common.{◌+◌, ap, ◌∙◌, sym, subst, arith}
use Rattle.heap_model.specs.Action.{Action}
use Rattle.nodes.specs.declared.heap_fields.HeapFields.{HeapFields}
use Rattle.nodes.specs.HeapFields.{state_of}
use Rattle.nodes.proofs.Keeping.{linked_charged}
use Rattle.nodes.proofs.Representing.{are_grey, units_small}
use Rattle.marker.specs.declared.scan.Scan.{Scan}
use Rattle.marker.specs.Scanning.{scanning}
use Rattle.marker.proofs.One.{header_next, is_scanning}
use Rattle.marker.proofs.InScan.{part_allocated, cell_small}
use Rattle.marker.proofs.Scanning.{at_once, header_once, some_left, past_all, width_there, taken_same}
use Rattle.marker.proofs.scan.mark_one.Goals as goal

pub scan_at-scan-requires : goal.scan_at-scan-requires
scan_at-scan-requires c ne = part_allocated c.args.heap.now c.requires.heap c.args.part c.args.cell c.requires.phase ne

pub scan_cell-requires-clause-heap : goal.scan_cell-requires-clause-heap
scan_cell-requires-clause-heap c = is_scanning c.args.heap.now c.args.part c.args.cell c.requires.heap c.requires.phase

pub scan_cell-requires-clause-some : goal.scan_cell-requires-clause-some
scan_cell-requires-clause-some c =
    some_left c.args.heap.now c.args.part c.args.cell c.scan_at-scan.result.width (ap (λ (s : Scan). s.width) c.scan_at-scan.ensures) c.if-cell-scan.true

pub scan_cell-requires-clause-within : goal.scan_cell-requires-clause-within
scan_cell-requires-clause-within c =
    let is = ap (λ (s : Scan). s.width) c.scan_at-scan.ensures in
    let ne = some_left c.args.heap.now c.args.part c.args.cell c.scan_at-scan.result.width is c.if-cell-scan.true in
    omega (arith, c.if-cell-scan.true, is, width_there c.args.heap.now c.args.part ne)

pub overflow_add-cell : goal.overflow_add-cell
overflow_add-cell c =
    let ne = some_left c.args.heap.now c.args.part c.args.cell c.scan_at-scan.result.width (ap (λ (s : Scan). s.width) c.scan_at-scan.ensures) c.if-cell-scan.true in
    let s = cell_small c.args.heap.now c.requires.heap c.args.part c.args.cell c.requires.phase ne in omega (arith, s)

pub charge-requires : goal.charge-requires
charge-requires c = let u = units_small c.args.heap.now c.requires.heap in omega (arith, u, ap (λ (x : HeapFields). x.units) c.scan_cell.ensures.same)

pub returns-then-cell-scan-clause-acts : goal.returns-then-cell-scan-clause-acts
returns-then-cell-scan-clause-acts c =
    let a = c.args.heap.now in let k = c.scan_cell.new.heap in let part = c.args.part in let cell = c.args.cell in
    subst (λ (x : HeapFields). Action (state_of a) 1 (state_of x)) (sym c.charge.ensures)
    (subst (λ u. Action (state_of a) 1 (state_of (scanning k part (cell + 1) (u + 1)))) (sym (ap (λ (x : HeapFields). x.units) c.scan_cell.ensures.same))
    (subst (λ (x : HeapFields). Action (state_of x) 1 (state_of (scanning k part (cell + 1) (a.units + 1)))) (at_once a part cell c.requires.phase) (c.scan_cell.ensures.acts a.units)))

pub returns-then-cell-scan-clause-buffers : goal.returns-then-cell-scan-clause-buffers
returns-then-cell-scan-clause-buffers c = ap (λ (x : HeapFields). x.grey.buffers) c.charge.ensures ∙ c.scan_cell.ensures.buffers

pub returns-then-cell-scan-clause-linked : goal.returns-then-cell-scan-clause-linked
returns-then-cell-scan-clause-linked c = linked_charged c.scan_cell.new.heap c.charge.new.self _ _ c.charge.ensures c.scan_cell.ensures.linked

pub pop_grey-requires-clause-grey : goal.pop_grey-requires-clause-grey
pop_grey-requires-clause-grey c = are_grey c.args.heap.now c.requires.heap

pub pop_grey-requires-clause-linked : goal.pop_grey-requires-clause-linked
pop_grey-requires-clause-linked c = c.requires.heap.linked

pub charge-requires-2 : goal.charge-requires-2
charge-requires-2 c = let u = units_small c.args.heap.now c.requires.heap in omega (arith, u, ap (λ (x : HeapFields). x.units) c.pop_grey.ensures.same)

pub returns-clause-answer : goal.returns-clause-answer
returns-clause-answer c =
    let is = ap (λ (s : Scan). s.width) c.scan_at-scan.ensures in let q = c.in-Some.ensures.taken in
    header_next (state_of c.args.heap.now) c.args.part c.args.cell c.in-Some.next q.0 q.1 (omega (arith, is, c.if-cell-scan.false)) q.2

pub returns-clause-acts : goal.returns-clause-acts
returns-clause-acts c =
    let a = c.args.heap.now in let k = c.pop_grey.new.heap in let part = c.args.part in let cell = c.args.cell in (
      k.nodes,
      c.pop_grey.ensures.links,
      subst (λ (x : HeapFields). Action (record (state_of a) { store = k.nodes }) 1 (state_of x)) (sym c.charge-2.ensures)
          (subst (λ u. Action (record (state_of a) { store = k.nodes }) 1 (state_of (scanning k c.in-Some.next 0 (u + 1)))) (sym (ap (λ (x : HeapFields). x.units) c.pop_grey.ensures.same))
          (subst (λ (x : HeapFields). Action (record (state_of x) { store = k.nodes }) 1 (state_of (scanning k c.in-Some.next 0 (a.units + 1)))) (at_once a part cell c.requires.phase)
          (header_once a k part cell c.in-Some.next a.units (is_scanning a part cell c.requires.heap c.requires.phase)
          (past_all a part cell c.scan_at-scan.result.width (ap (λ (s : Scan). s.width) c.scan_at-scan.ensures) c.if-cell-scan.false) c.pop_grey.ensures.links (taken_same a k c.pop_grey.ensures.same) c.in-Some.ensures.taken))),
    )

pub returns-clause-linked : goal.returns-clause-linked
returns-clause-linked c = linked_charged c.pop_grey.new.heap c.charge-2.new.self _ _ c.charge-2.ensures c.pop_grey.ensures.linked

pub returns-clause-buffers : goal.returns-clause-buffers
returns-clause-buffers c = ap (λ (x : HeapFields). x.grey.buffers) c.charge-2.ensures ∙ ap (λ (x : HeapFields). x.grey.buffers) c.pop_grey.ensures.same
