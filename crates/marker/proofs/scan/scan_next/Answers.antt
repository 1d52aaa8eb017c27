use Rattle.std.proofs.Common.{◌≡◌, ◌+◌, ◌-◌, ◌*◌, ap, ◌∙◌, sym, subst, refl, arith}
use Rattle.heap_model.specs.Action.{Action, Chain, goes_to}
use Rattle.heap_model.specs.declared.cost.TheConstants.{SCAN}
use Rattle.heap_model.specs.declared.phase.Phase.TheVariants as phases
use Rattle.heap_model.specs.State.{seen}
use Rattle.nodes.specs.declared.heap_fields.HeapFields.{HeapFields}
use Rattle.nodes.specs.HeapFields.{state_of}
use Rattle.nodes.proofs.Representing.{are_grey}
use Rattle.marker.specs.declared.scan.Scan.{Scan}
use Rattle.marker.specs.Scanning.{scanning}
use Rattle.marker.proofs.InScan.{width_small}
use Rattle.marker.proofs.Scanning.{grey_at, header_scanned, marking_ends, some_left, past_all, width_there, taken_same}
use Rattle.marker.proofs.scan.scan_next.Goals as goal

pub scan_cells-requires-clause-some : goal.scan_cells-requires-clause-some
scan_cells-requires-clause-some c = some_left c.args.heap.now c.args.scan.part c.args.scan.cell c.args.scan.width c.requires.width c.if-scan.true

pub scan_cells-requires-clause-within : goal.scan_cells-requires-clause-within
scan_cells-requires-clause-within c =
    let ne = some_left c.args.heap.now c.args.scan.part c.args.scan.cell c.args.scan.width c.requires.width c.if-scan.true in
    omega (arith, c.if-scan.true, c.requires.width, width_there c.args.heap.now c.args.scan.part ne)

pub overflow_add-cell : goal.overflow_add-cell
overflow_add-cell c =
    let ne = some_left c.args.heap.now c.args.scan.part c.args.scan.cell c.args.scan.width c.requires.width c.if-scan.true in
    let s = width_small (scanning c.args.heap.now c.args.scan.part c.args.scan.cell c.requires.heap.0) c.requires.heap.1 c.args.scan.part c.args.scan.cell refl ne in
    omega (arith, s, c.if-scan.true, c.requires.width, width_there c.args.heap.now c.args.scan.part ne)

pub returns-then-scan-clause-scans : goal.returns-then-scan-clause-scans
returns-then-scan-clause-scans c =
    let at = c.args.scan in let count = c.min-count.result in λ u.
    subst (λ n. Chain (state_of (scanning c.args.heap.now at.part at.cell u)) n (state_of (scanning c.scan_cells.new.heap at.part (at.cell + count) (u + n)))) (let e : count ≡ count * SCAN = omega arith in e)
    (c.scan_cells.ensures.acts u)

pub returns-then-scan-clause-width : goal.returns-then-scan-clause-width
returns-then-scan-clause-width c =
    let ne = some_left c.args.heap.now c.args.scan.part c.args.scan.cell c.args.scan.width c.requires.width c.if-scan.true in
    c.requires.width ∙ width_there c.args.heap.now c.args.scan.part ne ∙ sym c.scan_cells.ensures.width ∙ sym (width_there c.scan_cells.new.heap c.args.scan.part ne)

pub pop_grey-requires-clause-grey : goal.pop_grey-requires-clause-grey
pop_grey-requires-clause-grey c = grey_at (state_of c.args.heap.now) c.args.scan.part c.args.scan.cell c.requires.heap.0 (are_grey (scanning c.args.heap.now c.args.scan.part c.args.scan.cell c.requires.heap.0) c.requires.heap.1)

pub pop_grey-requires-clause-linked : goal.pop_grey-requires-clause-linked
pop_grey-requires-clause-linked c = c.requires.heap.1.linked

pub scan_at-scan-requires : goal.scan_at-scan-requires
scan_at-scan-requires c = λ _. c.pop_grey.ensures.links.blocks.allocated (c.in_ok-part.part - 1) ∙ c.in_ok-part.ensures.allocated

pub returns-clause-scans : goal.returns-clause-scans
returns-clause-scans c =
    let a = c.args.heap.now in let k = c.pop_grey.new.heap in let at = c.args.scan in λ u.
    subst (λ (s : Scan). Chain (state_of (scanning a at.part at.cell u)) 1 (state_of (scanning k s.part s.cell (u + 1)))) (sym c.scan_at-scan.ensures)
    (header_scanned a k at.part at.cell c.in_ok-part.part u c.requires.heap (past_all a at.part at.cell at.width c.requires.width c.if-scan.false) c.pop_grey.ensures.links (taken_same a k c.pop_grey.ensures.same) c.in_ok-part.ensures.taken)

pub returns-clause-width : goal.returns-clause-width
returns-clause-width c = ap (λ (s : Scan). s.width) c.scan_at-scan.ensures ∙ sym (ap (λ (s : Scan). (seen (state_of c.pop_grey.new.heap)).width s.part) c.scan_at-scan.ensures)

pub returns-clause-buffers : goal.returns-clause-buffers
returns-clause-buffers c = ap (λ (x : HeapFields). x.grey.buffers) c.pop_grey.ensures.same

pub returns-clause-same : goal.returns-clause-same
returns-clause-same c = taken_same c.args.heap.now c.pop_grey.new.heap c.pop_grey.ensures.same

pub returns-in_err-part-clause-ends : goal.returns-in_err-part-clause-ends
returns-in_err-part-clause-ends c =
    let a = c.args.heap.now in let at = c.args.scan in let none = c.in_err-part.ensures.none refl in λ _ u.
    subst (λ (x : HeapFields). Action (state_of (scanning a at.part at.cell u)) 1 (goes_to (state_of (scanning x at.part at.cell u)) 1 (phases.Sweeping 0 0))) (sym none.1)
    (marking_ends a at.part at.cell u c.requires.heap (past_all a at.part at.cell at.width c.requires.width c.if-scan.false) none.0)

pub returns-in_err-part-clause-buffers : goal.returns-in_err-part-clause-buffers
returns-in_err-part-clause-buffers c = ap (λ (x : HeapFields). x.grey.buffers) c.pop_grey.ensures.same

pub returns-in_err-part-clause-same : goal.returns-in_err-part-clause-same
returns-in_err-part-clause-same c = taken_same c.args.heap.now c.pop_grey.new.heap c.pop_grey.ensures.same

pub returns-clause-count : goal.returns-clause-count
returns-clause-count c = (omega arith, omega (arith, c.requires.room))
