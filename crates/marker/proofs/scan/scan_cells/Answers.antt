use Rattle.std.proofs.Common.{◌≡◌, ◌+◌, ap, ◌∙◌, subst, refl, arith}
use Rattle.heap_model.specs.Action.{Chain}
use Rattle.nodes.specs.declared.heap_fields.HeapFields.{HeapFields}
use Rattle.nodes.specs.HeapFields.{state_of}
use Rattle.marker.specs.Scanning.{scanning}
use Rattle.marker.proofs.InScan.{width_small}
use Rattle.marker.proofs.Scanning.{none_scanned, run_scanned, still_scanning}
use Rattle.marker.proofs.scan.scan_cells.Goals as goal

pub loop-scanned-init : goal.loop-scanned-init
loop-scanned-init c = (λ u. none_scanned c.args.heap.now c.args.part c.args.cell u, refl, refl, refl, omega arith, c.requires.heap.1.linked)

pub overflow_add-cell : goal.overflow_add-cell
overflow_add-cell c =
    let s = width_small (scanning c.args.heap.now c.args.part c.args.cell c.requires.heap.0) c.requires.heap.1 c.args.part c.args.cell refl c.requires.some in omega (arith, s, c.requires.within, c.loop-scanned-test.true)

pub scan_run-scanned-requires-clause-heap : goal.scan_run-scanned-requires-clause-heap
scan_run-scanned-requires-clause-heap c =
    let i = c.loop-scanned.invariant in
    still_scanning c.args.heap.now c.loop-scanned.heap c.args.part c.args.cell c.args.part (c.args.cell + c.loop-scanned.scanned) c.loop-scanned.scanned c.requires.heap i.0 i.2 i.5

pub scan_run-scanned-requires-clause-within : goal.scan_run-scanned-requires-clause-within
scan_run-scanned-requires-clause-within c = let i = c.loop-scanned.invariant in omega (arith, i.1, c.requires.within, c.loop-scanned-test.true)

pub loop-scanned-preserved : goal.loop-scanned-preserved
loop-scanned-preserved c =
    let i = c.loop-scanned.invariant in let e = c.scan_run-scanned.ensures in let k = c.scan_run-scanned.new.heap in let n = c.loop-scanned.scanned in (
      λ u. run_scanned (state_of (scanning c.args.heap.now c.args.part c.args.cell u)) c.loop-scanned.heap k c.args.part c.args.cell n c.scan_run-scanned.result u (i.0 u) (e.acts (u + n)),
      e.width ∙ i.1,
      e.buffers ∙ i.2,
      e.same ∙ ap (λ (x : HeapFields). record x { nodes = k.nodes; grey = k.grey }) i.3,
      omega (arith, c.loop-scanned-test.true, e.count.1),
      e.linked,
    )

pub returns-clause-acts : goal.returns-clause-acts
returns-clause-acts c =
    let i = c.loop-scanned.invariant in let all : c.loop-scanned.scanned ≡ c.args.count = omega (arith, i.4, c.loop-scanned-test.false) in λ u.
    subst (λ n. Chain (state_of (scanning c.args.heap.now c.args.part c.args.cell u)) n (state_of (scanning c.loop-scanned.heap c.args.part (c.args.cell + n) (u + n)))) all (i.0 u)
