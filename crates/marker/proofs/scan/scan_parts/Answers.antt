use Rattle.std.proofs.Common.{◌≡◌, ◌+◌, length, ap, ◌∙◌, sym, subst, refl, arith}
use Rattle.std.specs.Prelude.{is_some}
use Rattle.heap_model.specs.Action.{Chain}
use Rattle.heap_model.specs.State.{seen}
use Rattle.nodes.specs.declared.heap_fields.HeapFields.{HeapFields}
use Rattle.nodes.specs.Grey.{in_buffers}
use Rattle.nodes.specs.HeapFields.{state_of}
use Rattle.nodes.proofs.Chains.{heap_after_chain}
use Rattle.nodes.proofs.Keeping.{linked_charged}
use Rattle.nodes.proofs.Representing.{units_small}
use Rattle.marker.specs.declared.scan.Scan.{Scan}
use Rattle.marker.specs.Scanning.{scanning}
use Rattle.marker.proofs.InScan.{part_allocated}
use Rattle.marker.proofs.Scanning.{begun, more_scanned, ended, place_small}
use Rattle.marker.proofs.scan.scan_parts.Goals as goal

pub scan_at-scan-requires : goal.scan_at-scan-requires
scan_at-scan-requires c ne = part_allocated c.args.heap.now c.requires.heap c.args.part c.args.cell c.requires.phase ne

pub loop-units-init : goal.loop-units-init
loop-units-init c =
    let a = c.args.heap.now in let e = sym c.scan_at-scan.ensures in (
      subst (λ (s : Scan). Chain (state_of a) 0 (state_of (scanning a s.part s.cell (a.units + 0)))) e (begun a c.args.part c.args.cell c.requires.phase),
      subst (λ (s : Scan). s.width ≡ (seen (state_of a)).width s.part) e refl,
      refl,
      refl,
      omega arith,
      c.requires.heap.linked,
    )

pub scan_next-requires-clause-heap : goal.scan_next-requires-clause-heap
scan_next-requires-clause-heap c =
    let i = c.loop-units.invariant in let a = c.args.heap.now in let n = c.loop-units.units in
    (a.units + n, heap_after_chain a (scanning c.loop-units.heap c.loop-units.scan.part c.loop-units.scan.cell (a.units + n)) c.requires.heap n i.0 (ap length i.2) i.5)

pub scan_next-requires-clause-buffers : goal.scan_next-requires-clause-buffers
scan_next-requires-clause-buffers c = ap in_buffers c.loop-units.invariant.2 ∙ c.requires.buffers

pub scan_next-requires-clause-width : goal.scan_next-requires-clause-width
scan_next-requires-clause-width c = c.loop-units.invariant.1

pub charge-requires : goal.charge-requires
charge-requires c =
    let i = c.loop-units.invariant in let u = units_small c.args.heap.now c.requires.heap in
    omega (arith, u, ap (λ (x : HeapFields). x.units) c.scan_next.ensures.same, ap (λ (x : HeapFields). x.units) i.3, c.loop-units-test.true)

pub loop-units-preserved : goal.loop-units-preserved
loop-units-preserved c =
    let i = c.loop-units.invariant in let e = c.in-Some.ensures in let k = c.scan_next.new.heap in let s = c.in-Some.step in (
      more_scanned c.args.heap.now c.loop-units.heap k c.loop-units.scan.part c.loop-units.scan.cell s.scan.part s.scan.cell c.loop-units.units s.units i.0 e.scans,
      e.width,
      c.scan_next.ensures.buffers ∙ i.2,
      c.scan_next.ensures.same ∙ ap (λ (x : HeapFields). record x { nodes = k.nodes; grey = k.grey }) i.3,
      omega (arith, e.count.1, c.loop-units-test.true),
      c.scan_next.ensures.linked,
    )

pub returns-in_default-clause-acts : goal.returns-in_default-clause-acts
returns-in_default-clause-acts c =
    let i = c.loop-units.invariant in let a = c.args.heap.now in let n = c.loop-units.units in let k = c.scan_next.new.heap in (
      n + 1,
      ended a c.charge.new.self k c.loop-units.scan.part c.loop-units.scan.cell n (state_of (scanning c.loop-units.heap c.loop-units.scan.part c.loop-units.scan.cell (a.units + n))) i.0
          (ap (λ (x : HeapFields). x.units) c.scan_next.ensures.same ∙ ap (λ (x : HeapFields). x.units) i.3) (c.scan_next.ensures.ends (ap is_some c.in_default.is) (a.units + n)) c.charge.ensures,
      omega arith,
      omega (arith, c.loop-units-test.true),
    )

pub overflow_cast-cell-2 : goal.overflow_cast-cell-2
overflow_cast-cell-2 c =
    let i = c.loop-units.invariant in let a = c.args.heap.now in let at = c.loop-units.scan in
    let place = scanning c.loop-units.heap at.part at.cell (a.units + c.loop-units.units) in
    let s = place_small c.loop-units.heap at.part at.cell (a.units + c.loop-units.units, heap_after_chain a place c.requires.heap c.loop-units.units i.0 (ap length i.2) i.5) in omega (arith, s)

pub charge-requires-2 : goal.charge-requires-2
charge-requires-2 c =
    let i = c.loop-units.invariant in let u = units_small c.args.heap.now c.requires.heap in omega (arith, u, ap (λ (x : HeapFields). x.units) i.3, i.4)

pub returns-clause-acts : goal.returns-clause-acts
returns-clause-acts c =
    let i = c.loop-units.invariant in let a = c.args.heap.now in let n = c.loop-units.units in
    let same = ap (λ (x : HeapFields). x.units) i.3 in (
      n,
      subst (λ (x : HeapFields). Chain (state_of a) n (state_of x)) (sym c.charge-2.ensures)
          (subst (λ u. Chain (state_of a) n (state_of (scanning c.loop-units.heap c.loop-units.scan.part c.loop-units.scan.cell u))) (let e : a.units + n ≡ c.loop-units.heap.units + n = omega (arith, same) in e) i.0),
      omega (arith, c.requires.room, c.loop-units-test.false),
      i.4,
    )

pub returns-in_default-clause-linked : goal.returns-in_default-clause-linked
returns-in_default-clause-linked c = linked_charged c.scan_next.new.heap c.charge.new.self _ _ c.charge.ensures c.scan_next.ensures.linked

pub returns-clause-linked : goal.returns-clause-linked
returns-clause-linked c = linked_charged c.loop-units.heap c.charge-2.new.self _ _ c.charge-2.ensures c.loop-units.invariant.5
