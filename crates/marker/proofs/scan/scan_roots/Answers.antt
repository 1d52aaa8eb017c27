use Rattle.std.proofs.Common.{◌≡◌, ◌+◌, length, ap, ◌∙◌, refl, sym, subst, arith}
use Rattle.heap_model.specs.Action.{Action, Nothing_done, Ends_roots}
use Rattle.heap_model.specs.declared.phase.Phase.TheVariants as phases
use Rattle.nodes.specs.declared.heap_fields.HeapFields.{HeapFields}
use Rattle.nodes.specs.HeapFields.{state_of}
use Rattle.nodes.proofs.Chains.{then_action, runs_once, heap_after_chain}
use Rattle.nodes.proofs.Keeping.{linked_charged}
use Rattle.marker.proofs.scan.scan_roots.Goals as goal

pub returns-then-left-eq0-clause-acts : goal.returns-then-left-eq0-clause-acts
returns-then-left-eq0-clause-acts c =
    runs_once c.args.heap.now c.charge.new.self c.args.room 1 c.requires.heap
    (subst (λ (x : HeapFields). Action (state_of c.args.heap.now) 1 (state_of x)) (sym c.charge.ensures)
    (Ends_roots c.args.next c.requires.phase (omega (arith, c.if-left-eq0.true, c.saturating_sub-left.ensures, ap length c.cells.ensures))))
    (omega (arith, c.requires.room))

pub returns-then-left-eq0-clause-linked : goal.returns-then-left-eq0-clause-linked
returns-then-left-eq0-clause-linked c = linked_charged c.args.heap.now c.charge.new.self _ _ c.charge.ensures c.requires.heap.linked

pub loop-scanned-init : goal.loop-scanned-init
loop-scanned-init c = (
  Nothing_done,
  c.requires.phase ∙ ap phases.Roots (let e : c.args.next ≡ c.args.next + 0 = omega arith in e),
  refl,
  refl,
  omega arith,
  c.requires.heap.linked,
)

pub scan_root-requires-clause-heap : goal.scan_root-requires-clause-heap
scan_root-requires-clause-heap c =
    let i = c.loop-scanned.invariant in heap_after_chain c.args.heap.now c.loop-scanned.heap c.requires.heap c.loop-scanned.scanned i.0 (ap length i.2) i.5

pub scan_root-requires-clause-within : goal.scan_root-requires-clause-within
scan_root-requires-clause-within c =
    omega (arith, c.loop-scanned-test.true, c.loop-scanned.invariant.3, c.min-count.ensures, c.saturating_sub-left.ensures, ap length c.cells.ensures)

pub loop-scanned-preserved : goal.loop-scanned-preserved
loop-scanned-preserved c =
    let i = c.loop-scanned.invariant in let e = c.scan_root.ensures in let n = c.loop-scanned.scanned in (
      then_action (state_of c.args.heap.now) (state_of c.loop-scanned.heap) (state_of c.scan_root.new.heap) n 1 i.0 e.acts,
      e.phase ∙ ap phases.Roots (let q : c.args.next + n + 1 ≡ c.args.next + (n + 1) = omega arith in q),
      e.buffers ∙ i.2,
      e.cells ∙ i.3,
      omega (arith, c.loop-scanned-test.true),
      e.linked,
    )
