use Rattle.std.proofs.Common.{◌≡◌, ◌+◌, ◌-◌, ◌<◌, ap, ◌∙◌, subst, arith}
use Rattle.heap_model.specs.QuantumSpending.{QuantumSpends}
use Rattle.nodes.specs.Grey.{in_buffers}
use Rattle.nodes.specs.HeapFields.{state_of}
use Rattle.nodes.specs.declared.heap_fields.HeapFields.{HeapFields}
use Rattle.nodes.proofs.Representing.{units_small}
use Rattle.machine.proofs.Collecting.{HasSpent, spent_nothing, spends_on, spent_all, spent_most}
use Rattle.machine.proofs.heap.collecting.spend.Goals.{then-loop-heap-test+else-act, else-loop-heap-test}
use Rattle.machine.proofs.heap.collecting.spend.Goals as goal

pub overflow_add-end : goal.overflow_add-end
overflow_add-end c = let u = units_small c.args.heap.now c.requires.heap in omega (arith, u, c.ranges.budget.fits)

pub loop-heap-init : goal.loop-heap-init
loop-heap-init c = spent_nothing c.args.heap.now c.args.budget c.requires.heap

pub overflow_cast-end-in-loop-heap : goal.overflow_cast-end-in-loop-heap
overflow_cast-end-in-loop-heap c = let more = c.loop-heap.invariant.more in omega (arith, more, c.ranges.budget.fits)

pub act-requires-clause-heap : goal.act-requires-clause-heap
act-requires-clause-heap c = c.loop-heap.invariant.heap

pub act-requires-clause-buffers : goal.act-requires-clause-buffers
act-requires-clause-buffers c = ap in_buffers c.loop-heap.invariant.buffers ∙ c.requires.buffers

-- after one more step
on : (c : goal.Then-act) → HasSpent c.args.heap.now c.act.new.heap c.args.budget × (c.loop-heap.heap.units < c.act.new.heap.units)
on c = spends_on c.args.heap.now c.loop-heap.heap c.act.new.heap c.args.budget c.loop-heap.invariant c.if-act.ensures.acts c.if-act.ensures.buffers c.if-act.ensures.linked

pub loop-heap-smaller : goal.loop-heap-smaller
loop-heap-smaller c =
    let rises = (on c).1 in let within = (on c).0.within in
    let l : c.args.heap.now.units + c.args.budget - c.act.new.heap.units < c.args.heap.now.units + c.args.budget - c.loop-heap.heap.units = omega (arith, rises, within) in l

pub loop-heap-preserved : goal.loop-heap-preserved
loop-heap-preserved c = (on c).0

pub overflow_sub-result : goal.overflow_sub-result
overflow_sub-result c = elim c.loop-heap-test.branch [
  | then-loop-heap-test+else-act w ↦ let e : c.loop-heap.heap ≡ c.loop-heap-test.heap = cc (w.heap-is, w.if-act.ensures.acts.0) in
      (subst (λ (x : HeapFields). HasSpent c.args.heap.now x c.args.budget) e c.loop-heap.invariant).more
  | else-loop-heap-test w ↦ let e : c.loop-heap.heap ≡ c.loop-heap-test.heap = cc (w.heap-is) in
      (subst (λ (x : HeapFields). HasSpent c.args.heap.now x c.args.budget) e c.loop-heap.invariant).more
]

-- when the turn is over
over : (c : goal.After-row_known-2-1) → HasSpent c.args.heap.now c.loop-heap-test.heap c.args.budget
    × QuantumSpends (state_of c.args.heap.now) c.args.budget (state_of c.loop-heap-test.heap) (c.loop-heap-test.heap.units - c.args.heap.now.units)
over c = elim c.loop-heap-test.branch [
  | then-loop-heap-test+else-act w ↦ by_heap c.loop-heap-test.heap (let e : c.loop-heap.heap ≡ c.loop-heap-test.heap = cc (w.heap-is, w.if-act.ensures.acts.0) in e)
      (spent_most c.args.heap.now c.loop-heap.heap w.act.new.heap c.args.budget c.loop-heap.invariant w.if-act.ensures.acts)
  | else-loop-heap-test w ↦ by_heap c.loop-heap-test.heap (let e : c.loop-heap.heap ≡ c.loop-heap-test.heap = cc (w.heap-is) in e)
      (spent_all c.args.heap.now c.loop-heap.heap c.loop-heap.heap c.args.budget c.loop-heap.invariant (omega (arith, w.loop-heap-test.false)))
]
  where
    by_heap : (x : HeapFields) → c.loop-heap.heap ≡ x → QuantumSpends (state_of c.args.heap.now) c.args.budget (state_of c.loop-heap.heap) (c.loop-heap.heap.units - c.args.heap.now.units)
        → HasSpent c.args.heap.now x c.args.budget × QuantumSpends (state_of c.args.heap.now) c.args.budget (state_of x) (x.units - c.args.heap.now.units)
    by_heap x e turn = subst (λ (x : HeapFields). HasSpent c.args.heap.now x c.args.budget × QuantumSpends (state_of c.args.heap.now) c.args.budget (state_of x) (x.units - c.args.heap.now.units)) e (c.loop-heap.invariant, turn)

pub overflow_cast-result : goal.overflow_cast-result
overflow_cast-result c = let within = (over c).0.within in omega (arith, within, c.ranges.budget.fits)

pub returns-clause-fields : goal.returns-clause-fields
returns-clause-fields c = (over c).0.heap

pub returns-clause-turn : goal.returns-clause-turn
returns-clause-turn c = (over c).1
