use Rattle.std.proofs.Common.{subst, sym, refl, arith}
use Rattle.heap_model.specs.State.{HeapState}
use Rattle.heap_model.specs.Agreement.{Agrees}
use Rattle.heap_model.specs.QuantumSpending.{QuantumSpends}
use Rattle.heap_model.proofs.QuantumSpending.Costs.{turn_left}
use Rattle.nodes.specs.HeapFields.{state_of}
use Rattle.machine.proofs.Collecting.{chain_agrees, flushed_heap, flushed_turn}
use Rattle.machine.proofs.heap.Heap.quantum.Goals as goal

pub spend-units-requires-clause-heap : goal.spend-units-requires-clause-heap
spend-units-requires-clause-heap c =
    flushed_heap c.self.inside.fields c.flush_all.new.heap c.self.invariant c.flush_all.ensures.same c.flush_all.ensures.grey c.flush_all.ensures.links c.flush_all.ensures.count c.flush_all.ensures.linked

-- the turn begins where the buffers have what was recorded
turn : (c : goal.After-result-1) → QuantumSpends (state_of c.self.inside.fields) c.args.budget (state_of c.spend-units.new.heap) c.spend-units.result
turn c =
    let e = c.flush_all.ensures in
    flushed_turn c.self.inside.fields c.flush_all.new.heap c.self.invariant e.same e.grey e.links e.rests (state_of c.spend-units.new.heap) c.args.budget c.spend-units.result (omega (arith, c.if-budget-lt-LEAST_BUDGET.false)) c.spend-units.ensures.fields.heap.represents.pages c.spend-units.ensures.turn

pub returns-clause-spends : goal.returns-clause-spends
returns-clause-spends c = ((omega (arith, c.if-budget-lt-LEAST_BUDGET.false), omega (arith, c.if-budget-gt-MOST_BUDGET.false)), subst (λ (h : HeapState). QuantumSpends h c.args.budget (state_of c.spend-units.new.heap) c.spend-units.result) c.self.view_is (turn c), refl)

pub returns-clause-ends : goal.returns-clause-ends
returns-clause-ends c = turn_left (state_of c.flush_all.new.heap) (state_of c.spend-units.new.heap) c.args.budget c.spend-units.result c.spend-units.ensures.fields.heap.represents.pages c.spend-units.ensures.turn

pub returns-clause-agrees : goal.returns-clause-agrees
returns-clause-agrees c g a =
    chain_agrees (state_of c.self.inside.fields) (state_of c.spend-units.new.heap) c.self.invariant.heap c.spend-units.result (turn c).chain g
    (subst (λ (x : HeapState). Agrees x g) (sym c.self.view_is) a)
