use Rattle.std.proofs.Common.{sym, subst, arith}
use Rattle.heap_model.specs.Action.{Action, Ends_moving}
use Rattle.nodes.specs.declared.heap_fields.HeapFields.{HeapFields}
use Rattle.nodes.specs.HeapFields.{state_of}
use Rattle.nodes.proofs.Chains.{runs_once}
use Rattle.nodes.proofs.Keeping.{linked_charged}
use Rattle.nodes.proofs.Representing.{units_small}
use Rattle.defrag.proofs.moving.page_done.Goals as goal

pub charge-requires : goal.charge-requires
charge-requires c = let u = units_small c.args.heap.now c.requires.heap in omega arith

pub returns-else-chosen-heap-clause-acts : goal.returns-else-chosen-heap-clause-acts
returns-else-chosen-heap-clause-acts c =
    let a = c.args.heap.now in
    runs_once a c.charge.new.self 1 1 c.requires.heap
    (subst (λ (x : HeapFields). Action (state_of a) 1 (state_of x)) (sym c.charge.ensures) (Ends_moving (c.requires.ends (let e = c.if-chosen-heap.false in omega arith))))
    (omega arith)

pub returns-then-chosen-heap-clause-acts : goal.returns-then-chosen-heap-clause-acts
returns-then-chosen-heap-clause-acts c = runs_once c.args.heap.now c.choose_one.new.heap 1 1 c.requires.heap c.choose_one.ensures.acts (omega arith)

pub returns-else-chosen-heap-clause-linked : goal.returns-else-chosen-heap-clause-linked
returns-else-chosen-heap-clause-linked c = linked_charged c.args.heap.now c.charge.new.self _ _ c.charge.ensures c.requires.heap.linked
