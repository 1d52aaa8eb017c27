use Rattle.std.proofs.Common.{◌<◌, ◌≤◌, None, inr, sym, subst, ap, ◌∙◌, arith}
use Rattle.size_classes.specs.Sizes.{size_of}
use Rattle.heap_model.specs.Action.{AtPass, MovingDone}
use Rattle.heap_model.specs.QuantumSpending.{Of_move}
use Rattle.nodes.specs.Acting.{Acts}
use Rattle.nodes.specs.declared.heap_fields.HeapFields.{HeapFields}
use Rattle.nodes.specs.HeapFields.{state_of, AreHeapFields}
use Rattle.nodes.proofs.Chains.{runs_once}
use Rattle.defrag.proofs.Moves.{class_small, looks_again, ends}
use Rattle.defrag.proofs.moving.empty_next.Goals as goal

pub returns-in-Words-clause-acts : goal.returns-in-Words-clause-acts
returns-in-Words-clause-acts c =
    let m = c.in-Words.ensures.moves in
    runs_once c.args.heap.now c.move_one.new.heap c.args.room _ c.requires.heap m.5 m.3

pub returns-in-DoesNotFit-clause-acts : goal.returns-in-DoesNotFit-clause-acts
returns-in-DoesNotFit-clause-acts c =
    let m = c.in-DoesNotFit.ensures.moves in
    (m.3, inr (size_of m.0.class, Of_move m.0 m.1, m.2))

pub page_done-requires-clause-heap : goal.page_done-requires-clause-heap
page_done-requires-clause-heap c = subst AreHeapFields (sym c.in-PageDone.ensures.moves.1) c.requires.heap

pub page_done-requires-clause-class : goal.page_done-requires-clause-class
page_done-requires-clause-class c = class_small c.args.heap.now c.requires.heap c.args.class c.args.page c.args.block c.args.chosen c.requires.phase

pub page_done-requires-clause-again : goal.page_done-requires-clause-again
page_done-requires-clause-again c =
    let m = c.in-PageDone.ensures.moves in
    subst (λ (x : HeapFields). c.args.chosen < x.config.defrag_pages → AtPass (state_of x) c.args.class 0 None c.args.chosen) (sym m.1)
    (looks_again c.args.heap.now c.requires.heap c.args.class c.args.page c.args.block c.args.chosen c.requires.phase m.0)

pub page_done-requires-clause-ends : goal.page_done-requires-clause-ends
page_done-requires-clause-ends c =
    let m = c.in-PageDone.ensures.moves in
    subst (λ (x : HeapFields). x.config.defrag_pages ≤ c.args.chosen → MovingDone (state_of x)) (sym m.1)
    (ends c.args.heap.now c.requires.heap c.args.class c.args.page c.args.block c.args.chosen c.requires.phase m.0)

pub returns-in-PageDone-clause-acts : goal.returns-in-PageDone-clause-acts
returns-in-PageDone-clause-acts c =
    let d = subst (λ (x : HeapFields). Acts x 1 c.page_done.new.heap) c.in-PageDone.ensures.moves.1 c.page_done.ensures.acts in
    (d.0, d.1, d.2, omega (arith, d.3, c.requires.room))

pub returns-in-PageDone-clause-grey : goal.returns-in-PageDone-clause-grey
returns-in-PageDone-clause-grey c = c.page_done.ensures.grey ∙ ap (λ (x : HeapFields). x.grey) c.in-PageDone.ensures.moves.1
