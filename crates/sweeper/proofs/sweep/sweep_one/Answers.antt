use Rattle.std.proofs.Common.{◌+◌, ap, sym, subst, refl, arith}
use Rattle.heap_model.specs.Action.{Action, Closes_page, goes_to}
use Rattle.heap_model.specs.Pages.{page_at}
use Rattle.heap_model.specs.State.{HeapState}
use Rattle.heap_model.specs.Written.{records}
use Rattle.heap_model.specs.declared.phase.Phase.TheVariants as phases
use Rattle.nodes.specs.declared.heap_fields.HeapFields.{HeapFields}
use Rattle.nodes.specs.HeapFields.{state_of}
use Rattle.nodes.proofs.Keeping.{store_still, linked_left, linked_charged}
use Rattle.nodes.proofs.Representing.{still}
use Rattle.sweeper.proofs.Acting.{looked, garbage_there, is_allocated_there, frees_one, passes_one}
use Rattle.sweeper.proofs.sweep.sweep_one.Goals as goal

pub returns-then-blocks-block-clause-acts : goal.returns-then-blocks-block-clause-acts
returns-then-blocks-block-clause-acts c =
    let a = c.args.heap.now in let h = state_of a in let page = c.args.page in let new = c.close_page.new.self in (
      a.nodes,
      still,
      subst (λ (x : HeapFields). Action h 1 (state_of x)) (sym c.charge.ensures)
          (subst (λ (k : HeapState). Action h 1 (goes_to k 1 (phases.Sweeping (page + 1) 0))) (sym (store_still a c.requires.heap (ap records c.requires.phase) new))
          (Closes_page page c.args.block new c.requires.phase (omega (arith, c.pages.ensures.pages, c.if-pages-page.false))
          (looked (page_at a.nodes.pages page) c.args.block (omega (arith, c.blocks-2.ensures, c.if-blocks-block.true))) c.close_page.ensures.kept c.close_page.ensures.pages)),
    )

pub returns-then-blocks-block-clause-linked : goal.returns-then-blocks-block-clause-linked
returns-then-blocks-block-clause-linked c =
    let a = c.args.heap.now in
    linked_charged (record a { nodes = c.close_page.new.self }) c.charge.new.self _ _ c.charge.ensures (linked_left a c.requires.heap (ap records c.requires.phase) c.close_page.new.self c.close_page.ensures.links)

pub give-requires : goal.give-requires
give-requires c =
    let h = state_of c.args.heap.now in let o = page_at c.args.heap.now.nodes.pages c.args.page in
    is_allocated_there h c.args.page c.args.block o (garbage_there h c.args.page c.args.block o c.if-is_garbage.ensures)

pub returns-then-is_garbage-clause-acts : goal.returns-then-is_garbage-clause-acts
returns-then-is_garbage-clause-acts c =
    let a = c.args.heap.now in let h = state_of a in let page = c.args.page in let new = c.give.new.self in (
      a.nodes,
      still,
      subst (λ (x : HeapFields). Action h 1 (state_of x)) (sym c.charge-then-is_garbage.ensures)
          (subst (λ (k : HeapState). Action h 1 (goes_to k 1 (phases.Sweeping page (c.args.block + 1)))) (sym (store_still a c.requires.heap (ap records c.requires.phase) new))
          (frees_one h page c.args.block new c.requires.phase (page_at a.nodes.pages page) refl (garbage_there h page c.args.block (page_at a.nodes.pages page) c.if-is_garbage.ensures) c.give.ensures.frees c.give.ensures.pages)),
    )

pub returns-then-is_garbage-clause-linked : goal.returns-then-is_garbage-clause-linked
returns-then-is_garbage-clause-linked c =
    let a = c.args.heap.now in
    linked_charged (record a { nodes = c.give.new.self }) c.charge-then-is_garbage.new.self _ _ c.charge-then-is_garbage.ensures (linked_left a c.requires.heap (ap records c.requires.phase) c.give.new.self c.give.ensures.links)

pub returns-clause-acts : goal.returns-clause-acts
returns-clause-acts c =
    let a = c.args.heap.now in let h = state_of a in (
      a.nodes,
      still,
      subst (λ (x : HeapFields). Action h 1 (state_of x)) (sym c.charge-2.ensures)
          (passes_one h c.args.page c.args.block c.requires.phase (page_at a.nodes.pages c.args.page) refl c.if-is_garbage.ensures (omega (arith, c.blocks-2.ensures, c.if-blocks-block.false))),
    )

pub returns-clause-linked : goal.returns-clause-linked
returns-clause-linked c = linked_charged c.args.heap.now c.charge-2.new.self _ _ c.charge-2.ensures c.requires.heap.linked
