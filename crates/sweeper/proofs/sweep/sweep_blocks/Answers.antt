use Rattle.std.proofs.Common.{◌≡◌, ◌+◌, ◌*◌, ap, sym, subst, refl, arith}
use Rattle.heap_model.specs.Action.{Chain, goes_to}
use Rattle.heap_model.specs.declared.cost.TheConstants.{LOOK}
use Rattle.heap_model.specs.Pages.{page_at}
use Rattle.heap_model.specs.declared.phase.Phase.TheVariants as phases
use Rattle.heap_model.specs.State.{HeapState}
use Rattle.heap_model.specs.Written.{records}
use Rattle.nodes.proofs.Keeping.{store_still, linked_left, linked_charged}
use Rattle.nodes.specs.declared.heap_fields.HeapFields.{HeapFields}
use Rattle.nodes.specs.HeapFields.{state_of}
use Rattle.sweeper.proofs.Acting.{blocks_few, in_use}
use Rattle.sweeper.proofs.sweep.sweep_blocks.Goals as goal

pub sweep-requires-clause-blocks : goal.sweep-requires-clause-blocks
sweep-requires-clause-blocks c = in_use (page_at c.args.heap.now.nodes.pages c.args.page) c.args.block c.args.count c.requires.some c.requires.within

pub overflow_add-block : goal.overflow_add-block
overflow_add-block c = let f = blocks_few c.args.heap.now.nodes.pages c.requires.heap.heap.represents.pages c.args.page in omega (arith, c.requires.within, f)

pub returns-clause-acts : goal.returns-clause-acts
returns-clause-acts c =
    let a = c.args.heap.now in let h = state_of a in let n = c.args.count in
    subst (λ (x : HeapFields). Chain h n (state_of x)) (sym c.charge.ensures)
    (subst (λ m. Chain h n (goes_to (state_of (record a { nodes = c.sweep.new.self })) m (phases.Sweeping c.args.page (c.args.block + n)))) (let e : n ≡ n * LOOK = omega arith in e)
    (subst (λ (k : HeapState). Chain h n (goes_to k n (phases.Sweeping c.args.page (c.args.block + n)))) (sym (store_still a c.requires.heap (ap records c.requires.phase) c.sweep.new.self))
    (c.sweep.ensures.sweeps h refl refl c.requires.phase)))

pub returns-clause-linked : goal.returns-clause-linked
returns-clause-linked c =
    let a = c.args.heap.now in
    linked_charged (record a { nodes = c.sweep.new.self }) c.charge.new.self _ _ c.charge.ensures (linked_left a c.requires.heap (ap records c.requires.phase) c.sweep.new.self c.sweep.ensures.links)
