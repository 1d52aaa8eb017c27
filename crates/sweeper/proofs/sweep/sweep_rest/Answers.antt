use Rattle.std.proofs.Common.{◌≡◌, ◌+◌, ◌*◌, ap, sym, subst, refl, arith}
use Rattle.heap_model.specs.Action.{Chain, Closes_page, goes_to}
use Rattle.heap_model.specs.declared.cost.TheConstants.{CLOSE, LOOK}
use Rattle.heap_model.specs.Pages.{page_at}
use Rattle.heap_model.specs.declared.phase.Phase.TheVariants as phases
use Rattle.heap_model.specs.State.{HeapState}
use Rattle.heap_model.specs.Written.{records}
use Rattle.nodes.proofs.Chains.{then_action}
use Rattle.nodes.proofs.Keeping.{store_still, linked_left, linked_charged}
use Rattle.nodes.specs.declared.heap_fields.HeapFields.{HeapFields}
use Rattle.nodes.specs.HeapFields.{state_of}
use Rattle.sweeper.proofs.Acting.{blocks_few, in_use, looked}
use Rattle.sweeper.proofs.sweep.sweep_rest.Goals as goal

pub sweep_and_close-requires-clause-blocks : goal.sweep_and_close-requires-clause-blocks
sweep_and_close-requires-clause-blocks c = in_use (page_at c.args.heap.now.nodes.pages c.args.page) c.args.block c.args.count c.requires.some (omega (arith, c.requires.all))

pub returns-clause-acts : goal.returns-clause-acts
returns-clause-acts c =
    let a = c.args.heap.now in let h = state_of a in let n = c.args.count in let new = c.sweep_and_close.new.self in
    let s = c.sweep_and_close.ensures.sweeps in
    let j : HeapState = goes_to (record h { store = s.mid }) n (phases.Sweeping c.args.page (c.args.block + n)) in
    let done = then_action h j (goes_to (record j { store = new }) 1 (phases.Sweeping (c.args.page + 1) 0)) n 1 (s.sweeps h refl refl c.requires.phase)
    (Closes_page c.args.page (c.args.block + n) new refl (omega (arith, s.len, c.requires.page)) (looked (page_at s.mid.pages c.args.page) (c.args.block + n) (omega (arith, s.blocks, c.requires.all))) s.kept s.closes) in
    subst (λ (x : HeapFields). Chain h (n + 1) (state_of x)) (sym c.charge.ensures)
    (subst (λ m. Chain h (n + 1) (goes_to (state_of (record a { nodes = new })) m (phases.Sweeping (c.args.page + 1) 0))) (let e : n + 1 ≡ n * LOOK + CLOSE = omega arith in e)
    (subst (λ (k : HeapState). Chain h (n + 1) (goes_to k (n + 1) (phases.Sweeping (c.args.page + 1) 0))) (sym (store_still a c.requires.heap (ap records c.requires.phase) new))
    (subst (λ u. Chain h (n + 1) (record h { store = new; phase = phases.Sweeping (c.args.page + 1) 0; units = u })) (let e : h.units + n + 1 ≡ h.units + (n + 1) = omega arith in e) done)))

pub overflow_add-count : goal.overflow_add-count
overflow_add-count c = let f = blocks_few c.args.heap.now.nodes.pages c.requires.heap.heap.represents.pages c.args.page in omega (arith, c.requires.all, f)

pub returns-clause-linked : goal.returns-clause-linked
returns-clause-linked c =
    let a = c.args.heap.now in
    linked_charged (record a { nodes = c.sweep_and_close.new.self }) c.charge.new.self _ _ c.charge.ensures (linked_left a c.requires.heap (ap records c.requires.phase) c.sweep_and_close.new.self c.sweep_and_close.ensures.links)
