use Rattle.std.proofs.Common.{not, ap, ◌∙◌, refl}
use Rattle.heap_model.specs.Pages.{page_at}
use Rattle.nodes.specs.HeapFields.{state_of}
use Rattle.sweeper.proofs.Acting.{none_garbage, some_garbage}
use Rattle.sweeper.proofs.sweep.is_garbage.Goals as goal

pub returns-in-None : goal.returns-in-None
returns-in-None c = none_garbage (state_of c.args.heap.now) c.args.page c.args.block (page_at c.args.heap.now.nodes.pages c.args.page) (λ there. let z = c.in-None.ensures.allocated.1 there in cc)

pub returns-in-Some : goal.returns-in-Some
returns-in-Some c =
    let e = c.in-Some.ensures in
    ap not c.has_colour.ensures ∙ some_garbage (state_of c.args.heap.now) c.args.page c.args.block (page_at c.args.heap.now.nodes.pages c.args.page) c.in-Some.address (e.allocated.0 refl) e.address
