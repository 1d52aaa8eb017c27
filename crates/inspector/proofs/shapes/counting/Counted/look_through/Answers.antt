use Rattle.std.proofs.Common.{◌≡◌, arith}
use Rattle.heap_model.specs.Pages.{page_at}
use Rattle.inspector.specs.Shapes.{places_on}
use Rattle.inspector.proofs.ShapeSums.{no_places, places_seen}
use Rattle.inspector.proofs.ShapeCounts.{counted_page}
use Rattle.inspector.proofs.shapes.counting.Counted.look_through.Goals as goal

pub returns-in_default : goal.returns-in_default
returns-in_default c =
    let s = c.args.heap.now.store in
    counted_page s c.args.page 0 c.args.self.now c.requires.before (no_places (page_at s.pages c.args.page) c.in_default.ensures.view) (omega arith)

pub returns : goal.returns
returns c =
    let s = c.args.heap.now.store in
    let here : places_on (page_at s.pages c.args.page) ≡ _ = places_seen (page_at s.pages c.args.page) c.in-Some.view c.in-Some.ensures.view in
    counted_page s c.args.page c.loop-index.index c.loop-index.self c.loop-index.invariant (omega (arith, here, c.loop-index-test.false)) (omega arith)
