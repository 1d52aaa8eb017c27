use Rattle.std.proofs.Common.{◌≡◌, length, arith}
use Rattle.inspector.proofs.ShapeCounts.{counted_first, counted_rows, counted_all}
use Rattle.inspector.proofs.shapes.counting.count.Goals as goal

pub loop-page-init : goal.loop-page-init
loop-page-init c = counted_first _ _ c.new.ensures.ordered c.new.ensures.empty c.nothing.ensures

pub returns-clause-rows : goal.returns-clause-rows
returns-clause-rows c =
    let last : c.loop-page.page ≡ length c.args.heap.now.store.pages = omega (arith, c.pages-page-end.ensures.pages) in
    counted_rows c.args.heap.now.store c.loop-page.page c.loop-page.counted c.loop-page.invariant last

pub returns-clause-all : goal.returns-clause-all
returns-clause-all c =
    let last : c.loop-page.page ≡ length c.args.heap.now.store.pages = omega (arith, c.pages-page-end.ensures.pages) in
    counted_all c.args.heap.now.store c.loop-page.page c.loop-page.counted c.loop-page.invariant last
