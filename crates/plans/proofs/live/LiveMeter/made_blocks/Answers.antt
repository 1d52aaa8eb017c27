use Rattle.std.proofs.Common.{◌≡◌, ℕ, ◌+◌, ◌<◌, take, get_or, true, ap, ◌∙◌, arith}
use Rattle.std.proofs.lemmas.List.Sums.{sum_by_more}
use Rattle.graph_heap.specs.Graph.{Object, no_object}
use Rattle.graph_heap.specs.Shape.{fits}
use Rattle.size_classes.specs.declared.class.TheConstants.{CLASSES}
use Rattle.size_classes.specs.Need.{needed}
use Rattle.space.specs.Demand.{blocks_of}
use Rattle.sizing.proofs.Counts.Counting.{are_sum, are_same}
use Rattle.plans.proofs.Classes.{object_next}
use Rattle.plans.proofs.live.LiveMeter.made_blocks.Goals as goal

pub loop-at-preserved : goal.loop-at-preserved
loop-at-preserved c = λ fit.
    let objects = c.args.self.now.graph.objects in
    let at = c.loop-at.at in
    let shape = c.shape-shape.result in
    let fitting : fits shape ≡ true = ap fits c.shape-shape.ensures ∙ fit (at + 1) in
    let more : (class : ℕ) → class < CLASSES → blocks_of (take (at + 1) objects) class ≡ blocks_of (take at objects) class + needed shape class =
    λ class small. (
    let sum = sum_by_more (λ (o : Object). needed o.shape class) objects at no_object (omega (arith, c.loop-at-test.true, c.count-at-end.ensures)) in
    let last : needed shape class ≡ needed (get_or objects at no_object).shape class = ap (λ s. needed s class) (c.shape-shape.ensures ∙ ap (λ (o : Object). o.shape) (object_next objects at)) in
    omega (arith, sum, last)) in
    are_same c.add.new.blocks (λ class. blocks_of (take at objects) class + needed shape class) (blocks_of (take (at + 1) objects)) more
    (are_sum c.loop-at.blocks c.needed_by.result c.add.new.blocks (blocks_of (take at objects)) (needed shape) (c.loop-at.invariant fit) (c.needed_by.ensures fitting) c.add.ensures)
