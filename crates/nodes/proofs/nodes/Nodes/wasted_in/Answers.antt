use Rattle.std.proofs.Common.{arith, ap, ◌∙◌}
use Rattle.size_classes.specs.Parts.{cells_of}
use Rattle.heap_model.specs.Store.{record_of}
use Rattle.nodes.proofs.Writing.{header_inside, part_by}
use Rattle.nodes.proofs.Wasting.{words_by}
use Rattle.nodes.proofs.nodes.Nodes.wasted_in.Goals as goal

pub part-requires : goal.part-requires
part-requires c = omega (arith, header_inside _ _ c.self.view_is c.self.invariant.0.whole c.args.block c.requires)

pub returns-clause-wasted : goal.returns-clause-wasted
returns-clause-wasted c =
    let w = words_by (record_of c.args.self.now c.args.block) c.cells_in-cells.result c.part.result c.of_part-run.result.count (c.cells_in-cells.ensures.cells ∙ ap cells_of c.shape.ensures)
    (c.part.ensures.says ∙ part_by _ _ c.self.view_is c.self.invariant.0.whole c.args.block c.requires) c.of_part-run.ensures.count in
    omega (arith, w, c.saturating_sub.ensures, c.saturating_sub-2.ensures)
