use Rattle.std.proofs.Common.{arith, ◌∙◌}
use Rattle.heap_model.specs.Store.{record_of}
use Rattle.nodes.proofs.Seeing.{seen_by}
use Rattle.nodes.proofs.Writing.{header_inside, part_by}
use Rattle.nodes.proofs.nodes.Nodes.seen.Goals as goal

pub part-requires : goal.part-requires
part-requires c = omega (arith, header_inside _ _ c.self.view_is c.self.invariant.0.whole c.args.block c.requires)

pub returns : goal.returns
returns c =
    seen_by c.args.block (record_of c.args.self.now c.args.block) c.identity.result c.part.result c.forward_of.result c.shape.result c.identity.ensures
    (c.part.ensures.says ∙ part_by _ _ c.self.view_is c.self.invariant.0.whole c.args.block c.requires) c.shape.ensures c.forward_of.ensures
