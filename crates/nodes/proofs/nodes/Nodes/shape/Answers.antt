use Rattle.std.proofs.Common.{arith, ◌∙◌}
use Rattle.nodes.proofs.Writing.{header_inside, shape_by}
use Rattle.nodes.proofs.nodes.Nodes.shape.Goals as goal

pub shape-requires : goal.shape-requires
shape-requires c = omega (arith, header_inside _ _ c.self.view_is c.self.invariant.0.whole c.args.block c.requires)

pub returns : goal.returns
returns c = c.shape.ensures.says ∙ shape_by _ _ c.self.view_is c.self.invariant.0.whole c.args.block c.requires
