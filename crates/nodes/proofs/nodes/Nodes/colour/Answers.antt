use Rattle.std.proofs.Common.{arith, ◌∙◌}
use Rattle.nodes.proofs.Writing.{header_inside, colour_by}
use Rattle.nodes.proofs.nodes.Nodes.colour.Goals as goal

pub colour-requires : goal.colour-requires
colour-requires c = omega (arith, header_inside _ _ c.self.view_is c.self.invariant.0.whole c.args.block c.requires)

pub returns : goal.returns
returns c = c.colour.ensures ∙ colour_by _ _ c.self.view_is c.self.invariant.0.whole c.args.block c.requires
