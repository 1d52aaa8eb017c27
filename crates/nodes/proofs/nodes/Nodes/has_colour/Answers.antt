use Rattle.std.proofs.Common.{ap, ◌∙◌, arith}
use Rattle.heap_model.specs.State.{same_colour}
use Rattle.nodes.proofs.Writing.{header_inside, colour_by}
use Rattle.nodes.proofs.nodes.Nodes.has_colour.Goals as goal

pub has_colour-requires : goal.has_colour-requires
has_colour-requires c = omega (arith, header_inside _ _ c.self.view_is c.self.invariant.0.whole c.args.block c.requires)

pub returns : goal.returns
returns c = c.has_colour.ensures ∙ ap (same_colour c.args.colour) (colour_by _ _ c.self.view_is c.self.invariant.0.whole c.args.block c.requires)
