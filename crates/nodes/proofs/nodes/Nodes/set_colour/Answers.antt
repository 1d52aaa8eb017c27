use Rattle.std.proofs.Common.{arith, ◌∙◌}
use Rattle.nodes.proofs.Writing.{header_inside, recoloured_nodes, recolours}
use Rattle.nodes.proofs.Linked.{recoloured_links}
use Rattle.nodes.proofs.nodes.Nodes.set_colour.Goals as goal

pub set_colour-requires : goal.set_colour-requires
set_colour-requires c = omega (arith, header_inside _ _ c.self.view_is c.self.invariant.0.whole c.args.block c.requires)

pub invariant_of-self : goal.invariant_of-self
invariant_of-self c = (recoloured_nodes _ _ _ c.self.view_is c.self.invariant.0 c.args.block c.requires _ c.args.colour c.set_colour.ensures.words, c.set_colour.ensures.pages ∙ c.self.invariant.1)

pub returns-clause-written : goal.returns-clause-written
returns-clause-written c = recolours _ _ _ c.self.view_is c.self.invariant.0 c.args.block c.requires _ c.args.colour c.set_colour.ensures.words

pub returns-clause-links : goal.returns-clause-links
returns-clause-links c = recoloured_links _ _ _ c.self.view_is c.self.invariant.0 c.args.block c.requires _ _ c.set_colour.ensures.words
