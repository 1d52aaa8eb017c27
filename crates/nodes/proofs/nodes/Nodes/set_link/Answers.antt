use Rattle.std.proofs.Common.{arith, ◌∙◌}
use Rattle.nodes.proofs.Writing.{header_inside}
use Rattle.nodes.proofs.Linked.{linked_nodes, relinked}
use Rattle.nodes.proofs.nodes.Nodes.set_link.Goals as goal

pub set_link-requires : goal.set_link-requires
set_link-requires c = omega (arith, header_inside _ _ c.self.view_is c.self.invariant.0.whole c.args.block c.requires)

pub invariant_of-self : goal.invariant_of-self
invariant_of-self c = (linked_nodes _ _ _ c.self.view_is c.self.invariant.0 c.args.block c.requires _ c.args.link c.set_link.ensures.words, c.set_link.ensures.pages ∙ c.self.invariant.1)

pub returns : goal.returns
returns c = relinked _ _ _ c.self.view_is c.self.invariant.0 c.args.block c.requires _ c.args.link c.set_link.ensures.words
