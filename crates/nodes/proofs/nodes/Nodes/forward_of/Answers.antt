use Rattle.std.proofs.Common.{arith, ◌∙◌}
use Rattle.nodes.proofs.Writing.{header_inside, forward_by}
use Rattle.nodes.proofs.nodes.Nodes.forward_of.Goals as goal

pub forward_of-requires : goal.forward_of-requires
forward_of-requires c = omega (arith, header_inside _ _ c.self.view_is c.self.invariant.0.whole c.args.block c.requires)

pub returns : goal.returns
returns c = c.forward_of.ensures ∙ forward_by _ _ c.self.view_is c.self.invariant.0.whole c.args.block c.requires
