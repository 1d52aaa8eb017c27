use Rattle.std.proofs.Common.{arith, ◌∙◌}
use Rattle.nodes.proofs.Writing.{header_inside, identity_by}
use Rattle.nodes.proofs.nodes.Nodes.identity.Goals as goal

pub identity-requires : goal.identity-requires
identity-requires c = omega (arith, header_inside _ _ c.self.view_is c.self.invariant.0.whole c.args.block c.requires)

pub returns : goal.returns
returns c = c.identity.ensures ∙ identity_by _ _ c.self.view_is c.self.invariant.0.whole c.args.block c.requires
