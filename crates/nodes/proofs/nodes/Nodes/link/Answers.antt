use Rattle.std.proofs.Common.{arith, ap, ◌∙◌}
use Rattle.heap_model.specs.Store.{Store}
use Rattle.nodes.specs.Links.{link_of}
use Rattle.nodes.proofs.Writing.{header_inside}
use Rattle.nodes.proofs.nodes.Nodes.link.Goals as goal

pub link-requires : goal.link-requires
link-requires c = omega (arith, header_inside _ _ c.self.view_is c.self.invariant.0.whole c.args.block c.requires)

pub returns : goal.returns
returns c = c.link.ensures ∙ ap (λ (x : Store). link_of x c.args.block) c.self.view_is
