use Rattle.std.proofs.Common.{◌∙◌}
use Rattle.nodes.proofs.Writing.{cell_inside, rewritten_nodes, rewrites}
use Rattle.nodes.proofs.Linked.{rewritten_links}
use Rattle.nodes.proofs.nodes.Nodes.set_cell.Goals as goal

pub set_cell-requires : goal.set_cell-requires
set_cell-requires c = cell_inside _ _ c.self.view_is c.self.invariant.0.whole c.args.block c.requires.allocated c.args.i c.requires.within

pub invariant_of-self : goal.invariant_of-self
invariant_of-self c = (rewritten_nodes _ _ _ c.self.view_is c.self.invariant.0 c.args.block c.requires.allocated _ c.args.i c.args.value c.requires.within c.set_cell.ensures.words, c.set_cell.ensures.pages ∙ c.self.invariant.1)

pub returns-clause-written : goal.returns-clause-written
returns-clause-written c = rewrites _ _ _ c.self.view_is c.self.invariant.0 c.args.block c.requires.allocated _ c.args.i c.args.value c.requires.within c.set_cell.ensures.words

pub returns-clause-links : goal.returns-clause-links
returns-clause-links c = rewritten_links _ _ _ c.self.view_is c.self.invariant.0 c.args.block c.requires.allocated _ c.args.i c.args.value c.requires.within c.set_cell.ensures.words
