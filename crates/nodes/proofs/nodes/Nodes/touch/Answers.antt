use Rattle.std.proofs.Common.{◌∙◌}
use Rattle.nodes.proofs.Touching.{touched_nodes, touched_is, touched_kept, touched_links}
use Rattle.nodes.proofs.nodes.Nodes.touch.Goals as goal

pub invariant_of-self : goal.invariant_of-self
invariant_of-self c = (touched_nodes _ _ _ c.self.view_is c.self.invariant.0 c.args.pages c.self.inside.arena.pages c.self.invariant.1 c.touch.new.self.words c.touch.ensures.words, c.touch.ensures.pages ∙ c.self.invariant.1)

pub returns-clause-touched : goal.returns-clause-touched
returns-clause-touched c = touched_is _ _ _ c.self.view_is c.self.invariant.0 c.args.pages c.self.inside.arena.pages c.self.invariant.1 c.touch.new.self.words c.touch.ensures.words

pub returns-clause-kept : goal.returns-clause-kept
returns-clause-kept c = touched_kept _ _ _ c.self.view_is c.self.invariant.0 c.args.pages c.self.inside.arena.pages c.self.invariant.1 c.touch.new.self.words c.touch.ensures.words

pub returns-clause-links : goal.returns-clause-links
returns-clause-links c = touched_links _ _ _ c.self.view_is c.self.invariant.0 c.args.pages c.self.inside.arena.pages c.self.invariant.1 c.touch.new.self.words c.touch.ensures.words
