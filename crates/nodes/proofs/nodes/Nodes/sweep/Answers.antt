use Rattle.std.proofs.Common.{◌+◌, ◌≤◌, length, sym, subst, ◌∙◌}
use Rattle.std.specs.Prelude.{IsSomeAnd}
use Rattle.heap_model.specs.Pages.{page_at}
use Rattle.heap_model.specs.Store.{Store}
use Rattle.nodes.proofs.Sweeping.{swept_sound, sweeps_by, left_by}
use Rattle.nodes.proofs.nodes.Nodes.sweep.Goals as goal

pub sweep-requires-clause-blocks : goal.sweep-requires-clause-blocks
sweep-requires-clause-blocks c = subst (λ (x : Store). IsSomeAnd (page_at x.pages c.args.page) (λ p. c.args.index + c.args.count ≤ length p.allocated)) (sym c.self.view_is) c.requires.blocks

pub invariant_of-self : goal.invariant_of-self
invariant_of-self c = (
  let sound = swept_sound _ _ _ c.self.view_is c.self.invariant.0.whole c.self.invariant.0.headers c.args.colour c.args.page c.args.index c.args.count c.sweep.ensures.looks in
      record { whole = sound.whole; together = c.sweep.ensures.together; headers = sound.headers },
  c.sweep.ensures.pages ∙ c.self.invariant.1 ∙ sym c.sweep.ensures.len,
)

pub returns-clause-links : goal.returns-clause-links
returns-clause-links c = left_by _ _ _ c.self.view_is c.self.invariant.0.whole c.self.invariant.0.headers c.args.colour c.args.page c.args.index c.args.count c.sweep.ensures.looks

pub returns-clause-sweeps : goal.returns-clause-sweeps
returns-clause-sweeps c = sweeps_by _ _ _ c.self.view_is c.self.invariant.0.whole c.self.invariant.0.headers c.args.colour c.args.page c.args.index c.args.count c.sweep.ensures.looks
