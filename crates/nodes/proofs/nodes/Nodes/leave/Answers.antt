use Rattle.std.proofs.Common.{◌∙◌, sym, refl}
use Rattle.nodes.proofs.Evacuating.{target_page_by, keeps_by, left_store_by}
use Rattle.nodes.proofs.Joining.{same_headers}
use Rattle.nodes.proofs.Linked.{left_links}
use Rattle.nodes.proofs.nodes.Nodes.leave.Goals as goal

pub leave-requires-clause-is_target : goal.leave-requires-clause-is_target
leave-requires-clause-is_target c = target_page_by _ _ _ c.self.view_is c.args.page c.requires.page c.requires.is_target

pub invariant_of-self : goal.invariant_of-self
invariant_of-self c = (
  record {
    whole = left_store_by _ _ c.self.view_is c.self.invariant.0.whole c.args.page c.requires.is_target _ (c.leave.ensures.mark _ c.self.invariant.0.together);
    together = c.leave.ensures.together _ c.self.invariant.0.together;
    headers = same_headers _ _ _ c.self.view_is c.self.invariant.0 _ (keeps_by _ _ c.self.view_is c.self.invariant.0.whole c.args.page c.requires.is_target _ (c.leave.ensures.mark _ c.self.invariant.0.together));
  },
  c.self.invariant.1 ∙ sym c.leave.ensures.len,
)

pub returns-clause-kept : goal.returns-clause-kept
returns-clause-kept c = keeps_by _ _ c.self.view_is c.self.invariant.0.whole c.args.page c.requires.is_target _ (c.leave.ensures.mark _ c.self.invariant.0.together)

pub returns-clause-links : goal.returns-clause-links
returns-clause-links c = left_links _ _ _ c.self.view_is _ refl (keeps_by _ _ c.self.view_is c.self.invariant.0.whole c.args.page c.requires.is_target _ (c.leave.ensures.mark _ c.self.invariant.0.together))
