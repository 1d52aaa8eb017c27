use Rattle.std.proofs.Common.{◌∙◌, sym, refl}
use Rattle.nodes.proofs.Freeing.{keeps_by, closed_store_by}
use Rattle.nodes.proofs.Joining.{below_by, same_headers}
use Rattle.nodes.proofs.Linked.{left_links}
use Rattle.nodes.proofs.nodes.Nodes.close_page.Goals as goal

pub invariant_of-self : goal.invariant_of-self
invariant_of-self c = (
  record {
    whole = closed_store_by _ _ c.self.view_is c.self.invariant.0.whole c.args.page 0 _ c.requires (c.close_page.ensures.closed _ c.self.invariant.0.together);
    together = c.close_page.ensures.together _ c.self.invariant.0.together;
    headers = same_headers _ _ _ c.self.view_is c.self.invariant.0 _ (keeps_by _ _ c.self.view_is c.self.invariant.0.whole c.args.page 0 _ c.requires (c.close_page.ensures.closed _ c.self.invariant.0.together));
  },
  c.self.invariant.1 ∙ sym c.close_page.ensures.len,
)

pub returns-clause-kept : goal.returns-clause-kept
returns-clause-kept c = keeps_by _ _ c.self.view_is c.self.invariant.0.whole c.args.page 0 _ c.requires (c.close_page.ensures.closed _ c.self.invariant.0.together)

pub returns-clause-links : goal.returns-clause-links
returns-clause-links c = left_links _ _ _ c.self.view_is _ refl (keeps_by _ _ c.self.view_is c.self.invariant.0.whole c.args.page 0 _ c.requires (c.close_page.ensures.closed _ c.self.invariant.0.together))

pub close_page-requires : goal.close_page-requires
close_page-requires c = below_by _ _ _ c.self.view_is c.args.page c.requires
