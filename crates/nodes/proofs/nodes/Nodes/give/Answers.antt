use Rattle.std.proofs.Common.{◌≡◌, true, false, Some, set, sym, subst, ◌∙◌}
use Rattle.std.specs.Prelude.{IfSome, IsSomeAnd, slice_get}
use Rattle.heap_model.specs.Pages.{Page, page_at, with_allocated}
use Rattle.heap_model.specs.Store.{Store}
use Rattle.pages.specs.Together.{pages_in}
use Rattle.nodes.proofs.Freeing.{frees_by, freed_store_by, freed_headers}
use Rattle.nodes.proofs.Joining.{below_by}
use Rattle.nodes.proofs.Sweeping.{given_leaves, in_use_low}
use Rattle.nodes.proofs.nodes.Nodes.give.Goals as goal

pub give-requires-clause-page : goal.give-requires-clause-page
give-requires-clause-page c = below_by _ _ _ c.self.view_is c.args.page (in_use_low _ c.args.page (λ (p : Page). slice_get p.allocated c.args.index ≡ Some true) c.requires)

pub give-requires-clause-allocated : goal.give-requires-clause-allocated
give-requires-clause-allocated c = subst (λ (x : Store). IsSomeAnd (page_at x.pages c.args.page) (λ p. slice_get p.allocated c.args.index ≡ Some true)) (sym c.self.view_is) c.requires

pub invariant_of-self : goal.invariant_of-self
invariant_of-self c = (
  record { whole = freed_store_by _ _ c.self.view_is c.self.invariant.0.whole c.args.page c.args.index _ _ c.give.ensures.words c.requires c.give.ensures.given; together = c.give.ensures.together; headers = freed_headers _ _ c.self.view_is c.self.invariant.0.whole c.args.page c.args.index _ _ c.give.ensures.words c.requires c.give.ensures.given c.self.invariant.0.headers },
  c.give.ensures.pages ∙ c.self.invariant.1 ∙ sym c.give.ensures.len,
)

pub returns-clause-frees : goal.returns-clause-frees
returns-clause-frees c = frees_by _ _ c.self.view_is c.self.invariant.0.whole c.args.page c.args.index _ _ c.give.ensures.words c.requires c.give.ensures.given

pub returns-clause-pages : goal.returns-clause-pages
returns-clause-pages c = subst (λ (x : Store). IfSome (page_at x.pages c.args.page) (λ p. pages_in c.give.new.self c.give.new.arena.words ≡ set x.pages c.args.page (Some (with_allocated p c.args.index false)))) c.self.view_is c.give.ensures.given

pub returns-clause-links : goal.returns-clause-links
returns-clause-links c = given_leaves _ _ _ c.self.view_is c.self.invariant.0.whole c.self.invariant.0.headers c.args.page c.args.index c.requires c.give.ensures.given c.give.ensures.words
