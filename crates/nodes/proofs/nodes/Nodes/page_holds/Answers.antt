use Rattle.std.proofs.Common.{◌≡◌, Some, None, sym, subst, arith}
use Rattle.std.specs.Prelude.{option_map}
use Rattle.size_classes.specs.Sizes.{blocks_in}
use Rattle.heap_model.specs.Pages.{Page, page_at}
use Rattle.heap_model.specs.Store.{Store, IsStore}
use Rattle.nodes.proofs.Holding.{HasNoneBefore, none_more, none_free, none_there}
use Rattle.nodes.proofs.Joining.{below_by}
use Rattle.nodes.proofs.nodes.Nodes.page_holds.Goals as goal

pub returns-in_default-clause-no : goal.returns-in_default-clause-no
returns-in_default-clause-no c h =
    none_free c.args.self.now c.args.id c.args.page (subst (λ (x : Store). option_map (λ (p : Page). p.class) (page_at x.pages c.args.page) ≡ None) c.self.view_is (sym (c.in_default.ensures _ c.self.invariant.0.together)))

pub loop-index-init : goal.loop-index-init
loop-index-init c j l = absurd (omega (arith, l))

pub loop-index-preserved : goal.loop-index-preserved
loop-index-preserved c = none_more c.args.self.now c.args.id c.args.page c.loop-index.index c.loop-index.invariant (c.place_holds.ensures.no c.if-place_holds.false)

pub returns-clause-no : goal.returns-clause-no
returns-clause-no c h =
    let is = subst (λ (x : Store). option_map (λ (p : Page). p.class) (page_at x.pages c.args.page) ≡ Some c.in-Some.class) c.self.view_is (sym (c.in-Some.ensures _ c.self.invariant.0.together)) in
    let e : c.loop-index.index ≡ blocks_in c.in-Some.class = omega (arith, c.blocks_per_page-index-end.ensures.blocks) in
    none_there c.args.self.now (subst IsStore c.self.view_is c.self.invariant.0.whole) c.args.id c.args.page c.in-Some.class is
    (subst (HasNoneBefore c.args.self.now c.args.id c.args.page) e c.loop-index.invariant)

pub class-requires : goal.class-requires
class-requires c = below_by _ _ _ c.self.view_is c.args.page c.requires
