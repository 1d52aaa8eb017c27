use Rattle.std.proofs.Common.{◌≡◌, ◌<◌, true, false, Some, None, ap, subst, sym, ◌∙◌, arith}
use Rattle.std.specs.Prelude.{option_map}
use Rattle.size_classes.specs.Sizes.{blocks_in}
use Rattle.heap_model.specs.Pages.{Page, page_at}
use Rattle.heap_model.specs.Store.{Store, IsStore}
use Rattle.nodes.specs.Copies.{copies_below}
use Rattle.nodes.proofs.Counting.{free_done, block_there, step_allocated, step_none, all_done}
use Rattle.nodes.proofs.Joining.{below_by}
use Rattle.nodes.proofs.nodes.Nodes.with_page.Goals as goal
use Rattle.nodes.proofs.nodes.Nodes.with_page.Goals.{in-Some-allocated_block, in_default-allocated_block}

pub returns-in_default : goal.returns-in_default
returns-in_default c =
    let none = subst (λ (x : Store). option_map (λ (p : Page). p.class) (page_at x.pages c.args.page) ≡ None) c.self.view_is (sym (c.in_default.ensures _ c.self.invariant.0.together)) in
    c.requires.before ∙ sym (free_done c.args.self.now (subst IsStore c.self.view_is c.self.invariant.0.whole) c.args.page none)

pub with_block-copies-requires-clause-before : goal.with_block-copies-requires-clause-before
with_block-copies-requires-clause-before c =
    let is = subst (λ (x : Store). option_map (λ (p : Page). p.class) (page_at x.pages c.args.page) ≡ Some c.in-Some.class) c.self.view_is (sym (c.in-Some.ensures _ c.self.invariant.0.together)) in
    let b = block_there c.args.self.now (subst IsStore c.self.view_is c.self.invariant.0.whole) c.args.page c.in-Some.class is c.loop-index.index c.in-Some-allocated_block.block c.in-Some-allocated_block.ensures.address in
    c.loop-index.invariant ∙ ap (copies_below c.args.self.now) (sym b)

pub loop-index-preserved : goal.loop-index-preserved
loop-index-preserved c =
    let w = subst IsStore c.self.view_is c.self.invariant.0.whole in
    let is = subst (λ (x : Store). option_map (λ (p : Page). p.class) (page_at x.pages c.args.page) ≡ Some c.in-Some.class) c.self.view_is (sym (c.in-Some.ensures _ c.self.invariant.0.together)) in
    let below : c.loop-index.index < blocks_in c.in-Some.class = subst (λ n. c.loop-index.index < n) c.blocks_per_page-index-end.ensures.blocks c.loop-index-test.true in
    elim c.match-allocated_block.branch [
      | in-Some-allocated_block v ↦ (let b = block_there c.args.self.now w c.args.page c.in-Some.class is c.loop-index.index v.in-Some-allocated_block.block v.in-Some-allocated_block.ensures.address in
          v.copies-is ∙ v.with_block-copies.ensures ∙ step_allocated c.args.self.now w c.args.page c.in-Some.class is c.loop-index.index v.in-Some-allocated_block.block below b)
      | in_default-allocated_block v ↦ v.copies-is ∙ c.loop-index.invariant
          ∙ step_none c.args.self.now w c.args.page c.in-Some.class is c.loop-index.index below (λ h. (let z : false ≡ true = v.in_default-allocated_block.ensures.allocated.1 h in cc))
    ]

pub returns : goal.returns
returns c =
    let is = subst (λ (x : Store). option_map (λ (p : Page). p.class) (page_at x.pages c.args.page) ≡ Some c.in-Some.class) c.self.view_is (sym (c.in-Some.ensures _ c.self.invariant.0.together)) in
    let e : c.loop-index.index ≡ c.blocks_per_page-index-end.result = omega arith in
    c.loop-index.invariant ∙ all_done c.args.self.now (subst IsStore c.self.view_is c.self.invariant.0.whole) c.args.page c.in-Some.class is c.loop-index.index (e ∙ c.blocks_per_page-index-end.ensures.blocks)

pub class-requires : goal.class-requires
class-requires c = below_by _ _ _ c.self.view_is c.args.page c.requires.page
