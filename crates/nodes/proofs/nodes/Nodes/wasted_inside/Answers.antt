use Rattle.std.proofs.Common.{◌≡◌, true, false, arith, refl}
use Rattle.heap_model.specs.Pages.{page_at}
use Rattle.nodes.proofs.Wasting.{told_within, none_told, none_wasted, allocated_wasted, free_wasted, more_wasted, all_wasted}
use Rattle.nodes.proofs.nodes.Nodes.wasted_inside.Goals as goal
use Rattle.nodes.proofs.nodes.Nodes.wasted_inside.Goals.{in-Some-allocated_block, in_default-allocated_block}

pub returns-in_default-clause-wasted : goal.returns-in_default-clause-wasted
returns-in_default-clause-wasted c = none_told c.args.self.now c.args.page (page_at c.args.self.now.pages c.args.page) c.in_default.ensures.view

pub allocated_block-requires : goal.allocated_block-requires
allocated_block-requires c = told_within c.args.self.now.pages c.args.page c.in-Some.view c.in-Some.ensures.view

pub loop-index-init : goal.loop-index-init
loop-index-init c = record { wasted = none_wasted c.args.self.now c.args.page (page_at c.args.self.now.pages c.args.page); within = omega arith }

pub loop-index-preserved : goal.loop-index-preserved
loop-index-preserved c =
    let o = page_at c.args.self.now.pages c.args.page in
    let i = c.loop-index.index in
    elim c.match-allocated_block.branch [
      | in-Some-allocated_block v ↦ record {
        wasted = more_wasted c.args.self.now c.args.page i c.loop-index.wasted _ v.wasted_in-wasted.result o c.loop-index.invariant.wasted v.wasted-is
            (allocated_wasted c.args.self.now c.args.page i v.in-Some-allocated_block.block c.size-size.result v.wasted_in-wasted.result o c.in-Some.view c.in-Some.ensures.view c.size-size.ensures.size
            (v.in-Some-allocated_block.ensures.allocated.0 refl) v.in-Some-allocated_block.ensures.address v.wasted_in-wasted.ensures.wasted);
        within = omega (arith, v.wasted-is, v.wasted_in-wasted.ensures.within, c.size-size.ensures.within, c.loop-index.invariant.within);
      }
      | in_default-allocated_block v ↦ record {
        wasted = more_wasted c.args.self.now c.args.page i c.loop-index.wasted _ 0 o c.loop-index.invariant.wasted (omega (arith, v.wasted-is))
            (free_wasted c.args.self.now c.args.page i o (λ h. (let z : false ≡ true = v.in_default-allocated_block.ensures.allocated.1 h in cc)));
        within = omega (arith, v.wasted-is, c.loop-index.invariant.within);
      }
    ]

pub overflow_add-wasted : goal.overflow_add-wasted
overflow_add-wasted c = omega (arith, c.wasted_in-wasted.ensures.within, c.size-size.ensures.within, c.loop-index.invariant.within, c.loop-index-test.true, c.blocks_per_page-index-end.ensures.within)

pub returns-clause-wasted : goal.returns-clause-wasted
returns-clause-wasted c =
    let e : c.loop-index.index ≡ c.blocks_per_page-index-end.result = omega arith in
    all_wasted c.args.self.now c.args.page c.loop-index.index c.loop-index.wasted (page_at c.args.self.now.pages c.args.page) c.in-Some.view c.in-Some.ensures.view (omega (arith, e, c.blocks_per_page-index-end.ensures)) c.loop-index.invariant.wasted
