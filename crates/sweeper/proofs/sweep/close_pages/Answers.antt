use Rattle.std.proofs.Common.{◌≡◌, ◌-◌, ◌*◌, ◌∙◌, ap, sym, subst, arith}
use Rattle.heap_model.specs.Action.{Chain, goes_to}
use Rattle.heap_model.specs.declared.cost.TheConstants.{CLOSE}
use Rattle.heap_model.specs.declared.phase.Phase.TheVariants as phases
use Rattle.nodes.proofs.Keeping.{linked_charged}
use Rattle.nodes.specs.declared.heap_fields.HeapFields.{HeapFields}
use Rattle.nodes.specs.HeapFields.{state_of}
use Rattle.nodes.proofs.Representing.{units_small}
use Rattle.sweeper.proofs.Acting.{Closes, closes, closes_run}
use Rattle.sweeper.proofs.sweep.close_pages.Goals.{After-sweep_one}
use Rattle.sweeper.proofs.sweep.close_pages.Goals as goal

-- the page is closed
closed : (c : After-sweep_one) → Closes c.args.heap.now c.sweep_one.new.heap c.args.page
closed c = closes c.args.heap.now c.sweep_one.new.heap c.args.page c.args.block c.sweep_one.result c.sweep_one.ensures.answer c.requires.page c.requires.looked c.sweep_one.ensures.acts c.sweep_one.ensures.same

pub free_until-next-requires-clause-from : goal.free_until-next-requires-clause-from
free_until-next-requires-clause-from c =
    let d = closed (goal.at.free_until-next-requires-clause-from c).After-sweep_one in omega (arith, d.pages, c.pages.ensures.pages, c.requires.page, c.requires.room, c.min-end.ensures)

pub charge-requires : goal.charge-requires
charge-requires c =
    let d = closed (goal.at.charge-requires c).After-sweep_one in let u = units_small c.args.heap.now c.requires.heap in let low = c.free_until-next.ensures.within in
    omega (arith, u, d.units, d.pages, low.1, c.pages.ensures.pages, c.pages.ensures.within, c.min-end.ensures)

pub returns-clause-acts : goal.returns-clause-acts
returns-clause-acts c =
    let d = closed (goal.at.returns-clause-acts c).After-sweep_one in
    let a = c.args.heap.now in let h = state_of a in let k = state_of c.sweep_one.new.heap in let page = c.args.page in let next = c.free_until-next.result in
    let some = c.free_until-next.ensures.within.0 in let low = c.free_until-next.ensures.within.1 in (
      next - page,
      subst (λ (x : HeapFields). Chain h (next - page) (state_of x)) (sym c.charge.ensures)
          (subst (λ n. Chain h (next - page) (goes_to k n (phases.Sweeping next 0))) (let e : next - page - 1 ≡ (next - page - 1) * CLOSE = omega arith in e)
          (closes_run h k page next some d.first d.phase (omega (arith, low, c.pages.ensures.pages)) c.free_until-next.ensures.free)),
      omega (arith, some),
      omega (arith, low, c.min-end.ensures),
    )

pub returns-clause-grey : goal.returns-clause-grey
returns-clause-grey c =
    let d = closed (goal.at.returns-clause-grey c).After-sweep_one in ap (λ (x : HeapFields). x.grey) c.charge.ensures ∙ d.grey

pub returns-clause-linked : goal.returns-clause-linked
returns-clause-linked c = linked_charged c.sweep_one.new.heap c.charge.new.self _ _ c.charge.ensures c.sweep_one.ensures.linked
