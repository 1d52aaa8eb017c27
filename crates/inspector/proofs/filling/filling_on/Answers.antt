use Rattle.std.proofs.Common.{◌≡◌, ◌≢◌, ap, ◌∙◌, arith}
use Rattle.std.proofs.lemmas.Bool.{eq-eqb, ne_eqb}
use Rattle.heap_model.specs.Pages.{page_at}
use Rattle.nodes.specs.Wasted.{wasted_on}
use Rattle.inspector.specs.Filling.{page_filling}
use Rattle.inspector.proofs.Fillings.{none_filling, other_filling, page_told, nothing_within}
use Rattle.inspector.proofs.filling.filling_on.Goals as goal

pub returns-in_default-clause-filling : goal.returns-in_default-clause-filling
returns-in_default-clause-filling c =
    let s = c.args.heap.now.store in
    c.nothing.ensures ∙ none_filling c.args.class (wasted_on s c.args.number) (page_at s.pages c.args.number) c.in_default.ensures.view

pub returns-in_default-clause-within : goal.returns-in_default-clause-within
returns-in_default-clause-within c = nothing_within c.nothing.result 131072 c.nothing.ensures

pub returns-then-number-clause-filling : goal.returns-then-number-clause-filling
returns-then-number-clause-filling c =
    let s = c.args.heap.now.store in
    let ne : c.in-Some.page.class ≢ c.args.class = omega (arith, c.if-number.true, c.number.ensures.number, c.number-2.ensures.number) in
    c.nothing-then-number.ensures ∙ other_filling c.args.class (wasted_on s c.args.number) (page_at s.pages c.args.number) c.in-Some.page c.in-Some.ensures.view (ne_eqb c.in-Some.page.class c.args.class ne)

pub returns-then-number-clause-within : goal.returns-then-number-clause-within
returns-then-number-clause-within c = nothing_within c.nothing-then-number.result 131072 c.nothing-then-number.ensures

pub returns-clause-filling : goal.returns-clause-filling
returns-clause-filling c =
    let s = c.args.heap.now.store in
    let is : c.in-Some.page.class ≡ c.args.class = omega (arith, c.if-number.false, c.number.ensures.number, c.number-2.ensures.number) in
    c.page_filling.ensures.filling ∙ ap (page_filling c.args.class c.in-Some.page.allocated) c.wasted_inside.ensures.wasted
    ∙ page_told c.args.class (wasted_on s c.args.number) (page_at s.pages c.args.number) c.in-Some.page c.in-Some.ensures.view (eq-eqb c.in-Some.page.class c.args.class is)
