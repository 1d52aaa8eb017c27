use Rattle.std.proofs.Common.{◌≡◌, ◌+◌, Some, subst, sym, ap, ◌∙◌, arith, true, false, refl}
use Rattle.heap_model.specs.declared.phase.Moving.TheVariants as moves
use Rattle.heap_model.specs.declared.phase.Phase.TheVariants as phases
use Rattle.heap_model.specs.Action.{Action, goes_to, candidate_after, is_chosen}
use Rattle.heap_model.specs.State.{HeapState}
use Rattle.heap_model.proofs.Grey.Few.{passing}
use Rattle.nodes.proofs.Keeping.{store_still, linked_left, linked_charged}
use Rattle.nodes.specs.declared.heap_fields.HeapFields.{HeapFields}
use Rattle.nodes.specs.HeapFields.{state_of}
use Rattle.nodes.proofs.Representing.{units_small}
use Rattle.defrag.proofs.Looks.{looks, chooses, chooses_none, looked_answer, page_answer, none_answer}
use Rattle.defrag.proofs.choosing.choose_one.Goals as goal
use Rattle.defrag.proofs.choosing.choose_one.Goals.{in_default-via-in-Some+else-is_chosen, in_default-via-in_default}

pub charge-requires : goal.charge-requires
charge-requires c = let u = units_small c.args.heap.now c.requires.heap in omega arith

pub charge-requires-in-Some : goal.charge-requires-in-Some
charge-requires-in-Some c = let u = units_small c.args.heap.now c.requires.heap in omega arith

pub charge-requires-in_default : goal.charge-requires-in_default
charge-requires-in_default c = let u = units_small c.args.heap.now c.requires.heap in omega arith

pub returns-then-page-pages-clause-acts : goal.returns-then-page-pages-clause-acts
returns-then-page-pages-clause-acts c =
    subst (λ (x : HeapFields). Action (state_of c.args.heap.now) 1 (state_of x)) (sym c.charge.ensures)
    (looks c.args.class c.args.page c.args.candidate c.requires.class c.args.heap.now.nodes c.consider-candidate.result
    (subst (λ k. c.consider-candidate.result ≡ candidate_after c.args.heap.now.nodes.pages k c.args.page c.args.candidate) c.new-number.ensures c.consider-candidate.ensures) (state_of c.args.heap.now) c.args.chosen refl c.requires.pass
    (omega (arith, c.pages.ensures.pages, c.if-page-pages.true)))

pub returns-in-Some-clause-acts : goal.returns-in-Some-clause-acts
returns-in-Some-clause-acts c =
    subst (λ (x : HeapFields). Action (state_of c.args.heap.now) 1 (state_of x)) (sym c.charge-in-Some.ensures)
    (subst (λ (h : HeapState). Action (state_of c.args.heap.now) 1 (goes_to h 1 (phases.Moving (moves.Emptying c.args.class c.in-Some.found.page 0 (c.args.chosen + 1))))) (sym (store_still c.args.heap.now c.requires.heap (passing (state_of c.args.heap.now) c.args.class c.args.page c.args.candidate c.args.chosen c.requires.pass) c.leave.new.self))
    (chooses c.args.class c.args.page c.args.candidate c.requires.class c.args.heap.now.nodes c.consider-candidate.result
    (subst (λ k. c.consider-candidate.result ≡ candidate_after c.args.heap.now.nodes.pages k c.args.page c.args.candidate) c.new-number.ensures c.consider-candidate.ensures) (state_of c.args.heap.now) c.args.chosen refl c.requires.pass
    c.in-Some.found c.leave.new.self c.in-Some.is (omega (arith, c.pages.ensures.pages, c.requires.page, c.if-page-pages.false))
    (subst (λ k. is_chosen c.args.heap.now.nodes.pages k (Some c.in-Some.found) ≡ true) c.new-number.ensures (sym c.is_chosen.ensures ∙ c.if-is_chosen.true))
    c.leave.ensures.kept c.leave.ensures.pages))

pub returns-in_default-clause-acts : goal.returns-in_default-clause-acts
returns-in_default-clause-acts c =
    subst (λ (x : HeapFields). Action (state_of c.args.heap.now) 1 (state_of x)) (sym c.charge-in_default.ensures)
    (chooses_none c.args.class c.args.page c.args.candidate c.requires.class c.args.heap.now.nodes c.consider-candidate.result
    (subst (λ k. c.consider-candidate.result ≡ candidate_after c.args.heap.now.nodes.pages k c.args.page c.args.candidate) c.new-number.ensures c.consider-candidate.ensures) (state_of c.args.heap.now) c.args.chosen refl c.requires.pass
    (omega (arith, c.pages.ensures.pages, c.requires.page, c.if-page-pages.false))
    (elim c.in_default.branch [
      | in_default-via-in-Some+else-is_chosen w ↦ ap (is_chosen c.args.heap.now.nodes.pages c.args.class) w.in-Some.is
          ∙ subst (λ k. is_chosen c.args.heap.now.nodes.pages k (Some w.in-Some.found) ≡ false) c.new-number.ensures (sym w.is_chosen.ensures ∙ w.if-is_chosen.false)
      | in_default-via-in_default w ↦ ap (is_chosen c.args.heap.now.nodes.pages c.args.class) w.in_default.is
    ]))

pub returns-then-page-pages-clause-answer : goal.returns-then-page-pages-clause-answer
returns-then-page-pages-clause-answer c = looked_answer c.args.heap.now.nodes.pages c.args.class c.args.page c.args.candidate (omega (arith, c.pages.ensures.pages, c.if-page-pages.true))

pub returns-in-Some-clause-answer : goal.returns-in-Some-clause-answer
returns-in-Some-clause-answer c =
    page_answer c.args.heap.now.nodes.pages c.args.class c.args.page c.args.candidate c.in-Some.found (omega (arith, c.pages.ensures.pages, c.if-page-pages.false))
    (sym (subst (λ k. c.consider-candidate.result ≡ candidate_after c.args.heap.now.nodes.pages k c.args.page c.args.candidate) c.new-number.ensures c.consider-candidate.ensures) ∙ c.in-Some.is)
    (subst (λ k. is_chosen c.args.heap.now.nodes.pages k (Some c.in-Some.found) ≡ true) c.new-number.ensures (sym c.is_chosen.ensures ∙ c.if-is_chosen.true))

pub returns-in_default-clause-answer : goal.returns-in_default-clause-answer
returns-in_default-clause-answer c =
    none_answer c.args.heap.now.nodes.pages c.args.class c.args.page c.args.candidate c.consider-candidate.result (omega (arith, c.pages.ensures.pages, c.if-page-pages.false))
    (sym (subst (λ k. c.consider-candidate.result ≡ candidate_after c.args.heap.now.nodes.pages k c.args.page c.args.candidate) c.new-number.ensures c.consider-candidate.ensures))
    (elim c.in_default.branch [
      | in_default-via-in-Some+else-is_chosen w ↦ ap (is_chosen c.args.heap.now.nodes.pages c.args.class) w.in-Some.is
          ∙ subst (λ k. is_chosen c.args.heap.now.nodes.pages k (Some w.in-Some.found) ≡ false) c.new-number.ensures (sym w.is_chosen.ensures ∙ w.if-is_chosen.false)
      | in_default-via-in_default w ↦ ap (is_chosen c.args.heap.now.nodes.pages c.args.class) w.in_default.is
    ])

pub returns-then-page-pages-clause-linked : goal.returns-then-page-pages-clause-linked
returns-then-page-pages-clause-linked c = linked_charged c.args.heap.now c.charge.new.self _ _ c.charge.ensures c.requires.heap.linked

pub returns-in-Some-clause-linked : goal.returns-in-Some-clause-linked
returns-in-Some-clause-linked c =
    let a = c.args.heap.now in
    linked_charged (record a { nodes = c.leave.new.self }) c.charge-in-Some.new.self _ _ c.charge-in-Some.ensures
    (linked_left a c.requires.heap (passing (state_of a) c.args.class c.args.page c.args.candidate c.args.chosen c.requires.pass) c.leave.new.self c.leave.ensures.links)

pub returns-in_default-clause-linked : goal.returns-in_default-clause-linked
returns-in_default-clause-linked c = linked_charged c.args.heap.now c.charge-in_default.new.self _ _ c.charge-in_default.ensures c.requires.heap.linked
