use Rattle.std.proofs.Common.{◌≡◌, ◌+◌, ◌-◌, ◌*◌, ◌<◌, ◌≤◌, ◌∙◌, ap, subst, sym, arith}
use Rattle.heap_model.specs.declared.cost.TheConstants.{LOOK}
use Rattle.heap_model.specs.declared.phase.Phase.TheVariants as phases
use Rattle.heap_model.specs.declared.phase.Moving.TheVariants as moves
use Rattle.heap_model.specs.Action.{Action, Chain, goes_to, In_pass, No_class, Ends_moving}
use Rattle.heap_model.specs.Spent.{IsWithin}
use Rattle.nodes.specs.declared.heap_fields.HeapFields.{HeapFields}
use Rattle.nodes.specs.HeapFields.{state_of}
use Rattle.nodes.proofs.Chains.{runs_once}
use Rattle.nodes.proofs.Keeping.{linked_charged}
use Rattle.nodes.proofs.Representing.{units_small}
use Rattle.defrag.specs.Candidates.{candidate_after_pages}
use Rattle.defrag.proofs.Looks.{looks_run}
use Rattle.defrag.proofs.choosing.pass_next.Goals as goal

pub choose_one-requires-clause-pass : goal.choose_one-requires-clause-pass
choose_one-requires-clause-pass c = In_pass c.args.class c.args.page c.args.candidate c.args.chosen c.requires.phase

pub choose_one-requires-clause-chosen : goal.choose_one-requires-clause-chosen
choose_one-requires-clause-chosen c = (subst (IsWithin (state_of c.args.heap.now)) c.requires.phase c.requires.heap.heap.represents.within).3

pub charge-requires : goal.charge-requires
charge-requires c = let u = units_small c.args.heap.now c.requires.heap in omega arith

pub charge-requires-2 : goal.charge-requires-2
charge-requires-2 c = let u = units_small c.args.heap.now c.requires.heap in omega arith

pub returns-then-class-clause-acts : goal.returns-then-class-clause-acts
returns-then-class-clause-acts c =
    let a = c.args.heap.now in
    let most = (subst (IsWithin (state_of a)) c.requires.phase c.requires.heap.heap.represents.within).1 in
    runs_once a c.charge.new.self c.args.room 1 c.requires.heap
    (subst (λ (x : HeapFields). Action (state_of a) 1 (state_of x)) (sym c.charge.ensures)
    (Ends_moving (No_class c.args.page c.args.candidate c.args.chosen (subst (λ z. a.phase ≡ phases.Moving (moves.Pass z c.args.page c.args.candidate c.args.chosen)) (omega (arith, c.if-class.true, most)) c.requires.phase))))
    c.requires.room

pub returns-then-left-eq0-clause-acts : goal.returns-then-left-eq0-clause-acts
returns-then-left-eq0-clause-acts c = runs_once c.args.heap.now c.choose_one.new.heap c.args.room 1 c.requires.heap c.choose_one.ensures.acts c.requires.room

pub returns-clause-acts : goal.returns-clause-acts
returns-clause-acts c =
    let a = c.args.heap.now in let h = state_of a in let n = c.min-count.result in let page = c.args.page in let best = c.args.candidate in
    let low = c.if-class.false in let left = c.if-left-eq0.false in let pages = c.pages.ensures.pages in let room = c.requires.room in
    let few : n ≤ c.saturating_sub-left.result = omega (arith, c.min-count.ensures) in
    let some : 0 < n = omega (arith, c.min-count.ensures, left, room) in
    let found : candidate_after_pages a.nodes.pages c.args.class page best n ≡ c.look_on.result =
    sym (c.look_on.ensures ∙ ap (λ k. candidate_after_pages a.nodes.pages k page best (page + n - page)) c.new.ensures ∙ ap (candidate_after_pages a.nodes.pages c.args.class page best) (let e : page + n - page ≡ n = omega arith in e)) in (
      n,
      subst (λ (x : HeapFields). Chain h n (state_of x)) (sym c.charge-2.ensures)
          (subst (λ m. Chain h n (goes_to h m (phases.Moving (moves.Pass c.args.class (page + n) c.look_on.result c.args.chosen)))) (let e : n ≡ n * LOOK = omega arith in e)
          (subst (λ b. Chain h n (goes_to h n (phases.Moving (moves.Pass c.args.class (page + n) b c.args.chosen)))) found
          (looks_run h c.args.class page best c.args.chosen n c.requires.phase (omega (arith, low)) (omega (arith, few, left, pages, c.saturating_sub-left.ensures))))),
      some,
      omega (arith, c.min-count.ensures),
    )

pub returns-then-class-clause-linked : goal.returns-then-class-clause-linked
returns-then-class-clause-linked c = linked_charged c.args.heap.now c.charge.new.self _ _ c.charge.ensures c.requires.heap.linked

pub returns-clause-linked : goal.returns-clause-linked
returns-clause-linked c = linked_charged c.args.heap.now c.charge-2.new.self _ _ c.charge-2.ensures c.requires.heap.linked
