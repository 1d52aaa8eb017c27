use Rattle.std.proofs.Common.{◌≡◌, ◌+◌, ◌∷◌, [], ◌++◌, List, length, ap, ◌∙◌, sym, subst, arith}
use Rattle.graph_heap.specs.Graph.{Object, new_object}
use Rattle.graph_heap.proofs.Numbered.{AreFrom, seen, insert_next, numbered_next, add_entry}
use Rattle.graph_heap.proofs.reference.objects.Objects.add.Goals as goal

pub invariant_of-self-2 : goal.invariant_of-self-2
invariant_of-self-2 c =
    let es = c.self.inside.by_identity.entries in
    let q = c.len.result + 1 in
    let next : q ≡ 1 + length es = omega (arith, c.len.ensures.len) in
    subst (AreFrom 1) (sym (c.in_ok-insert.ensures.entries ∙ insert_next 1 q es c.in_ok-object.object c.self.invariant next)) (numbered_next 1 q es c.in_ok-object.object c.self.invariant next)

pub returns-clause-ok : goal.returns-clause-ok
returns-clause-ok c =
    let es = c.self.inside.by_identity.entries in
    let q = c.len.result + 1 in
    let next : q ≡ 1 + length es = omega (arith, c.len.ensures.len) in
    ap seen c.in_ok-insert.ensures.entries ∙ add_entry es c.self.invariant q c.in_ok-object.object next
    ∙ ap (λ o. seen es ++ o ∷ []) c.in_ok-object.ensures ∙ ap (λ (xs : List Object). xs ++ new_object c.args.shape ∷ []) c.self.view_is
