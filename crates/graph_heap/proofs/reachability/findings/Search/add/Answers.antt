use Rattle.std.proofs.Common.{◌≡◌, ◌+◌, ◌-◌, ◌∷◌, [], length, length-append, set, ap, ◌∙◌, subst, refl, arith}
use Rattle.std.specs.Prelude.{slice_index}
use Rattle.std.proofs.lemmas.List.{get_or_read}
use Rattle.std.specs.Vec.{with_item}
use Rattle.graph_heap.specs.declared.reachability.findings.Search.TheInside.{Inside}
use Rattle.graph_heap.specs.Search.{findings_in, Takes}
use Rattle.graph_heap.proofs.reachability.Places.{kept_indexed, found_before, one_indexed, takes_one}
use Rattle.graph_heap.proofs.reachability.findings.Search.add.Goals as goal

pub returns : goal.returns
returns c =
    let new : Inside = record { found = c.push.new.self; places = with_item c.self.inside.places (c.args.found.id - 1) c.len-end.result } in
    let end : c.len-end.result ≡ length c.self.inside.found.items + 1 = omega (arith, c.len-end.ensures, ap length c.in_ok-push.ensures.items, length-append c.self.inside.found.items (c.args.found ∷ [])) in
    subst (λ s. Takes c.args.found s (findings_in new)) c.self.view_is
    (takes_one c.self.inside new c.args.found (c.args.found.id - 1) c.self.invariant (omega arith) (omega arith) (grind arith) c.in_ok-push.ensures.items (ap (set c.self.inside.places.items (c.args.found.id - 1)) end))

pub invariant_of-self-2 : goal.invariant_of-self-2
invariant_of-self-2 c =
    let end : c.len-end.result ≡ length c.self.inside.found.items + 1 = omega (arith, c.len-end.ensures, ap length c.in_ok-push.ensures.items, length-append c.self.inside.found.items (c.args.found ∷ [])) in
    one_indexed c.self.inside _ c.args.found (c.args.found.id - 1) c.self.invariant (omega arith) (omega arith) (grind arith) c.in_ok-push.ensures.items (ap (set c.self.inside.places.items (c.args.found.id - 1)) end)

pub returns-then-index-ne0 : goal.returns-then-index-ne0
returns-then-index-ne0 c =
    let places = c.self.inside.places.items in
    let p = c.args.found.id - 1 in
    let read : c.index.result.now ≡ slice_index places p = get_or_read places p c.index.result.now (omega arith) c.index.ensures 0 in
    subst (λ s. Takes c.args.found s s) c.self.view_is (found_before c.self.inside c.args.found p c.self.invariant (omega arith) (omega arith) (λ z. c.if-index-ne0.true (read ∙ z)))

pub invariant_of-self : goal.invariant_of-self
invariant_of-self c = kept_indexed c.self.inside (record { found = c.push.new.self; places = c.self.inside.places }) c.in_err-push.ensures.items refl c.self.invariant
