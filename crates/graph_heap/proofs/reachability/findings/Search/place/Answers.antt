use Rattle.std.proofs.Common.{◌≡◌, ◌+◌, ◌-◌, ◌∙◌, subst, arith}
use Rattle.std.specs.Prelude.{slice_index}
use Rattle.std.proofs.lemmas.List.{get_or_read}
use Rattle.graph_heap.specs.Search.{Findings, IsAt}
use Rattle.graph_heap.proofs.reachability.findings.Search.place.Goals as goal

pub returns-clause-some : goal.returns-clause-some
returns-clause-some c =
    let places = c.self.inside.places.items in
    let p = c.args.id - 1 in
    let read : c.index-place.result.now ≡ slice_index places p = get_or_read places p c.index-place.result.now (omega arith) c.index-place.ensures 0 in
    let t = c.self.invariant.here p (c.index-place.result.now - 1) (omega arith) (omega (arith, read)) in
    subst (λ (s : Findings). IsAt s.found c.args.id (c.index-place.result.now - 1)) c.self.view_is (t.0, t.1 ∙ (let e : p + 1 ≡ c.args.id = omega arith in e))
