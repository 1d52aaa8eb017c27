use Rattle.std.proofs.Common.{◌≡◌, ℕ, ◌+◌, List, [], length, ap, ◌∙◌, subst, refl}
use Rattle.std.specs.Prelude.{Some, None}
use Rattle.graph_heap.specs.Search.{Findings, holders, Adds}
use Rattle.graph_heap.proofs.reachability.Breadth.{searched_first, searched_more, found_all}
use Rattle.graph_heap.proofs.reachability.searching.search.Goals as goal

pub loop-found-init : goal.loop-found-init
loop-found-init c =
    let g = c.args.graph.now in
    let first = λ (n : ℕ). (let s : Findings = record { found = []; objects = n } in s) in
    let none : c.in_ok-search.search ≡ first (length g.objects) = c.in_ok-search.ensures ∙ ap first c.count.ensures in
    searched_first g c.add_all.new.self
    (subst (λ s. Adds g.roots 0 (holders None) (length g.roots) s c.add_all.new.self) none
    (subst (λ (r : List ℕ). Adds r 0 (holders None) (length r) c.in_ok-search.search c.add_all.new.self) (c.as_slice.ensures.value ∙ c.in_ok-roots.ensures) c.in_ok-add_all.ensures))

pub loop-found-preserved : goal.loop-found-preserved
loop-found-preserved c =
    let g = c.args.graph.now in
    let f = c.in-Some.found in
    searched_more g c.loop-found.search c.add_all-in-Some.new.self c.loop-found.next f c.loop-found.invariant c.in-Some.ensures.found.0 c.in-Some.ensures.found.1
    (subst (λ (r : List ℕ). Adds r (f.distance + 1) (holders (Some f.id)) (length r) c.loop-found.search c.add_all-in-Some.new.self) c.refs.ensures c.in_ok-add_all-2.ensures)

pub returns : goal.returns
returns c = found_all c.args.graph.now c.loop-found.search c.loop-found.next c.loop-found.invariant (c.in_default.ensures.none refl) c.in_default.ensures.once
