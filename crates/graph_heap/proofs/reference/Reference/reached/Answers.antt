use Rattle.std.proofs.Common.{map, take_all, ap, ◌∙◌, sym, subst}
use Rattle.graph_heap.specs.declared.reachability.found.Found.{Found}
use Rattle.graph_heap.specs.Reaching.{AreReached}
use Rattle.graph_heap.specs.Distance.{FindsAll}
use Rattle.graph_heap.proofs.Reaching.{are_reached}
use Rattle.graph_heap.proofs.reference.Reference.reached.Goals as goal

pub returns : goal.returns
returns c =
    let g = c.args.self.now in
    let found = c.found-found-items.result.now in
    let all : FindsAll g found = subst (FindsAll g) (sym c.found-found-items.ensures) c.in_ok-search.ensures in
    subst (AreReached g) (sym (c.loop-found.invariant ∙ ap (map (λ (f : Found). f.id)) (take_all c.loop-found.found-index found c.loop-found-test.false))) (are_reached g found all)
