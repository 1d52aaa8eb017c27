use Rattle.graph_heap.proofs.reachability.Places.{none_indexed}
use Rattle.graph_heap.proofs.reachability.findings.Search.none.Goals as goal

pub invariant_of-result : goal.invariant_of-result
invariant_of-result c = none_indexed (record { found = c.new.result; places = c.in_ok-vec.field-0 }) c.args.objects c.new.ensures.items (c.in_ok-vec.ensures.items_if_clones_equal (λ y e. e))
