use Rattle.graph_heap.specs.Graph.{opening}
use Rattle.graph_heap.proofs.reachability.Entries.{follows_none, follows_more, follows_all}
use Rattle.graph_heap.proofs.reachability.following.present.Goals as goal

pub loop-entry-init : goal.loop-entry-init
loop-entry-init c = follows_none (opening c.args.limits.now) c.in_ok-graph.graph c.args.history.now c.in_ok-graph.ensures

pub loop-entry-preserved : goal.loop-entry-preserved
loop-entry-preserved c =
    follows_more (opening c.args.limits.now) c.args.history.now c.loop-entry.entry-index _ c.loop-entry.graph c.accepts.new.self c.loop-entry-test.true c.loop-entry.invariant
    (λ is. c.in_ok-accepts.ensures.yes (c.in_ok-accepts.ensures.exact.1 is))

pub returns : goal.returns
returns c = follows_all (opening c.args.limits.now) c.loop-entry.graph c.args.history.now c.loop-entry.entry-index c.loop-entry-test.false c.loop-entry.invariant
