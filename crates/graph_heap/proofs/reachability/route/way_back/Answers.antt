use Rattle.std.proofs.Common.{List, sym, refl, subst}
use Rattle.graph_heap.specs.declared.reachability.found.Holder.TheVariants.{Cell}
use Rattle.graph_heap.specs.declared.reachability.route.Step.{Step}
use Rattle.graph_heap.specs.Route.{IsLinked}
use Rattle.graph_heap.proofs.reachability.Routes.{IsBack, not_back, link_of, nearer, one_back, whole_way}
use Rattle.graph_heap.proofs.reachability.route.way_back.Goals as goal

pub loop-found-init : goal.loop-found-init
loop-found-init c =
    let found = c.args.search.now.found in
    subst (λ (steps : List Step). IsBack found c.args.target steps c.args.target) (sym c.new-steps.ensures.items) (not_back found c.args.target c.requires.found)

pub returns-in-Root : goal.returns-in-Root
returns-in-Root c =
    whole_way c.args.search.now.found c.args.target c.loop-found.steps.items c.loop-found.found c.loop-found.invariant c.in-Root.root c.in-Root.is c.requires.linked c.requires.found
    (record { root = c.in-Root.root; steps = c.reverse.new.self }) refl c.reverse.ensures.items

pub one-found-requires : goal.one-found-requires
one-found-requires c =
    let found = c.args.search.now.found in
    let last = c.loop-found.found in
    let l : IsLinked found last (Cell c.in-Cell.object c.in-Cell.cell) = subst (IsLinked found last) c.in-Cell.is (link_of found c.args.target c.loop-found.steps.items last c.loop-found.invariant c.requires.linked) in
    (l.0, l.1)

pub loop-found-smaller : goal.loop-found-smaller
loop-found-smaller c =
    nearer c.args.search.now.found c.args.target c.loop-found.steps.items c.loop-found.found c.loop-found.invariant c.in-Cell.object c.in-Cell.cell c.in-Cell.is c.one-found.result c.requires.linked c.one-found.ensures

pub loop-found-preserved : goal.loop-found-preserved
loop-found-preserved c =
    one_back c.args.search.now.found c.args.target c.loop-found.steps.items c.loop-found.found c.loop-found.invariant c.in-Cell.object c.in-Cell.cell c.in-Cell.is c.one-found.result c.requires.linked c.one-found.ensures
    c.push.new.self.items c.in_ok-push-in-Cell.ensures.items
