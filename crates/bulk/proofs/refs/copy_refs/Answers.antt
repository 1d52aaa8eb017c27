use Rattle.std.proofs.Common.{◌≡◌, ◌∙◌, ℕ, ◌*◌, sym, ap, subst, arith}
use Rattle.std.specs.Prelude.{None}
use Rattle.graph_heap.specs.declared.command.Command.TheVariants as commands
use Rattle.bulk.specs.InOrder.{DoesFrontBy}
use Rattle.bulk.specs.Lists.{copies}
use Rattle.bulk.proofs.InOrder.{none_done, told_as}
use Rattle.bulk.proofs.Lists.{load_at, store_from}
use Rattle.bulk.proofs.Rows.{first_goes_on, first_ends, second_goes_on, second_ends}
use Rattle.bulk.proofs.refs.copy_refs.Goals as goal

pub loop-i-init : goal.loop-i-init
loop-i-init g c = none_done (g.H.Commands.does c.args.mutator) c.args.heap.now

pub returns-in-Some : goal.returns-in-Some
returns-in-Some g c =
    told_as _ _ _ _ _ _ c.stopped.ensures
    (first_ends (g.H.Commands.does c.args.mutator) (load_at c.args.through c.args.from c.args.from_first) (store_from c.args.through c.args.to c.args.to_first) c.args.heap.now c.loop-i.heap c.load-load.new.self c.loop-i.i
    (commands.Load c.args.through c.args.from c.saturating_add.result) c.load-load.result (ap (λ n. commands.Load c.args.through c.args.from n) c.saturating_add.ensures) c.load-load.ensures c.loop-i.invariant
    c.args.count c.in-Some.refusal c.loop-i-test.true (sym c.refusal_in.ensures ∙ c.in-Some.is))

pub returns-in-Some-refusal_in : goal.returns-in-Some-refusal_in
returns-in-Some-refusal_in g c =
    told_as _ _ _ _ _ _ c.stopped-in-Some-refusal_in.ensures
    (second_ends (g.H.Commands.does c.args.mutator) (load_at c.args.through c.args.from c.args.from_first) (store_from c.args.through c.args.to c.args.to_first) c.args.heap.now c.load-load.new.self c.store-store.new.self c.loop-i.i
    (commands.Store c.args.to c.saturating_add-in-loop-i.result c.args.through) c.store-store.result (ap (λ n. commands.Store c.args.to n c.args.through) c.saturating_add-in-loop-i.ensures) c.store-store.ensures
    (first_goes_on (g.H.Commands.does c.args.mutator) (load_at c.args.through c.args.from c.args.from_first) (store_from c.args.through c.args.to c.args.to_first) c.args.heap.now c.loop-i.heap c.load-load.new.self c.loop-i.i
    (commands.Load c.args.through c.args.from c.saturating_add.result) c.load-load.result (ap (λ n. commands.Load c.args.through c.args.from n) c.saturating_add.ensures) c.load-load.ensures c.loop-i.invariant
    (sym c.refusal_in.ensures ∙ c.in_default.is))
    c.args.count c.in-Some-refusal_in.refusal c.loop-i-test.true (sym c.refusal_in-in-loop-i.ensures ∙ c.in-Some-refusal_in.is))

pub loop-i-preserved : goal.loop-i-preserved
loop-i-preserved g c =
    second_goes_on (g.H.Commands.does c.args.mutator) (load_at c.args.through c.args.from c.args.from_first) (store_from c.args.through c.args.to c.args.to_first) c.args.heap.now c.load-load.new.self c.store-store.new.self c.loop-i.i
    (commands.Store c.args.to c.saturating_add-in-loop-i.result c.args.through) c.store-store.result (ap (λ n. commands.Store c.args.to n c.args.through) c.saturating_add-in-loop-i.ensures) c.store-store.ensures
    (first_goes_on (g.H.Commands.does c.args.mutator) (load_at c.args.through c.args.from c.args.from_first) (store_from c.args.through c.args.to c.args.to_first) c.args.heap.now c.loop-i.heap c.load-load.new.self c.loop-i.i
    (commands.Load c.args.through c.args.from c.saturating_add.result) c.load-load.result (ap (λ n. commands.Load c.args.through c.args.from n) c.saturating_add.ensures) c.load-load.ensures c.loop-i.invariant
    (sym c.refusal_in.ensures ∙ c.in_default.is))
    (sym c.refusal_in-in-loop-i.ensures ∙ c.in_default-refusal_in.is)

pub returns : goal.returns
returns g c =
    let all : c.loop-i.i ≡ c.args.count = omega arith in
    told_as _ _ _ _ _ _ c.whole.ensures
    (subst (λ (n : ℕ). DoesFrontBy (g.H.Commands.does c.args.mutator) c.args.heap.now (copies c.args.through c.args.from c.args.from_first c.args.to c.args.to_first n) (record { done = 2 * n; refused = None }) c.loop-i.heap) all c.loop-i.invariant)
