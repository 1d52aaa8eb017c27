use Rattle.std.proofs.Common.{◌≡◌, ◌∙◌, ℕ, sym, refl, subst, arith, length, map}
use Rattle.std.specs.Prelude.{None, slice_index}
use Rattle.graph_heap.specs.declared.command.Command.TheVariants as commands
use Rattle.bulk.specs.InOrder.{DoesFrontBy}
use Rattle.bulk.specs.Lists.{upto}
use Rattle.bulk.proofs.InOrder.{none_done, told_as}
use Rattle.bulk.proofs.Lists.{store_at}
use Rattle.bulk.proofs.Rows.{goes_on, ends}
use Rattle.bulk.proofs.refs.store_slots.Goals as goal

pub loop-i-init : goal.loop-i-init
loop-i-init g c = none_done (g.H.Commands.does c.args.mutator) c.args.heap.now

pub loop-i-preserved : goal.loop-i-preserved
loop-i-preserved g c =
    goes_on (g.H.Commands.does c.args.mutator) (store_at c.args.obj c.args.slots.now) c.args.heap.now c.loop-i.heap c.store.new.self c.loop-i.i
    (commands.Store c.args.obj c.loop-i.i (slice_index c.args.slots.now c.loop-i.i)) c.store.result refl c.store.ensures c.loop-i.invariant (sym c.refusal_in.ensures ∙ c.in_default.is)

pub returns-in-Some : goal.returns-in-Some
returns-in-Some g c =
    told_as _ _ _ _ _ _ c.stopped.ensures
    (ends (g.H.Commands.does c.args.mutator) (store_at c.args.obj c.args.slots.now) c.args.heap.now c.loop-i.heap c.store.new.self c.loop-i.i
    (commands.Store c.args.obj c.loop-i.i (slice_index c.args.slots.now c.loop-i.i)) c.store.result refl c.store.ensures (length c.args.slots.now) c.in-Some.refusal c.loop-i-test.true c.loop-i.invariant (sym c.refusal_in.ensures ∙ c.in-Some.is))

pub returns : goal.returns
returns g c =
    let all : c.loop-i.i ≡ length c.args.slots.now = omega arith in
    told_as _ _ _ _ _ _ c.whole.ensures
    (subst (λ (n : ℕ). DoesFrontBy (g.H.Commands.does c.args.mutator) c.args.heap.now (map (store_at c.args.obj c.args.slots.now) (upto n)) (record { done = n; refused = None }) c.loop-i.heap) all c.loop-i.invariant)
