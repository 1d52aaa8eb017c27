use Rattle.std.proofs.Common.{◌≡◌, ◌∙◌, ℕ, sym, ap, subst, arith, length, map}
use Rattle.std.specs.Prelude.{None, slice_index}
use Rattle.graph_heap.specs.declared.command.Command.TheVariants as commands
use Rattle.bulk.specs.InOrder.{DoesFrontBy}
use Rattle.bulk.specs.Lists.{upto}
use Rattle.bulk.proofs.InOrder.{none_done, told_as}
use Rattle.bulk.proofs.Lists.{put_at}
use Rattle.bulk.proofs.Rows.{goes_on, ends}
use Rattle.bulk.proofs.words.put_each.Goals as goal

pub loop-i-init : goal.loop-i-init
loop-i-init g c = none_done (g.H.Commands.does c.args.mutator) c.args.heap.now

pub loop-i-preserved : goal.loop-i-preserved
loop-i-preserved g c =
    goes_on (g.H.Commands.does c.args.mutator) (put_at c.args.obj c.args.first c.args.words.now) c.args.heap.now c.loop-i.heap c.put.new.self c.loop-i.i
    (commands.Put c.args.obj c.saturating_add.result (slice_index c.args.words.now c.loop-i.i)) c.put.result
    (ap (λ n. commands.Put c.args.obj n (slice_index c.args.words.now c.loop-i.i)) c.saturating_add.ensures) c.put.ensures c.loop-i.invariant (sym c.refusal_in.ensures ∙ c.in_default.is)

pub returns-in-Some : goal.returns-in-Some
returns-in-Some g c =
    told_as _ _ _ _ _ _ c.stopped.ensures
    (ends (g.H.Commands.does c.args.mutator) (put_at c.args.obj c.args.first c.args.words.now) c.args.heap.now c.loop-i.heap c.put.new.self c.loop-i.i
    (commands.Put c.args.obj c.saturating_add.result (slice_index c.args.words.now c.loop-i.i)) c.put.result
    (ap (λ n. commands.Put c.args.obj n (slice_index c.args.words.now c.loop-i.i)) c.saturating_add.ensures) c.put.ensures (length c.args.words.now) c.in-Some.refusal c.loop-i-test.true c.loop-i.invariant (sym c.refusal_in.ensures ∙ c.in-Some.is))

pub returns : goal.returns
returns g c =
    let all : c.loop-i.i ≡ length c.args.words.now = omega arith in
    told_as _ _ _ _ _ _ c.whole.ensures
    (subst (λ (n : ℕ). DoesFrontBy (g.H.Commands.does c.args.mutator) c.args.heap.now (map (put_at c.args.obj c.args.first c.args.words.now) (upto n)) (record { done = n; refused = None }) c.loop-i.heap) all c.loop-i.invariant)
