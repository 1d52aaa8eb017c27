use Rattle.std.proofs.Common.{◌≡◌, ◌+◌, ap, refl, subst, arith}
use Rattle.std.specs.Prelude.{None}
use Rattle.graph_heap.specs.declared.command.Command.TheVariants as commands
use Rattle.graph_heap.specs.declared.command.Reply.TheVariants as replies
use Rattle.bulk.specs.InOrder.{DoesFrontBy}
use Rattle.bulk.specs.Lists.{clears}
use Rattle.bulk.proofs.InOrder.{told_as}
use Rattle.bulk.proofs.Lists.{clear_at}
use Rattle.bulk.proofs.Rows.{ends}
use Rattle.bulk.proofs.Runs.{number_in, number_first, does_on}
use Rattle.bulk.proofs.slots.clear_rest.Goals as goal

pub loop-done-init : goal.loop-done-init
loop-done-init g c = (c.requires, λ h w. w)

pub loop-done-preserved : goal.loop-done-preserved
loop-done-preserved g c =
    let i = c.loop-done.done in let fits = c.in-Ok.ensures.numbers in (
      omega (arith, fits),
      λ h w.
          does_on (g.H.Commands.does c.args.mutator) (clear_at c.args.first) h c.loop-done.heap i (λ k. commands.Clear (c.saturating_add.result + k)) c.in-Ok.more c.clear_run.new.self
          (λ k b. ap (λ z. commands.Clear z) (number_in c.args.first i c.in-Ok.more k c.saturating_add.result c.saturating_add.ensures fits.2 b)) (c.loop-done.invariant.1 h w) c.in-Ok.ensures.clears,
    )

pub returns-in-Err : goal.returns-in-Err
returns-in-Err g c h w =
    let i = c.loop-done.done in
    told_as _ _ _ _ _ _ c.stopped.ensures
    (ends (g.H.Commands.does c.args.mutator) (clear_at c.args.first) h c.loop-done.heap c.clear_run.new.self i (commands.Clear (c.saturating_add.result + 0)) (replies.Refused c.in-Err.refusal)
    (ap (λ z. commands.Clear z) (number_first c.args.first i c.saturating_add.result c.saturating_add.ensures)) c.in-Err.ensures.clears c.args.count c.in-Err.refusal (omega arith) (c.loop-done.invariant.1 h w) refl)

pub returns : goal.returns
returns g c h w =
    let least = c.loop-done.invariant.0 in
    let all : c.loop-done.done ≡ c.args.count = omega (arith, least) in
    told_as _ _ _ _ _ _ c.whole.ensures
    (subst (λ n. DoesFrontBy (g.H.Commands.does c.args.mutator) h (clears c.args.first n) (record { done = n; refused = None }) c.loop-done.heap) all (c.loop-done.invariant.1 h w))
