use Rattle.std.proofs.Common.{◌≡◌, ◌+◌, ap, refl, sym, subst, arith}
use Rattle.std.specs.Prelude.{None}
use Rattle.graph_heap.specs.declared.command.Command.TheVariants as commands
use Rattle.graph_heap.specs.declared.command.Reply.TheVariants as replies
use Rattle.bulk.specs.InOrder.{DoesFrontBy}
use Rattle.bulk.specs.Lists.{clears, number_after}
use Rattle.bulk.proofs.InOrder.{none_done, told_as}
use Rattle.bulk.proofs.Lists.{clear_at}
use Rattle.bulk.proofs.Rows.{ends}
use Rattle.bulk.proofs.Runs.{first_clears}
use Rattle.bulk.proofs.slots.clear_slots.Goals as goal

pub returns-then-count-eq0 : goal.returns-then-count-eq0
returns-then-count-eq0 g c =
    told_as _ _ _ _ _ _ c.whole.ensures
    (subst (λ n. DoesFrontBy (g.H.Commands.does c.args.mutator) c.args.heap.now (clears c.args.first n) (record { done = 0; refused = None }) c.args.heap.now) (sym c.if-count-eq0.true) (none_done (g.H.Commands.does c.args.mutator) c.args.heap.now))

pub returns-then-done-count : goal.returns-then-done-count
returns-then-done-count g c =
    told_as _ _ _ _ _ _ c.whole-then-done-count.ensures
    (subst (λ n. DoesFrontBy (g.H.Commands.does c.args.mutator) c.args.heap.now (clears c.args.first n) (record { done = n; refused = None }) c.clear_run.new.self) c.if-done-count.true
    (first_clears (g.H.Commands.does c.args.mutator) c.args.heap.now c.clear_run.new.self c.args.first c.in-Ok.done c.in-Ok.ensures.numbers.2 c.in-Ok.ensures.clears))

pub returns-else-done-count : goal.returns-else-done-count
returns-else-done-count g c =
    c.clear_rest.ensures c.args.heap.now
    (first_clears (g.H.Commands.does c.args.mutator) c.args.heap.now c.clear_run.new.self c.args.first c.in-Ok.done c.in-Ok.ensures.numbers.2 c.in-Ok.ensures.clears)

pub returns-in-Err : goal.returns-in-Err
returns-in-Err g c =
    let small = c.ranges.first in
    let number : c.args.first + 0 ≡ number_after c.args.first 0 = omega (arith, small) in
    told_as _ _ _ _ _ _ c.stopped.ensures
    (ends (g.H.Commands.does c.args.mutator) (clear_at c.args.first) c.args.heap.now c.args.heap.now c.clear_run.new.self 0 (commands.Clear (c.args.first + 0)) (replies.Refused c.in-Err.refusal)
    (ap (λ z. commands.Clear z) number) c.in-Err.ensures.clears c.args.count c.in-Err.refusal (omega arith) (none_done (g.H.Commands.does c.args.mutator) c.args.heap.now) refl)
