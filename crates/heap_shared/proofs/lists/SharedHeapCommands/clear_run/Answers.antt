use Rattle.std.proofs.Common.{◌≡◌, ◌+◌, refl, ap, arith}
use Rattle.graph_heap.specs.declared.command.Command.TheVariants as commands
use Rattle.graph_heap.specs.declared.command.Reply.TheVariants as replies
use Rattle.heap_shared.proofs.Replies.{IsDone, cleared, passes, as_told}
use Rattle.heap_shared.proofs.lists.SharedHeapCommands.clear_run.Goals as goal

pub returns-in-Refused-clause-clears : goal.returns-in-Refused-clause-clears
returns-in-Refused-clause-clears c =
    let at : c.args.first ≡ c.args.first + 0 = omega arith in
    as_told c.args.mutator c.args.self.now c.clear.new.self (commands.Clear c.args.first) (commands.Clear (c.args.first + 0)) c.clear.result (replies.Refused c.in-Refused.why) (ap (λ n. commands.Clear n) at) c.in-Refused.is c.clear.ensures

pub returns-in_default : goal.returns-in_default
returns-in_default c =
    let at : c.args.first ≡ c.args.first + 0 = omega arith in
    let some = c.if-count-eq0.false in
    let small = c.ranges.first in
    let done = passes IsDone c.clear.result (cleared c.args.mutator c.args.self.now c.clear.new.self c.clear.result c.args.first c.clear.ensures.0) c.in_default.not-Refused in record {
      numbers = (omega (arith, some), (λ _. omega arith), omega (arith, small));
      clears = (c.args.self.now, refl, as_told c.args.mutator c.args.self.now c.clear.new.self (commands.Clear c.args.first) (commands.Clear (c.args.first + 0)) c.clear.result replies.Done (ap (λ n. commands.Clear n) at) done c.clear.ensures);
    }
