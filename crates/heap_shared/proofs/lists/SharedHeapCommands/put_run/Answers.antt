use Rattle.std.proofs.Common.{rules, ◌≡◌, ◌+◌, ◌<◌, length, refl, ap, arith}
use Rattle.std.specs.Prelude.{slice_index}
use Rattle.graph_heap.specs.declared.command.Command.TheVariants as commands
use Rattle.graph_heap.specs.declared.command.Reply.TheVariants as replies
use Rattle.heap_shared.proofs.Replies.{IsDone, put, passes, as_told}
use Rattle.heap_shared.proofs.lists.SharedHeapCommands.put_run.Goals as goal

pub returns-in-Refused-clause-puts : goal.returns-in-Refused-clause-puts
returns-in-Refused-clause-puts c =
    let at : c.args.first ≡ c.args.first + 0 = omega arith in
    let word = slice_index c.args.words.now 0 in
    as_told c.args.mutator c.args.self.now c.put.new.self (commands.Put c.args.obj c.args.first word) (commands.Put c.args.obj (c.args.first + 0) word) c.put.result (replies.Refused c.in-Refused.why) (ap (λ n. commands.Put c.args.obj n word) at) c.in-Refused.is c.put.ensures

pub returns-in_default : goal.returns-in_default
returns-in_default c =
    let at : c.args.first ≡ c.args.first + 0 = omega arith in
    let word = slice_index c.args.words.now 0 in
    let some : 0 < length c.args.words.now = search rules in
    let small = c.ranges.first in
    let done = passes IsDone c.put.result (put c.args.mutator c.args.self.now c.put.new.self c.put.result c.args.obj c.args.first word c.put.ensures.0) c.in_default.not-Refused in record {
      numbers = (omega (arith, some), (λ _. omega arith), omega (arith, small));
      puts = (c.args.self.now, refl, as_told c.args.mutator c.args.self.now c.put.new.self (commands.Put c.args.obj c.args.first word) (commands.Put c.args.obj (c.args.first + 0) word) c.put.result replies.Done (ap (λ n. commands.Put c.args.obj n word) at) done c.put.ensures);
    }
