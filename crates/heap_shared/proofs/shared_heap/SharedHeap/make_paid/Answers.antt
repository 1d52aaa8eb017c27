use Rattle.std.proofs.Common.{rules, ◌≡◌, Some, subst}
use Rattle.std.specs.Prelude.{Option}
use Rattle.graph_heap.specs.declared.command.Command.TheVariants as commands
use Rattle.paced.specs.Pacing.{PacerView}
use Rattle.heap_shared.proofs.Paid.{ringed, made_led, made}
use Rattle.heap_shared.proofs.shared_heap.SharedHeap.make_paid.Goals as goal

pub invariant_of-self-2 : goal.invariant_of-self-2
invariant_of-self-2 c =
    let a = c.self.inside in
    let ok = c.in_ok-pay_for.ensures in
    made_led a.heap c.pay_for.new.heap c.make-reply.new.self a.cycles c.pay_for.new.cycles c.in-Some.pacer c.pay_for.new.self c.args.mutator (commands.New c.args.dst c.args.shape) c.make-reply.result ok.0 ok.1 c.make-reply.ensures
    a.log c.pay_for.new.log c.enter_command.new.self c.self.invariant ok.2 c.enter_command.ensures

pub returns : goal.returns
returns c =
    let a = c.self.inside in
    let ok = c.in_ok-pay_for.ensures in
    let is : a.pacer ≡ Some c.in-Some.pacer = search rules in
    let shows = subst (λ (p : Option PacerView). ringed a.heap a.log a.cycles p ≡ c.args.self.now) is c.self.view_is in
    made a.heap c.pay_for.new.heap c.make-reply.new.self a.cycles c.pay_for.new.cycles c.in-Some.pacer c.pay_for.new.self c.args.mutator (commands.New c.args.dst c.args.shape) c.make-reply.result ok.0 ok.1 c.make-reply.ensures
    a.log c.pay_for.new.log c.enter_command.new.self c.self.invariant ok.2 c.enter_command.ensures c.args.self.now shows
