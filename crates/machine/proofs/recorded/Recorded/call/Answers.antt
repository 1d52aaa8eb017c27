use Rattle.std.proofs.Common.{◌∷◌, ◌++◌, [], ◌∙◌, ap, subst, List}
use Rattle.graph_heap.specs.declared.command.Entry.{Entry}
use Rattle.heap_model.specs.Event.{Command_done, Enters, present_of, snapshot_of}
use Rattle.heap_model.proofs.Agreements.Implied.{consistent_agrees}
use Rattle.heap_model.proofs.Event.Kept.{does_course}
use Rattle.machine.specs.Recorded.{RecordedHeap, recorded_of}
use Rattle.machine.proofs.Replying.{enters}
use Rattle.machine.proofs.recorded.Recorded.call.Goals as goal

pub invariant_of-self-2 : goal.invariant_of-self-2
invariant_of-self-2 c =
    let r = (recorded_of c.self.inside).course in let m = c.args.mutator in let reply = c.step-reply.result in
    let entry : Entry = record { mutator = m; command = c.args.command; reply = reply } in
    let a = consistent_agrees r.heap (present_of r) (snapshot_of r) c.self.invariant.represents.consistent in
    let e = c.push_reserved.ensures.items ∙ ap (λ (xs : List Entry). xs ++ entry ∷ []) c.reserve.ensures.items in
    does_course r (Command_done m c.args.command reply) (record r { heap = c.step-reply.new.self; history = c.push_reserved.new.self.items }) c.self.invariant
    (enters r m c.args.command reply c.step-reply.new.self c.push_reserved.new.self.items c.step-reply.ensures.reply c.step-reply.ensures.does a e)

pub returns-clause-does : goal.returns-clause-does
returns-clause-does c =
    let r = (recorded_of c.self.inside).course in let m = c.args.mutator in let reply = c.step-reply.result in
    let entry : Entry = record { mutator = m; command = c.args.command; reply = reply } in
    let a = consistent_agrees r.heap (present_of r) (snapshot_of r) c.self.invariant.represents.consistent in
    let e = c.push_reserved.ensures.items ∙ ap (λ (xs : List Entry). xs ++ entry ∷ []) c.reserve.ensures.items in
    subst (λ (x : RecordedHeap). Enters x.course m c.args.command reply (record r { heap = c.step-reply.new.self; history = c.push_reserved.new.self.items })) c.self.view_is
    (enters r m c.args.command reply c.step-reply.new.self c.push_reserved.new.self.items c.step-reply.ensures.reply c.step-reply.ensures.does a e)
