use Rattle.std.proofs.Common.{◌∙◌}
use Rattle.nodes.specs.HeapFields.{state_of}
use Rattle.machine.proofs.Replying.{admitted_reply, refused_steps}
use Rattle.machine.proofs.heap.Heap.answer.Goals as goal

pub returns-in-Ok : goal.returns-in-Ok
returns-in-Ok c g a =
    c.reply_to.ensures
    ∙ admitted_reply (state_of c.self.inside.fields) c.args.self.now c.self.view_is c.args.mutator c.args.command.now c.is_join.result c.is_join.ensures c.admit.result c.admit.ensures.admitted
    c.in-Ok.field-0 c.in-Ok.is c.plan.result c.plan.ensures g a

pub returns-in-Err : goal.returns-in-Err
returns-in-Err c =
    (refused_steps (state_of c.self.inside.fields) c.args.self.now c.self.view_is c.args.mutator c.args.command.now c.is_join.result c.is_join.ensures c.admit.result c.admit.ensures.admitted c.in-Err.refusal c.in-Err.is).reply
