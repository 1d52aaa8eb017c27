use Rattle.std.proofs.Common.{◌<◌, Result, sym, subst}
use Rattle.graph_heap.specs.declared.command.Refusal.{Refusal}
use Rattle.graph_heap.specs.declared.command.Reply.TheVariants as replies
use Rattle.heap_model.specs.State.{HeapState}
use Rattle.machine.specs.declared.plan.Planned.{Planned}
use Rattle.machine.specs.Plan.{CanPerform, CanCommit, CommitsEach}
use Rattle.nodes.specs.HeapFields.{state_of}
use Rattle.machine.proofs.Writing.{written_heap, performs, count_by}
use Rattle.machine.proofs.Replying.{can_write, commits_ok, commits_err}
use Rattle.machine.proofs.heap.Heap.commit.Goals as goal

pub do_write-requires : goal.do_write-requires
do_write-requires c = record {
  heap = c.self.invariant;
  mutator = subst (λ (x : HeapState). c.args.mutator < x.limits.mutators) (sym c.self.view_is) c.requires.mutator;
  write = subst (λ (x : HeapState). CanPerform x c.in-Ok.planned.write) (sym c.self.view_is) (can_write c.args.self.now c.in-Ok.planned (subst (CanCommit c.args.self.now) c.in-Ok.is c.requires.planned));
}

pub invariant_of-self : goal.invariant_of-self
invariant_of-self c =
    written_heap c.self.inside.fields c.do_write.new.heap c.self.invariant c.in-Ok.planned.write
    (subst (λ (x : HeapState). CanPerform x c.in-Ok.planned.write) (sym c.self.view_is) (can_write c.args.self.now c.in-Ok.planned (subst (CanCommit c.args.self.now) c.in-Ok.is c.requires.planned)))
    c.do_write.ensures.does (count_by c.self.inside.fields c.args.mutator c.in-Ok.planned.write c.do_write.new.heap.grey c.do_write.ensures.buffers) c.do_write.ensures.linked

pub returns-in-Ok : goal.returns-in-Ok
returns-in-Ok c =
    subst (λ (x : Result Planned Refusal). CommitsEach c.args.self.now x c.in-Ok.planned.reply (state_of c.do_write.new.heap)) (sym c.in-Ok.is)
    (commits_ok c.args.self.now c.in-Ok.planned (state_of c.do_write.new.heap) (performs _ _ c.self.view_is c.self.invariant.heap c.in-Ok.planned.write (state_of c.do_write.new.heap) c.do_write.ensures.does))

pub returns-in-Err : goal.returns-in-Err
returns-in-Err c = subst (λ (x : Result Planned Refusal). CommitsEach c.args.self.now x (replies.Refused c.in-Err.refusal) c.args.self.now) (sym c.in-Err.is) (commits_err c.args.self.now c.in-Err.refusal)
