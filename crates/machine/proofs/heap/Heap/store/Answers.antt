use Rattle.std.proofs.Common.{false, refl}
use Rattle.nodes.specs.HeapFields.{state_of}
use Rattle.machine.proofs.Replying.{admitted_steps, refused_steps}
use Rattle.machine.proofs.heap.Heap.store.Goals as goal

pub commit-requires-clause-planned : goal.commit-requires-clause-planned
commit-requires-clause-planned c g a = (_, c.store.ensures g a)

pub returns-in-Ok : goal.returns-in-Ok
returns-in-Ok c =
    admitted_steps (state_of c.self.inside.fields) c.args.self.now c.self.view_is c.args.mutator _ false refl c.admit.result c.admit.ensures.admitted
    c.in-Ok.field-0 c.in-Ok.is c.store.result c.store.ensures c.commit.result c.commit.new.self c.commit.ensures

pub returns-in-Err : goal.returns-in-Err
returns-in-Err c =
    refused_steps (state_of c.self.inside.fields) c.args.self.now c.self.view_is c.args.mutator _ false refl c.admit.result c.admit.ensures.admitted c.in-Err.refusal c.in-Err.is
