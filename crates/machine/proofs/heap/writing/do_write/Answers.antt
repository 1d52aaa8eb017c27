use Rattle.std.proofs.Common.{length, refl, sym, subst, ap}
use Rattle.graph_heap.specs.declared.command.Change.{Change}
use Rattle.heap_model.specs.Change.{DoesChange, Does_nothing}
use Rattle.machine.specs.Plan.{CanPerform, DoesEach}
use Rattle.machine.specs.Writing.{CanWrite, IsWritten}
use Rattle.machine.specs.declared.plan.Write.{Write}
use Rattle.machine.specs.declared.plan.Write.TheVariants as writes
use Rattle.nodes.specs.HeapFields.{state_of}
use Rattle.machine.proofs.Doing.{present_agrees}
use Rattle.machine.proofs.Finding.{word_allocated}
use Rattle.machine.proofs.Live.{join_does}
use Rattle.machine.proofs.Writing.{word_does}
use Rattle.nodes.proofs.Keeping.{are_allocated, store_kept, linked_still}
use Rattle.machine.proofs.heap.writing.do_write.Goals as goal

pub returns-in-Nothing : goal.returns-in-Nothing
returns-in-Nothing c =
    let a = c.args.heap.now in let h = state_of a in
    subst (λ (w : Write). IsWritten a c.args.mutator w a) (sym c.in-Nothing.is)
    (record { does = λ g x is p. subst (λ (y : Change). DoesChange h g y h) (sym p) Does_nothing; buffers = refl; linked = c.requires.heap.linked })

pub put-requires : goal.put-requires
put-requires c =
    let w = c.requires.heap.heap in
    let p = subst (CanPerform (state_of c.args.heap.now)) c.in-Word.is c.requires.write w.present (present_agrees _ w) in
    record { allocated = word_allocated (state_of c.args.heap.now) w.present (present_agrees _ w) p.1.0 p.1.1 c.in-Word.at p.1.3; within = p.1.3.1.within }

pub returns-in-Word : goal.returns-in-Word
returns-in-Word c =
    let a = c.args.heap.now in let h = state_of a in
    subst (λ (w : Write). IsWritten a c.args.mutator w (record a { nodes = c.put.new.nodes })) (sym c.in-Word.is)
    (record {
      does =
          subst (DoesEach h (writes.Word c.in-Word.at c.in-Word.word)) (sym (store_kept a (are_allocated a c.requires.heap) c.put.new.nodes (ap length c.put.ensures.written.pages) c.put.ensures.links))
          (word_does h c.in-Word.at c.in-Word.word _ c.put.ensures.written);
      buffers = refl;
      linked = linked_still a c.put.new.nodes c.requires.heap.linked (are_allocated a c.requires.heap) (ap length c.put.ensures.written.pages) c.put.ensures.links;
    })

pub set_live-requires : goal.set_live-requires
set_live-requires c =
    let w = c.requires.heap.heap in
    (subst (CanPerform (state_of c.args.heap.now)) c.in-Join.is c.requires.write w.present (present_agrees _ w)).1.1

pub returns-in-Join : goal.returns-in-Join
returns-in-Join c =
    let a = c.args.heap.now in
    subst (λ (w : Write). IsWritten a c.args.mutator w (record a { roots = c.set_live.new.self })) (sym c.in-Join.is)
    (record { does = rw c.set_live.ensures (join_does (state_of a) c.in-Join.joiner); buffers = refl; linked = c.requires.heap.linked })

pub write_leave-requires-clause-write : goal.write_leave-requires-clause-write
write_leave-requires-clause-write c = subst (CanPerform (state_of c.args.heap.now)) c.in-Leave.is c.requires.write

pub returns-in-Leave : goal.returns-in-Leave
returns-in-Leave c =
    subst (λ (w : Write). IsWritten c.args.heap.now c.args.mutator w c.write_leave.new.heap) (sym c.in-Leave.is) (record { does = c.write_leave.ensures.does; buffers = c.write_leave.ensures.buffers; linked = c.write_leave.ensures.linked })

pub write_root-requires : goal.write_root-requires
write_root-requires c = subst (CanWrite c.args.heap.now c.args.mutator) c.in-Root.is c.requires

pub returns-in-Root : goal.returns-in-Root
returns-in-Root c = subst (λ (w : Write). IsWritten c.args.heap.now c.args.mutator w c.write_root.new.heap) (sym c.in-Root.is) c.write_root.ensures
