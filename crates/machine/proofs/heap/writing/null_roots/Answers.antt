use Rattle.std.proofs.Common.{◌+◌, ◌<◌, sym, subst}
use Rattle.graph_heap.specs.declared.command.Limits.{Limits}
use Rattle.heap_model.specs.Change.{Clears_none}
use Rattle.nodes.specs.HeapFields.{state_of}
use Rattle.machine.specs.declared.plan.Write.TheVariants as writes
use Rattle.machine.proofs.Live.{null_can, next_within, clears_step, clears_row, own_none, own_then, own_after}
use Rattle.machine.proofs.Writing.{written_heap}
use Rattle.machine.proofs.heap.writing.null_roots.Goals as goal

pub loop-i-init : goal.loop-i-init
loop-i-init c = (c.requires.heap, Clears_none, own_none c.args.mutator c.args.heap.now.grey)

pub write_root-requires : goal.write_root-requires
write_root-requires c = record {
  heap = c.loop-i.invariant.0;
  mutator = subst (λ (l : Limits). c.args.mutator < l.mutators) (sym (clears_row (state_of c.args.heap.now) c.args.first c.loop-i.i (state_of c.loop-i.heap) c.loop-i.invariant.1).1) c.requires.mutator;
  write = null_can (state_of c.loop-i.heap) (c.args.first + c.loop-i.i) (next_within (state_of c.args.heap.now) (state_of c.loop-i.heap) c.args.first c.loop-i.i c.args.count c.loop-i.invariant.1 c.requires.within c.loop-i-test.true);
}

pub loop-i-preserved : goal.loop-i-preserved
loop-i-preserved c =
    let i = c.loop-i.invariant in let old = c.loop-i.heap in let new = c.write_root.new.heap in let cell = c.args.first + c.loop-i.i in
    let l = next_within (state_of c.args.heap.now) (state_of old) c.args.first c.loop-i.i c.args.count i.1 c.requires.within c.loop-i-test.true in
    let own = own_after old c.args.mutator _ new.grey c.write_root.ensures.buffers in (
      written_heap old new i.0 (writes.Root cell 0) (null_can (state_of old) cell l) c.write_root.ensures.does own.0 c.write_root.ensures.linked,
      clears_step (state_of c.args.heap.now) (state_of old) (state_of new) c.args.first c.loop-i.i i.1 i.0.heap l c.write_root.ensures.does,
      own_then c.args.mutator c.args.heap.now.grey old.grey new.grey i.2 own,
    )
