use Rattle.std.proofs.Common.{sym, subst, refl}
use Rattle.nodes.specs.HeapFields.{state_of}
use Rattle.machine.proofs.Doing.{present_agrees}
use Rattle.machine.proofs.Finding.{ref_allocated, ref_follows}
use Rattle.machine.proofs.Writing.{ref_does}
use Rattle.machine.specs.Plan.{DoesEach}
use Rattle.machine.specs.declared.plan.Write.TheVariants as writes
use Rattle.machine.proofs.heap.writing.write_ref.Goals as goal

pub store-requires-clause-cell : goal.store-requires-clause-cell
store-requires-clause-cell c =
    let w = c.requires.heap.heap in
    let p = c.requires.write w.present (present_agrees _ w) in
    record { allocated = ref_allocated (state_of c.args.heap.now) w.present (present_agrees _ w) p.1.0 p.1.1 c.args.at p.1.4; within = p.1.4.1.within }

pub store-requires-clause-leads : goal.store-requires-clause-leads
store-requires-clause-leads c =
    let w = c.requires.heap.heap in
    let p = c.requires.write w.present (present_agrees _ w) in
    ref_follows (state_of c.args.heap.now) w.present (present_agrees _ w) p.1.0 p.1.1 c.args.at p.1.4 _ refl

pub returns : goal.returns
returns c =
    let a = c.args.heap.now in let done = c.store.ensures.stored in
    record {
      does =
          subst (DoesEach (state_of a) (writes.Ref c.args.at c.args.reference)) (sym done.state)
          (ref_does (state_of a) done.mid _ done.recorded c.args.at c.args.reference c.store.new.heap.nodes refl done.written);
      buffers = done.buffers;
      linked = done.linked;
    }
