use Rattle.std.proofs.Common.{◌+◌, ◌*◌, ◌<◌, ◌≤◌, length, sym, subst}
use Rattle.graph_heap.specs.declared.command.Limits.{Limits}
use Rattle.nodes.specs.HeapFields.{state_of}
use Rattle.machine.proofs.Doing.{leave_within}
use Rattle.machine.proofs.Live.{clears_row, leaver_low, slots_cleared, leave_does}
use Rattle.machine.proofs.heap.writing.write_leave.Goals as goal

pub null_roots-requires-clause-mutator : goal.null_roots-requires-clause-mutator
null_roots-requires-clause-mutator c = leaver_low (state_of c.args.heap.now) c.requires.heap.heap c.args.mutator c.requires.write

pub null_roots-requires-clause-within : goal.null_roots-requires-clause-within
null_roots-requires-clause-within c =
    let h = state_of c.args.heap.now in
    subst (λ (l : Limits). c.args.mutator * l.slots + l.slots ≤ length h.roots) (sym c.limits-slots.ensures.limits)
    (leave_within h c.args.mutator c.requires.heap.heap.represents.consistent.row (leaver_low h c.requires.heap.heap c.args.mutator c.requires.write))

pub set_live-requires : goal.set_live-requires
set_live-requires c =
    let h = state_of c.args.heap.now in
    subst (λ (l : Limits). c.args.mutator < l.mutators) (sym (clears_row h _ _ (state_of c.null_roots.new.heap) c.null_roots.ensures.clears).1) (leaver_low h c.requires.heap.heap c.args.mutator c.requires.write)

pub returns-clause-does : goal.returns-clause-does
returns-clause-does c =
    let h = state_of c.args.heap.now in let k = state_of c.null_roots.new.heap in
    rw c.set_live.ensures (leave_does h k c.args.mutator (slots_cleared h k c.limits-slots.result c.args.mutator c.limits-slots.ensures.limits c.null_roots.ensures.clears))

pub returns-clause-linked : goal.returns-clause-linked
returns-clause-linked c = c.null_roots.ensures.heap.linked
