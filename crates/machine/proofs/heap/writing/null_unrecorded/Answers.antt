use Rattle.std.proofs.Common.{◌≡◌, ◌∙◌, ◌+◌, false, get_or, ap, refl}
use Rattle.heap_model.specs.Change.{Clears_none, Records_nothing}
use Rattle.heap_model.specs.Written.{records}
use Rattle.nodes.specs.HeapFields.{state_of}
use Rattle.nodes.specs.declared.heap_fields.HeapFields.{HeapFields}
use Rattle.machine.specs.Plan.{DoesEach}
use Rattle.machine.specs.declared.plan.Write.TheVariants as writes
use Rattle.machine.proofs.Live.{null_can, next_within, clears_step}
use Rattle.machine.proofs.Writing.{root_does, written_heap}
use Rattle.machine.proofs.heap.writing.null_unrecorded.Goals as goal

pub loop-i-init : goal.loop-i-init
loop-i-init c = (c.requires.heap, Clears_none, refl)

pub set-requires : goal.set-requires
set-requires c = next_within (state_of c.args.heap.now) (state_of c.loop-i.heap) c.args.first c.loop-i.i c.args.count c.loop-i.invariant.1 c.requires.within c.loop-i-test.true

pub loop-i-preserved : goal.loop-i-preserved
loop-i-preserved c =
    let i = c.loop-i.invariant in let a = c.loop-i.heap in let cell = c.args.first + c.loop-i.i in
    let b : HeapFields = record a { roots = c.set.new.self } in
    let l = next_within (state_of c.args.heap.now) (state_of a) c.args.first c.loop-i.i c.args.count i.1 c.requires.within c.loop-i-test.true in
    let nothing : records a.phase ≡ false = ap records i.2 ∙ c.requires.unrecorded in
    let does : DoesEach (state_of a) (writes.Root cell 0) (state_of b) =
    rw c.set.ensures (root_does (state_of a) (state_of a) (get_or a.roots.cells cell 0) (Records_nothing nothing) cell 0 refl) in (
      written_heap a b i.0 (writes.Root cell 0) (null_can (state_of a) cell l) does refl i.0.linked,
      clears_step (state_of c.args.heap.now) (state_of a) (state_of b) c.args.first c.loop-i.i i.1 i.0.heap l does,
      i.2,
    )
