use Rattle.std.proofs.Common.{◌≡◌, ◌+◌, length, get_or, refl, sym, subst, ap, arith}
use Rattle.graph_heap.specs.declared.command.Command.TheVariants as commands
use Rattle.graph_heap.specs.declared.command.Reply.TheVariants as replies
use Rattle.heap_model.specs.State.{HeapState}
use Rattle.nodes.specs.HeapFields.{state_of}
use Rattle.nodes.specs.declared.heap_fields.HeapFields.{HeapFields}
use Rattle.nodes.proofs.Keeping.{are_allocated, store_kept, linked_still}
use Rattle.machine.specs.Plan.{DoesEach}
use Rattle.machine.specs.Runs.{cell_behind, HasRun, StepsEach}
use Rattle.machine.specs.declared.plan.Write.TheVariants as writes
use Rattle.machine.proofs.Runs.{run_allocated, run_within, run_can, run_puts, run_stays, each_more}
use Rattle.machine.proofs.Writing.{word_does, written_heap}
use Rattle.machine.proofs.heap.runs.write_row.Goals as goal

pub loop-i-init : goal.loop-i-init
loop-i-init c = (c.requires.heap, λ m obj first has. (has, refl))

pub set_cell-requires-clause-allocated : goal.set_cell-requires-clause-allocated
set_cell-requires-clause-allocated c =
    let r = c.requires.run in let has = (c.loop-i.invariant.1 r.0 r.1 r.2 r.3).0 in
    run_allocated (state_of c.loop-i.heap) c.loop-i.invariant.0.heap r.0 r.1 r.2 c.args.run has

pub set_cell-requires-clause-within : goal.set_cell-requires-clause-within
set_cell-requires-clause-within c =
    let r = c.requires.run in let has = (c.loop-i.invariant.1 r.0 r.1 r.2 r.3).0 in
    run_within (state_of c.loop-i.heap) c.loop-i.invariant.0.heap r.0 r.1 r.2 c.args.run has c.loop-i.i (omega arith)

pub overflow_add-run : goal.overflow_add-run
overflow_add-run c = let small = c.requires.run.3.small in omega (arith, small)

pub loop-i-preserved : goal.loop-i-preserved
loop-i-preserved c =
    let r = c.requires.run in
    let a = c.loop-i.heap in let w = c.loop-i.invariant.0 in
    let b : HeapFields = record a { nodes = c.set_cell.new.self } in
    let i = c.loop-i.i in let word = get_or c.args.words.now i 0 in
    let write = writes.Word (cell_behind c.args.run.at i) word in
    let same : state_of b ≡ record (state_of a) { store = c.set_cell.new.self } = store_kept a (are_allocated a w) c.set_cell.new.self (ap length c.set_cell.ensures.written.pages) c.set_cell.ensures.links in
    let does : DoesEach (state_of a) write (state_of b) = subst (DoesEach (state_of a) write) (sym same) (word_does (state_of a) (cell_behind c.args.run.at i) word c.set_cell.new.self c.set_cell.ensures.written) in
    let now = (c.loop-i.invariant.1 r.0 r.1 r.2 r.3).0 in (
      written_heap a b w write (run_can (state_of a) w.heap r.0 r.1 r.2 c.args.run now i (omega arith) word) does refl
          (linked_still a c.set_cell.new.self w.linked (are_allocated a w) (ap length c.set_cell.ensures.written.pages) c.set_cell.ensures.links),
      λ m obj first has.
          let so = c.loop-i.invariant.1 m obj first has in (
            subst (λ (x : HeapState). HasRun x m obj first c.args.run) (sym same)
                (run_stays (state_of a) w.heap m obj first c.args.run so.0 i (omega arith) word c.set_cell.new.self c.set_cell.ensures.written),
            each_more (state_of c.args.heap.now) (state_of a) (state_of b) m (λ k. commands.Put obj (first + k) (get_or c.args.words.now k 0)) (λ k. replies.Done) i so.1
                (run_puts (state_of a) w.heap m obj first c.args.run so.0 i (omega arith) word (state_of b) does),
          ),
    )

pub returns-clause-puts : goal.returns-clause-puts
returns-clause-puts c m obj first has =
    let all : c.loop-i.i ≡ c.args.count = omega arith in
    subst (λ n. StepsEach (state_of c.args.heap.now) m (λ i. commands.Put obj (first + i) (get_or c.args.words.now i 0)) (λ i. replies.Done) n (state_of c.loop-i.heap)) all (c.loop-i.invariant.1 m obj first has).1
