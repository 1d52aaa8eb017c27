use Rattle.std.proofs.Common.{sym, subst, arith}
use Rattle.std.proofs.lemmas.Result.{err_from_is_err_and}
use Rattle.heap_model.specs.State.{HeapState}
use Rattle.nodes.specs.HeapFields.{state_of}
use Rattle.machine.specs.Runs.{HasRun}
use Rattle.machine.proofs.RunFinding.{gets_refused}
use Rattle.machine.proofs.Runs.{run_allocated, run_ends, reads_each}
use Rattle.machine.proofs.heap.Heap.get_run.Goals as goal

pub returns-in_err-run-clause-reads : goal.returns-in_err-run-clause-reads
returns-in_err-run-clause-reads c =
    let p = err_from_is_err_and c.from_residual.result c.from_residual.ensures.1 in
    gets_refused c.args.self.now c.args.mutator c.args.obj c.args.first c.from_residual.result _ _ p.1 p.2 c.in_err-run.ensures.length _

pub read_row-requires-clause-allocated : goal.read_row-requires-clause-allocated
read_row-requires-clause-allocated c =
    run_allocated (state_of c.self.inside.fields) c.self.invariant.heap c.args.mutator c.args.obj c.args.first c.in_ok-run.run'
    (subst (λ (x : HeapState). HasRun x c.args.mutator c.args.obj c.args.first c.in_ok-run.run') (sym c.self.view_is) c.in_ok-run.ensures.found)

pub read_row-requires-clause-within : goal.read_row-requires-clause-within
read_row-requires-clause-within c =
    run_ends (state_of c.self.inside.fields) c.self.invariant.heap c.args.mutator c.args.obj c.args.first c.in_ok-run.run'
    (subst (λ (x : HeapState). HasRun x c.args.mutator c.args.obj c.args.first c.in_ok-run.run') (sym c.self.view_is) c.in_ok-run.ensures.found) c.min-count.result (let e = c.min-count.ensures in omega (arith, e))

pub returns-clause-reads : goal.returns-clause-reads
returns-clause-reads c =
    reads_each _ _ c.self.view_is c.self.invariant.heap c.args.mutator c.args.obj c.args.first c.in_ok-run.run' c.in_ok-run.ensures.found c.min-count.result (let e = c.min-count.ensures in omega (arith, e)) _
    c.read_row.ensures.read
