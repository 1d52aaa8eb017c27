use Rattle.std.proofs.Common.{◌+◌, get_or, sym, subst}
use Rattle.std.proofs.lemmas.Result.{err_from_is_err_and}
use Rattle.graph_heap.specs.declared.command.Command.TheVariants as commands
use Rattle.graph_heap.specs.declared.command.Reply.TheVariants as replies
use Rattle.heap_model.specs.State.{HeapState}
use Rattle.nodes.specs.HeapFields.{state_of}
use Rattle.machine.specs.Runs.{HasRun, StepsEach}
use Rattle.machine.proofs.RunFinding.{puts_refused}
use Rattle.machine.proofs.heap.Heap.put_run.Goals as goal

pub returns-in_err-run-clause-puts : goal.returns-in_err-run-clause-puts
returns-in_err-run-clause-puts c =
    let p = err_from_is_err_and c.from_residual.result c.from_residual.ensures.1 in
    puts_refused c.args.self.now c.args.mutator c.args.obj c.args.first c.from_residual.result _ _ p.1 p.2 c.in_err-run.ensures.length c.args.words.now (λ i. replies.Done)

pub returns-clause-puts : goal.returns-clause-puts
returns-clause-puts c =
    subst (λ (x : HeapState). StepsEach x c.args.mutator (λ i. commands.Put c.args.obj (c.args.first + i) (get_or c.args.words.now i 0)) (λ i. replies.Done) c.min-count.result (state_of c.write_row.new.heap)) c.self.view_is
    (c.write_row.ensures.puts c.args.mutator c.args.obj c.args.first
    (subst (λ (x : HeapState). HasRun x c.args.mutator c.args.obj c.args.first c.in_ok-run.run') (sym c.self.view_is) c.in_ok-run.ensures.found))
