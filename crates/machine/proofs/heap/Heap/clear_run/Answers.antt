use Rattle.std.proofs.Common.{◌+◌, ap, sym, subst, arith}
use Rattle.std.proofs.lemmas.Result.{err_from_is_err_and}
use Rattle.graph_heap.specs.declared.command.Command.TheVariants as commands
use Rattle.graph_heap.specs.declared.command.Reply.TheVariants as replies
use Rattle.graph_heap.specs.declared.command.Limits.{Limits}
use Rattle.heap_model.specs.State.{HeapState}
use Rattle.nodes.specs.HeapFields.{state_of}
use Rattle.machine.specs.Runs.{DoesRun}
use Rattle.machine.proofs.RunClearing.{row_clears, clears_refused, not_admitted, no_slot}
use Rattle.machine.proofs.heap.Heap.clear_run.Goals as goal

pub returns-in_err-admit-clause-clears : goal.returns-in_err-admit-clause-clears
returns-in_err-admit-clause-clears c =
    let p = err_from_is_err_and c.from_residual.result c.from_residual.ensures.1 in
    let h = state_of c.self.inside.fields in
    subst (λ (x : HeapState). DoesRun x c.args.mutator (λ i. commands.Clear (c.args.first + i)) (λ i. replies.Done) c.from_residual.result x) c.self.view_is
    (clears_refused h c.args.mutator c.args.first c.from_residual.result _ _ p.1 p.2 (not_admitted h.limits h.live c.args.mutator c.args.first _ (sym c.in_err-admit.ensures.admitted)))

pub returns-in_err-cell-clause-clears : goal.returns-in_err-cell-clause-clears
returns-in_err-cell-clause-clears c =
    let p = err_from_is_err_and c.from_residual-in_err-cell.result c.from_residual-in_err-cell.ensures.1 in
    let h = state_of c.self.inside.fields in
    subst (λ (x : HeapState). DoesRun x c.args.mutator (λ i. commands.Clear (c.args.first + i)) (λ i. replies.Done) c.from_residual-in_err-cell.result x) c.self.view_is
    (clears_refused h c.args.mutator c.args.first c.from_residual-in_err-cell.result _ _ p.1 p.2
    (no_slot h.limits h.live c.args.mutator c.args.first c.in_ok-admit.field-0 _ (sym c.in_ok-admit.ensures.admitted) (sym c.in_err-cell.ensures.place)))

pub returns-then-records-clause-clears : goal.returns-then-records-clause-clears
returns-then-records-clause-clears c =
    row_clears _ _ c.self.view_is c.self.invariant.heap c.args.mutator c.args.first c.in_ok-cell.cell c.in_ok-admit.field-0 (sym c.in_ok-admit.ensures.admitted) (sym c.in_ok-cell.ensures.place) c.min-count.result
    (let least = c.min-count.ensures in let rest = c.saturating_sub-slots.ensures in let same = ap (λ (l : Limits). l.slots) c.limits.ensures.limits in omega (arith, least, rest, same)) _ c.null_roots.ensures.clears

pub returns-else-records-clause-clears : goal.returns-else-records-clause-clears
returns-else-records-clause-clears c =
    row_clears _ _ c.self.view_is c.self.invariant.heap c.args.mutator c.args.first c.in_ok-cell.cell c.in_ok-admit.field-0 (sym c.in_ok-admit.ensures.admitted) (sym c.in_ok-cell.ensures.place) c.min-count.result
    (let least = c.min-count.ensures in let rest = c.saturating_sub-slots.ensures in let same = ap (λ (l : Limits). l.slots) c.limits.ensures.limits in omega (arith, least, rest, same)) _ c.null_unrecorded.ensures.clears
