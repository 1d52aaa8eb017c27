use Rattle.std.proofs.Common.{◌∙◌, Ok, refl, subst, sym, slice_index}
use Rattle.std.proofs.lemmas.Result.{err_from_is_err_and}
use Rattle.machine.proofs.Cells.{cell_refused, no_cell}
use Rattle.arraylets.specs.declared.cells.Cell.{Cell}
use Rattle.machine.specs.Reading.{FindsCell}
use Rattle.machine.proofs.FarCells.{stands_in, reaches_far, same_cell}
use Rattle.machine.proofs.Reached.{reached, finds_cell}
use Rattle.machine.proofs.heap.Heap.find.Goals as goal

pub part_block-block-requires : goal.part_block-block-requires
part_block-block-requires c =
    let r = reached _ _ c.self.view_is c.self.invariant.heap c.args.root c.args.i c.in_ok-found.found c.in_ok-found.ensures.finds c.args.kind c.in_ok-place-in_default.place (sym c.in_ok-place-in_default.ensures) in
    record { fits = c.in_ok-found.ensures.fits; part = r.0; spine = r.1; piece = r.2 }

pub returns-in_ok-place-in_default : goal.returns-in_ok-place-in_default
returns-in_ok-place-in_default c = finds_cell _ _ c.self.view_is c.self.invariant.heap c.args.root c.args.i c.in_ok-found.found c.in_ok-found.ensures.finds c.args.kind c.in_ok-place-in_default.place c.part_block-block.result c.part_block-block.ensures (sym c.in_ok-place-in_default.ensures) c.in_ok-found.ensures.fits

pub returns-in_err-found : goal.returns-in_err-found
returns-in_err-found c g a =
    let p = err_from_is_err_and c.from_residual.result c.from_residual.ensures.1 in
    rw (p.1, p.2) (no_cell _ g c.args.kind _ c.args.i _ (c.in_err-found.ensures.finds g a))

pub returns-in_err-place-in_default : goal.returns-in_err-place-in_default
returns-in_err-place-in_default c g a =
    let p = err_from_is_err_and c.from_residual-in_err-place-in_default.result c.from_residual-in_err-place-in_default.ensures.1 in
    rw (p.1, p.2) (cell_refused _ g a _ c.in_ok-found.found (c.in_ok-found.ensures.finds g a) c.args.i c.args.kind _ (sym c.in_err-place-in_default.ensures))

pub returns-in_err-_place-in-WordArray : goal.returns-in_err-_place-in-WordArray
returns-in_err-_place-in-WordArray c g a =
    let p = err_from_is_err_and c.from_residual-in_err-_place-in-WordArray.result c.from_residual-in_err-_place-in-WordArray.ensures.1 in
    rw (p.1, p.2) (cell_refused _ g a _ c.in_ok-found.found (c.in_ok-found.ensures.finds g a) c.args.i c.args.kind _ (sym c.in_err-_place-in-WordArray.ensures))

pub far_cell-requires-clause-few : goal.far_cell-requires-clause-few
far_cell-requires-clause-few c = (stands_in c.args.kind _ c.in-WordArray.cells c.args.i c.in_ok-_place-in-WordArray._place c.in-WordArray.is c.in_ok-found.ensures.fits (sym c.in_ok-_place-in-WordArray.ensures)).few

pub far_cell-requires-clause-cell : goal.far_cell-requires-clause-cell
far_cell-requires-clause-cell c = (stands_in c.args.kind _ c.in-WordArray.cells c.args.i c.in_ok-_place-in-WordArray._place c.in-WordArray.is c.in_ok-found.ensures.fits (sym c.in_ok-_place-in-WordArray.ensures)).below

pub far_cell-requires-clause-reaches : goal.far_cell-requires-clause-reaches
far_cell-requires-clause-reaches c =
    reaches_far _ _ _ c.in-WordArray.cells c.args.i c.in_ok-_place-in-WordArray._place
    (stands_in c.args.kind _ c.in-WordArray.cells c.args.i c.in_ok-_place-in-WordArray._place c.in-WordArray.is c.in_ok-found.ensures.fits (sym c.in_ok-_place-in-WordArray.ensures))
    (reached _ _ c.self.view_is c.self.invariant.heap c.args.root c.args.i c.in_ok-found.found c.in_ok-found.ensures.finds c.args.kind c.in_ok-_place-in-WordArray._place (sym c.in_ok-_place-in-WordArray.ensures))

pub returns-in_ok-_place-in-WordArray : goal.returns-in_ok-_place-in-WordArray
returns-in_ok-_place-in-WordArray c g a =
    let same = same_cell _ _ _ c.in-WordArray.cells c.args.i c.in_ok-_place-in-WordArray._place (stands_in c.args.kind _ c.in-WordArray.cells c.args.i c.in_ok-_place-in-WordArray._place c.in-WordArray.is c.in_ok-found.ensures.fits (sym c.in_ok-_place-in-WordArray.ensures)) in
    subst (λ (x : Cell). FindsCell c.args.self.now g c.args.kind (slice_index g.roots c.args.root) c.args.i (Ok x)) (same ∙ sym c.far_cell.ensures)
    (finds_cell _ _ c.self.view_is c.self.invariant.heap c.args.root c.args.i c.in_ok-found.found c.in_ok-found.ensures.finds c.args.kind c.in_ok-_place-in-WordArray._place _ refl (sym c.in_ok-_place-in-WordArray.ensures) c.in_ok-found.ensures.fits g a)
