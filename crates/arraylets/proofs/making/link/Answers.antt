use Rattle.std.proofs.Common.{◌<◌, sym, subst, refl, arith}
use Rattle.arraylets.proofs.Linking.{spine_in, spine_allocated, cell_within, linked_by, links_same}
use Rattle.arraylets.proofs.making.link.Goals as goal

pub bounds-spines-position : goal.bounds-spines-position
bounds-spines-position c =
    let some : 0 < c.args.part = omega (arith, c.if-part-gt0.true) in
    subst (λ k. k < 64) (sym c.position-position.ensures.spine) (spine_in c.args.parts.now c.args.part c.requires.few some c.requires.part).1

pub set_cell-requires-clause-allocated : goal.set_cell-requires-clause-allocated
set_cell-requires-clause-allocated c =
    let some : 0 < c.args.part = omega (arith, c.if-part-gt0.true) in
    spine_allocated c.args.parts.now _ c.args.nodes.now c.args.spines.now c.args.part _ c.position-position.result.cell c.args.block c.position-position.ensures.spine c.position-position.ensures.cell (c.requires.allocated some)

pub set_cell-requires-clause-within : goal.set_cell-requires-clause-within
set_cell-requires-clause-within c =
    let some : 0 < c.args.part = omega (arith, c.if-part-gt0.true) in
    cell_within c.args.parts.now _ c.args.nodes.now c.args.spines.now c.args.part _ _ c.args.block c.position-position.ensures.spine c.position-position.ensures.cell c.requires.few some c.requires.part (c.requires.cells some)

pub returns-then-part-gt0-clause-linked : goal.returns-then-part-gt0-clause-linked
returns-then-part-gt0-clause-linked c = linked_by c.args.parts.now _ _ _ _ _ _ _ c.position-position.ensures.spine c.position-position.ensures.cell (omega (arith, c.if-part-gt0.true)) c.set_cell.ensures.written

pub returns-else-part-gt0-clause-linked : goal.returns-else-part-gt0-clause-linked
returns-else-part-gt0-clause-linked c = record { root = λ e. refl; written = λ l. absurd (omega (arith, c.if-part-gt0.false, l)) }

pub returns-then-part-gt0-clause-links : goal.returns-then-part-gt0-clause-links
returns-then-part-gt0-clause-links c = c.set_cell.ensures.links

pub returns-else-part-gt0-clause-links : goal.returns-else-part-gt0-clause-links
returns-else-part-gt0-clause-links c = links_same _
