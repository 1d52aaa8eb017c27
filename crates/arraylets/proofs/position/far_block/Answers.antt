use Rattle.std.proofs.Common.{◌≡◌, ◌∙◌, ap, subst, sym, arith}
use Rattle.size_classes.specs.Parts.{spine_cell_of}
use Rattle.heap_model.specs.Reading.{Refers, step_to, spine_at}
use Rattle.arraylets.proofs.Stepping.{from_root, from_spine, from_part}
use Rattle.arraylets.proofs.position.far_block.Goals as goal
use Rattle.arraylets.proofs.position.far_block.Goals.{then-position-eq0, else-position-eq0}

pub follow_cell-spine-requires : goal.follow_cell-spine-requires
follow_cell-spine-requires c =
    let spine = c.of_part-position.ensures.spine in
    let at = ap (spine_cell_of c.args.cells) (sym spine) ∙ c.of_part-position.ensures.root (omega (arith, c.if-position-eq0.false)) in
    subst (Refers c.args.nodes.now c.args.block) at (c.requires.spine (λ e. c.if-position-eq0.false (spine ∙ e)))

is_spine : (c : goal.Joined-position-eq0) → c.if-position-eq0.spine ≡ spine_at c.args.nodes.now c.args.cells c.args.block c.args.part
is_spine c = elim c.if-position-eq0.branch [
  | then-position-eq0 w ↦ w.spine-is ∙ from_root c.args.nodes.now c.args.cells c.args.block c.args.part (sym c.of_part-position.ensures.spine ∙ w.if-position-eq0.true)
  | else-position-eq0 w ↦
      w.spine-is ∙ w.follow_cell-spine.ensures ∙ ap (step_to c.args.nodes.now c.args.block) (sym (ap (spine_cell_of c.args.cells) (sym c.of_part-position.ensures.spine) ∙ c.of_part-position.ensures.root (omega (arith, w.if-position-eq0.false))))
      ∙ from_spine c.args.nodes.now c.args.cells c.args.block c.args.part (λ e. w.if-position-eq0.false (c.of_part-position.ensures.spine ∙ e))
]

pub follow_cell-requires : goal.follow_cell-requires
follow_cell-requires c = subst (λ b. Refers c.args.nodes.now b c.of_part-position.result.cell) (sym (is_spine c)) (subst (Refers c.args.nodes.now (spine_at c.args.nodes.now c.args.cells c.args.block c.args.part)) (sym c.of_part-position.ensures.cell) c.requires.piece)

reached_spine : (c : goal.After-follow_cell) → c.if-position-eq0.spine ≡ spine_at c.args.nodes.now c.args.cells c.args.block c.args.part
reached_spine c = elim c.if-position-eq0.branch [
  | then-position-eq0 w ↦ w.spine-is ∙ from_root c.args.nodes.now c.args.cells c.args.block c.args.part (sym c.of_part-position.ensures.spine ∙ w.if-position-eq0.true)
  | else-position-eq0 w ↦
      w.spine-is ∙ w.follow_cell-spine.ensures ∙ ap (step_to c.args.nodes.now c.args.block) (sym (ap (spine_cell_of c.args.cells) (sym c.of_part-position.ensures.spine) ∙ c.of_part-position.ensures.root (omega (arith, w.if-position-eq0.false))))
      ∙ from_spine c.args.nodes.now c.args.cells c.args.block c.args.part (λ e. w.if-position-eq0.false (c.of_part-position.ensures.spine ∙ e))
]

pub returns : goal.returns
returns c =
    c.follow_cell.ensures ∙ ap (λ b. step_to c.args.nodes.now b c.of_part-position.result.cell) (reached_spine c) ∙ ap (step_to c.args.nodes.now (spine_at c.args.nodes.now c.args.cells c.args.block c.args.part)) c.of_part-position.ensures.cell
    ∙ from_part c.args.nodes.now c.args.cells c.args.block c.args.part c.requires.other
