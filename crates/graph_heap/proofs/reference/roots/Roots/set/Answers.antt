use Rattle.std.proofs.Common.{◌-◌, ◌++◌, ap, ◌∙◌, arith}
use Rattle.std.specs.Prelude.{slice_set}
use Rattle.std.proofs.lemmas.List.{with_items_is}
use Rattle.std.specs.Map.{values_of}
use Rattle.graph_heap.specs.Roots.{Row, row_in}
use Rattle.graph_heap.proofs.Rows.{slot_count, slot_held, slot_written, static_written}
use Rattle.graph_heap.proofs.reference.roots.Roots.set.Goals as goal

pub slot_in_row-requires : goal.slot_in_row-requires
slot_in_row-requires c =
    let a = c.self.inside in
    let count = slot_count a.limits a.slots.entries a.statics.items c.self.invariant.slots in
    omega (arith, count, c.len-slots.ensures.len, c.if-cell-slots.false)

pub returns-then-cell-slots : goal.returns-then-cell-slots
returns-then-cell-slots c =
    let a = c.self.inside in
    let written = with_items_is a.statics _ (omega arith) ∙ c.set_cell.ensures ∙ ap (λ r. slice_set r (c.args.cell - c.len-slots.result) c.args.id) c.as_mut_slice.ensures.value
    ∙ ap (λ n. slice_set a.statics.items (c.args.cell - n) c.args.id) c.len-slots.ensures.len in
    let cells = ap (λ ss. values_of a.slots.entries ++ ss) written
    ∙ static_written a.limits a.slots.entries a.statics.items c.self.invariant.slots c.args.cell c.args.id (omega (arith, c.len-slots.ensures.len, c.if-cell-slots.true)) in
    ap (λ cells. (let r : Row = record { limits = a.limits; cells = cells } in r)) cells ∙ ap (λ (r : Row). record r { cells = slice_set r.cells c.args.cell c.args.id }) c.self.view_is

pub returns-in-Some : goal.returns-in-Some
returns-in-Some c =
    let a = c.self.inside in
    let at = c.slot_in_row in
    let cells = ap (λ es. values_of es ++ a.statics.items) (c.get_mut.follows.holds c.args.id).0
    ∙ slot_written a.limits a.slots.entries a.statics.items c.self.invariant.slots at.result.0 at.result.1 at.ensures.mutator at.ensures.slot c.args.id
    ∙ ap (λ i. slice_set (row_in a).cells i c.args.id) at.ensures.place in
    ap (λ cells. (let r : Row = record { limits = a.limits; cells = cells } in r)) cells ∙ ap (λ (r : Row). record r { cells = slice_set r.cells c.args.cell c.args.id }) c.self.view_is

pub returns-in_default : goal.returns-in_default
returns-in_default c =
    let a = c.self.inside in
    let at = c.slot_in_row in
    let held = slot_held a.limits a.slots.entries a.statics.items c.self.invariant.slots at.result.0 at.result.1 at.ensures.mutator at.ensures.slot in
    let none = c.in_default.ensures.value ∙ held in
    absurd (cc)
