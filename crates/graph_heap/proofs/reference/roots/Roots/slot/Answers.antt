use Rattle.std.proofs.Common.{◌≡◌, Ok, refl, ap, ◌∙◌, sym, subst}
use Rattle.std.specs.Prelude.{IsSome, unwrap_or, slice_index}
use Rattle.graph_heap.specs.Effect.{slot_at}
use Rattle.graph_heap.specs.Roots.{Row, row_in, held_at}
use Rattle.graph_heap.proofs.Rows.{slot_known, slot_held}
use Rattle.graph_heap.proofs.reference.roots.Roots.slot.Goals as goal

pub index-requires : goal.index-requires
index-requires c =
    let a = c.self.inside in
    let k = slot_known a.limits c.args.mutator c.args.slot c.in_ok-slot_of.field-0 c.in_ok-slot_of.ensures.place in
    subst IsSome (sym (slot_held a.limits a.slots.entries a.statics.items c.self.invariant.slots c.args.mutator c.args.slot k.0 k.1)) refl

pub returns : goal.returns
returns c =
    let a = c.self.inside in
    let k = slot_known a.limits c.args.mutator c.args.slot c.in_ok-slot_of.field-0 c.in_ok-slot_of.ensures.place in
    let held = slot_held a.limits a.slots.entries a.statics.items c.self.invariant.slots c.args.mutator c.args.slot k.0 k.1 in
    let is = ap (λ o. unwrap_or o 0) (sym c.index.ensures ∙ held) in
    subst (λ (r : Row). Ok c.index.result.now ≡ held_at r (slot_at r.limits c.args.mutator c.args.slot)) c.self.view_is
    (ap Ok (is ∙ ap (slice_index (row_in a).cells) (sym k.2)) ∙ ap (held_at (row_in a)) c.in_ok-slot_of.ensures.place)
