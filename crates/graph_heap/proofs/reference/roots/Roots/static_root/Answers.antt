use Rattle.std.proofs.Common.{◌≡◌, ◌<◌, Ok, length, ap, ◌∙◌, sym, subst, arith}
use Rattle.std.specs.Prelude.{slice_index}
use Rattle.std.proofs.lemmas.Grind.{get_or_default_zero}
use Rattle.graph_heap.specs.Effect.{static_at}
use Rattle.graph_heap.specs.Roots.{Row, row_in, held_at}
use Rattle.graph_heap.proofs.Rows.{static_known, static_held}
use Rattle.graph_heap.proofs.reference.roots.Roots.static_root.Goals as goal

pub returns : goal.returns
returns c =
    let a = c.self.inside in
    let k = static_known a.limits c.args.k c.in_ok-static_of.field-0 c.in_ok-static_of.ensures.place in
    let within : c.args.k < length a.statics.items = omega (arith, k.0, c.self.invariant.statics) in
    let is : c.index.result.now ≡ slice_index a.statics.items c.args.k = c.index.ensures ∙ get_or_default_zero a.statics.items c.args.k c.index.result.now within in
    subst (λ (r : Row). Ok c.index.result.now ≡ held_at r (static_at r.limits c.args.k)) c.self.view_is
    (ap Ok (is ∙ static_held a.limits a.slots.entries a.statics.items c.self.invariant.slots c.args.k ∙ ap (slice_index (row_in a).cells) (sym k.1)) ∙ ap (held_at (row_in a)) c.in_ok-static_of.ensures.place)
