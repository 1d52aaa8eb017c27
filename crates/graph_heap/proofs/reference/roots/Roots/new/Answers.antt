use Rattle.std.proofs.Common.{◌≡◌, ◌++◌, length, ap, ◌∙◌, arith}
use Rattle.std.proofs.lemmas.List.{length-replicate}
use Rattle.std.specs.Map.{keys_of, values_of}
use Rattle.graph_heap.specs.Roots.{Row, slots_below, null_slots}
use Rattle.graph_heap.proofs.Slots.{null_keys}
use Rattle.graph_heap.proofs.Rows.{null_row}
use Rattle.graph_heap.proofs.reference.roots.Roots.new.Goals as goal

pub invariant_of-result : goal.invariant_of-result
invariant_of-result c =
    let l = c.args.limits.now in
    let all : c.loop-mutator.mutator ≡ l.mutators = omega (arith, c.loop-mutator-test.false, c.loop-mutator.auto.mutator-end) in
    record {
      slots = ap keys_of c.loop-mutator.invariant ∙ null_keys (slots_below c.loop-mutator.mutator l.slots) ∙ ap (λ m. slots_below m l.slots) all;
      statics = ap length (c.in_ok-vec.ensures.items_if_clones_equal (λ y e. e)) ∙ length-replicate l.statics 0;
    }

pub returns : goal.returns
returns c =
    let l = c.args.limits.now in
    let all : c.loop-mutator.mutator ≡ l.mutators = omega (arith, c.loop-mutator-test.false, c.loop-mutator.auto.mutator-end) in
    let slots = ap values_of (c.loop-mutator.invariant ∙ ap (λ m. null_slots (slots_below m l.slots)) all) in
    let statics = c.in_ok-vec.ensures.items_if_clones_equal (λ y e. e) in
    ap (λ cells. (let r : Row = record { limits = l; cells = cells } in r))
    (ap (λ vs. vs ++ c.in_ok-vec.field-0.items) slots ∙ ap (λ ss. values_of (null_slots (slots_below l.mutators l.slots)) ++ ss) statics ∙ null_row l)
