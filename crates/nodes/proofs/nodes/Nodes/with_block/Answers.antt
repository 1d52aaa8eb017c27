use Rattle.std.proofs.Common.{◌≡◌, ℕ, ◌+◌, ◌^◌, ◌<◌, ◌≤◌, true, ◌==◌, ◌&&◌, not, ap, sym, ◌∙◌, arith}
use Rattle.std.proofs.lemmas.Bool.{eq-eqb, ne_eqb}
use Rattle.std.specs.Int.{from_bool}
use Rattle.heap_model.specs.Store.{Store, IsStore, is_allocated}
use Rattle.nodes.proofs.Counting.{few_below, number_few, block_counted}
use Rattle.nodes.proofs.Writing.{header_inside, page_there, part_by}
use Rattle.nodes.proofs.nodes.Nodes.with_block.Goals as goal
use Rattle.nodes.proofs.nodes.Nodes.with_block.Goals.{then-is_main, else-is_main}

pub part-is_first-requires : goal.part-is_first-requires
part-is_first-requires c = omega (arith, header_inside _ _ c.self.view_is c.self.invariant.0.whole c.args.block c.requires.allocated)

-- a number of blocks below an allocated block, and one more, is a word
fits : (s t : Store) (is : s ≡ t) (whole : IsStore s) (a n k : ℕ) → is_allocated t a ≡ true → n ≤ a → k ≤ 1 → n + k < 2 ^ 64
fits s t is whole a n k allocated few one = omega (arith, page_there s t is whole a allocated, whole.few)

pub overflow_add-result : goal.overflow_add-result
overflow_add-result c = omega (arith, fits _ _ c.self.view_is c.self.invariant.0.whole c.args.block _ _ c.requires.allocated (few_below c.args.self.now c.args.block c.args.before c.requires.before).0 (number_few c.if-is_main.from), c.from.ensures)

pub overflow_add-result-2 : goal.overflow_add-result-2
overflow_add-result-2 c = omega (arith, fits _ _ c.self.view_is c.self.invariant.0.whole c.args.block _ _ c.requires.allocated (few_below c.args.self.now c.args.block c.args.before c.requires.before).1 (number_few (c.forward_of.result == c.args.block)), c.from-2.ensures)

pub overflow_add-result-3 : goal.overflow_add-result-3
overflow_add-result-3 c = omega (arith, fits _ _ c.self.view_is c.self.invariant.0.whole c.args.block _ _ c.requires.allocated (few_below c.args.self.now c.args.block c.args.before c.requires.before).2 (number_few (not (c.forward_of.result == c.args.block))), c.from-3.ensures)

pub returns : goal.returns
returns c =
    let both : c.if-is_main.from ≡ ((c.forward_of.result == c.args.block) && (c.part-is_first.result == 0)) = elim c.if-is_main.branch [
      | then-is_main w ↦ w.from-is ∙ sym (ap (λ b. b && (c.part-is_first.result == 0)) (eq-eqb c.forward_of.result c.args.block w.if-is_main.true))
      | else-is_main w ↦ (let e = ne_eqb c.forward_of.result c.args.block w.if-is_main.false in w.from-is ∙ e ∙ sym (ap (λ b. b && (c.part-is_first.result == 0)) e))
    ] in
    block_counted c.args.self.now c.args.block c.args.before (c.forward_of.result == c.args.block) (c.part-is_first.result == 0) c.from.result c.from-2.result c.from-3.result
    c.requires.allocated c.requires.before
    (ap (λ n. n == c.args.block) (sym c.forward_of.ensures))
    (ap (λ n. n == 0) (sym (c.part-is_first.ensures.says ∙ part_by _ _ c.self.view_is c.self.invariant.0.whole c.args.block c.requires.allocated)))
    (c.from.ensures ∙ ap from_bool both) c.from-2.ensures c.from-3.ensures
