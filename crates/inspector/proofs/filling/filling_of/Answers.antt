use Rattle.std.proofs.Common.{◌≡◌, ◌+◌, ◌*◌, length, ap, ◌∙◌, arith}
use Rattle.inspector.specs.Filling.{filling_on, summed}
use Rattle.inspector.proofs.Fillings.{within_more, nothing_within, both_within, summed_none, one_more}
use Rattle.inspector.proofs.filling.filling_of.Goals as goal

pub loop-number-init : goal.loop-number-init
loop-number-init c = record {
  filling = c.nothing-all.ensures ∙ summed_none (filling_on c.args.heap.now.store c.args.class);
  within = nothing_within c.nothing-all.result (131072 * 0) c.nothing-all.ensures;
}

pub both-all-requires-clause-some : goal.both-all-requires-clause-some
both-all-requires-clause-some c = within_more c.loop-number.all (131072 * c.loop-number.number) 8796093022208 c.loop-number.invariant.within (omega (arith, c.loop-number-test.true, c.pages-number-end.ensures.within))

pub both-all-requires-clause-others : goal.both-all-requires-clause-others
both-all-requires-clause-others c = within_more c.filling_on.result 131072 8796093022208 c.filling_on.ensures.within (omega arith)

pub loop-number-preserved : goal.loop-number-preserved
loop-number-preserved c =
    let n = c.loop-number.number in
    record {
      filling = one_more (filling_on c.args.heap.now.store c.args.class) n c.loop-number.all c.filling_on.result c.both-all.result c.loop-number.invariant.filling c.filling_on.ensures.filling c.both-all.ensures;
      within = within_more c.both-all.result (131072 * n + 131072) (131072 * (n + 1)) (both_within c.loop-number.all c.filling_on.result c.both-all.result (131072 * n) 131072 c.both-all.ensures c.loop-number.invariant.within c.filling_on.ensures.within) (omega arith);
    }

pub returns-clause-filling : goal.returns-clause-filling
returns-clause-filling c =
    let e : c.loop-number.number ≡ length c.args.heap.now.store.pages = omega (arith, c.pages-number-end.ensures.pages) in
    c.loop-number.invariant.filling ∙ ap (summed (filling_on c.args.heap.now.store c.args.class)) e

pub returns-clause-within : goal.returns-clause-within
returns-clause-within c = within_more c.loop-number.all (131072 * c.loop-number.number) 137438953472 c.loop-number.invariant.within (omega (arith, c.pages-number-end.ensures.within))
