use Rattle.std.proofs.Common.{◌≡◌, ◌/◌, None, get_or, subst, sym, arith}
use Rattle.pages.specs.Bits.{IsLowest}
use Rattle.pages.proofs.Summaries.{none_above, none_below, lowest_below, there}
use Rattle.pages.proofs.levels.lowest_bit.Goals as goal

pub lowest_group_bit-requires-clause-none : goal.lowest_group_bit-requires-clause-none
lowest_group_bit-requires-clause-none c =
    let zero : get_or c.args.words.now (c.args.k / 64) 0 ≡ 0 = grind arith in
    none_above c.args.words.now c.args.groups.now c.requires.groups c.args.k (λ v. (c.type_inv.words v).fits) c.requires.none zero

pub returns-in_err-at : goal.returns-in_err-at
returns-in_err-at c =
    let none : c.lowest_group_bit.result ≡ None = c.in_err-at.was in
    subst (IsLowest c.args.words.now) (sym c.from_residual.ensures)
    (none_below c.args.words.now c.args.groups.now c.requires.groups (subst (IsLowest c.args.groups.now) none c.lowest_group_bit.ensures))

pub overflow_mul-result-2 : goal.overflow_mul-result-2
overflow_mul-result-2 c = let l = there c.args.words.now c.args.groups.now c.requires.groups c.in_ok-at.at c.in_ok-at.ensures in omega (arith, l, c.requires.small)

pub overflow_add-result-2 : goal.overflow_add-result-2
overflow_add-result-2 c = let l = there c.args.words.now c.args.groups.now c.requires.groups c.in_ok-at.at c.in_ok-at.ensures in omega (arith, l, c.requires.small, c.lowest-2.ensures.within)

pub returns : goal.returns
returns c = lowest_below c.args.words.now c.args.groups.now c.requires.groups c.in_ok-at.at c.lowest-2.result c.in_ok-at.ensures c.lowest-2.ensures.within c.lowest-2.ensures.here c.lowest-2.ensures.first

pub bounds-words-at-2 : goal.bounds-words-at-2
bounds-words-at-2 c = there c.args.words.now c.args.groups.now c.requires.groups c.in_ok-at.at c.in_ok-at.ensures
