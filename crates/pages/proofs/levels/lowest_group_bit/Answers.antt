use Rattle.std.proofs.Common.{◌+◌, ◌*◌, arith}
use Rattle.pages.proofs.Summaries.{lowest_by, lowest_below, found, above_small}
use Rattle.pages.proofs.levels.lowest_group_bit.Goals as goal

pub overflow_mul-at : goal.overflow_mul-at
overflow_mul-at c = let a = above_small c.args.groups.now c.args.tops.now c.requires.tops (λ v. (c.type_inv.tops v).fits) c.in_ok-top.top c.in_ok-top.ensures.here in omega (arith, a, c.requires.small)

pub overflow_add-at : goal.overflow_add-at
overflow_add-at c =
    let l = found c.args.groups.now c.args.tops.now c.requires.tops c.in_ok-top.top c.lowest-2.result c.in_ok-top.ensures.first c.lowest-2.ensures.within c.lowest-2.ensures.here c.lowest-2.ensures.first in omega (arith, l, c.requires.small)

pub overflow_mul-result-2 : goal.overflow_mul-result-2
overflow_mul-result-2 c =
    let l = found c.args.groups.now c.args.tops.now c.requires.tops c.in_ok-top.top c.lowest-2.result c.in_ok-top.ensures.first c.lowest-2.ensures.within c.lowest-2.ensures.here c.lowest-2.ensures.first in omega (arith, l, c.requires.small)

pub offset_bounds-groups-at-2 : goal.offset_bounds-groups-at-2
offset_bounds-groups-at-2 c =
    let l = found c.args.groups.now c.args.tops.now c.requires.tops c.in_ok-top.top c.lowest-2.result c.in_ok-top.ensures.first c.lowest-2.ensures.within c.lowest-2.ensures.here c.lowest-2.ensures.first in omega (arith, l, c.requires.small)

pub bounds-groups-at-2 : goal.bounds-groups-at-2
bounds-groups-at-2 c =
    found c.args.groups.now c.args.tops.now c.requires.tops c.in_ok-top.top c.lowest-2.result c.in_ok-top.ensures.first c.lowest-2.ensures.within c.lowest-2.ensures.here c.lowest-2.ensures.first

pub overflow_add-result-2 : goal.overflow_add-result-2
overflow_add-result-2 c =
    let l = found c.args.groups.now c.args.tops.now c.requires.tops c.in_ok-top.top c.lowest-2.result c.in_ok-top.ensures.first c.lowest-2.ensures.within c.lowest-2.ensures.here c.lowest-2.ensures.first in omega (arith, l, c.requires.small, c.lowest-3.ensures.within)

pub returns : goal.returns
returns c =
    let low = lowest_by c.args.tops.now c.in_ok-top.top c.lowest-2.result c.in_ok-top.ensures.first c.lowest-2.ensures.within c.lowest-2.ensures.here c.lowest-2.ensures.first in
    lowest_below c.args.groups.now c.args.tops.now c.requires.tops (64 * c.in_ok-top.top + c.lowest-2.result) c.lowest-3.result low c.lowest-3.ensures.within c.lowest-3.ensures.here c.lowest-3.ensures.first
