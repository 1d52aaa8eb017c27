use Rattle.std.proofs.Common.{◌≡◌, ℕ, List, length, replicate, None, subst, sym, ap, ◌∙◌, rules, arith}
use Rattle.std.proofs.lemmas.Grind.{div_ceil_times}
use Rattle.std.proofs.lemmas.List.{length-replicate}
use Rattle.pages.specs.Bits.{IsSummary, IsLowest}
use Rattle.pages.proofs.Summaries.{none_summed, none_set}
use Rattle.pages.proofs.bits.BitRow.new.Goals as goal

pub invariant_of-result : goal.invariant_of-result
invariant_of-result c =
    let n = c.div_ceil.result in
    let m = c.div_ceil-2.result in
    let l = c.div_ceil-3.result in
    let w : c.in_ok-words.words.items ≡ replicate {A = ℕ} n 0 = search rules in
    let g : c.in_ok-groups.groups.items ≡ replicate {A = ℕ} m 0 = search rules in
    let t : c.in_ok-tops.tops.items ≡ replicate {A = ℕ} l 0 = search rules in
    let words : length c.in_ok-words.words.items ≡ n = ap (λ (l : List ℕ). length l) w ∙ length-replicate {A = ℕ} n 0 in
    let groups : length c.in_ok-groups.groups.items ≡ m = ap (λ (l : List ℕ). length l) g ∙ length-replicate {A = ℕ} m 0 in
    let few_words = div_ceil_times c.args.bits 64 (omega arith) in
    let few_groups = div_ceil_times c.len.result 64 (omega arith) in
    let few_tops = div_ceil_times c.len-2.result 64 (omega arith) in
    record {
      few = (omega (arith, words, few_words, c.div_ceil.ensures, c.ranges.bits.fits), omega (arith, groups, few_groups, few_words, words, c.len.ensures, c.div_ceil.ensures, c.div_ceil-2.ensures, c.ranges.bits.fits));
      grouped = subst (λ (l : List ℕ). IsSummary l c.in_ok-groups.groups.items) (sym w) (subst (IsSummary (replicate {A = ℕ} n 0)) (sym g) (none_summed n m (omega (arith, few_groups, words, c.len.ensures, c.div_ceil-2.ensures))));
      topped = subst (λ (l : List ℕ). IsSummary l c.in_ok-tops.tops.items) (sym g) (subst (IsSummary (replicate {A = ℕ} m 0)) (sym t) (none_summed m l (omega (arith, few_tops, groups, c.len-2.ensures, c.div_ceil-3.ensures))));
      kept = subst (λ (l : List ℕ). IsLowest l None) (sym w) (none_set n);
    }
