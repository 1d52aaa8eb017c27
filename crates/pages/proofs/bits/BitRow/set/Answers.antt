use Rattle.std.proofs.Common.{◌≡◌, ℕ, ◌++◌, List, length, take, drop, ap, ◌∙◌, sym, subst, arith}
use Rattle.std.proofs.lemmas.List.{take-append-le, take_all}
use Rattle.pages.specs.Bits.{bit_in, IsSummary, IsLowest}
use Rattle.pages.proofs.Summaries.{but_put}
use Rattle.pages.proofs.bits.BitRow.set.Goals as goal

-- what was written to a whole list is the list then
whole : (old new : List ℕ) (n : ℕ) → n ≡ length old → length new ≡ length old → take n (new ++ drop (length new) old) ≡ new
whole old new n count same = take-append-le n new (drop (length new) old) (omega (arith, count, same)) ∙ take_all n new (omega (arith, count, same))

pub lowest_once_put-self-requires-clause-was : goal.lowest_once_put-self-requires-clause-was
lowest_once_put-self-requires-clause-was c =
    but_put c.args.self.now.words.items c.put_bit.new.words c.args.k c.args.self.now.lowest c.args.self.now.kept
    (λ i ne. c.put_bit.ensures.others i ne ∙ ap (λ w. bit_in w i) c.as_mut_slice-words.ensures.value)

pub invariant_of-self : goal.invariant_of-self
invariant_of-self c =
    let words : length c.put_bit.new.words ≡ length c.args.self.now.words.items = c.put_bit.ensures.len.0 ∙ ap (λ (l : List ℕ). length l) c.as_mut_slice-words.ensures.value in
    let groups : length c.put_bit.new.groups ≡ length c.args.self.now.groups.items = c.put_bit.ensures.len.1 ∙ ap (λ (l : List ℕ). length l) c.as_mut_slice-groups.ensures.value in
    let tops : length c.put_bit.new.tops ≡ length c.args.self.now.tops.items = c.put_bit.ensures.len.2 ∙ ap (λ (l : List ℕ). length l) c.as_mut_slice-tops.ensures.value in
    let w = whole c.args.self.now.words.items c.put_bit.new.words c.args.self.now.words.len c.args.self.now.words.ok.0 words in
    let g = whole c.args.self.now.groups.items c.put_bit.new.groups c.args.self.now.groups.len c.args.self.now.groups.ok.0 groups in
    let t = whole c.args.self.now.tops.items c.put_bit.new.tops c.args.self.now.tops.len c.args.self.now.tops.ok.0 tops in
    record {
      few = (omega (arith, ap (λ (l : List ℕ). length l) w, words, c.args.self.now.few.0), omega (arith, ap (λ (l : List ℕ). length l) g, groups, c.args.self.now.few.1));
      grouped = subst (λ l. IsSummary l (take c.args.self.now.groups.len (c.put_bit.new.groups ++ drop (length c.put_bit.new.groups) c.args.self.now.groups.items))) (sym w) (subst (IsSummary c.put_bit.new.words) (sym g) c.put_bit.ensures.groups);
      topped = subst (λ l. IsSummary l (take c.args.self.now.tops.len (c.put_bit.new.tops ++ drop (length c.put_bit.new.tops) c.args.self.now.tops.items))) (sym g) (subst (IsSummary c.put_bit.new.groups) (sym t) c.put_bit.ensures.tops);
      kept = subst (λ l. IsLowest l c.lowest_once_put-self.result) (sym w) c.lowest_once_put-self.ensures;
    }
