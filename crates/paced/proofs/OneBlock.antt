-- An object that isn't cut asks for the words of one block.
use Rattle.std.proofs.Common.{◌≡◌, ℕ, zero, suc, ◌+◌, ◌*◌, ◌<◌, ◌≤◌, true, false, ◌==◌, if◌then◌else◌, Some, ap, ◌∙◌, sym, refl, arith, inl, inr}
use Rattle.std.proofs.lemmas.Bool.{ne_eqb}
use Rattle.std.proofs.lemmas.Bool.Decides.{eqb_tells}
use Rattle.graph_heap.specs.declared.command.Shape.{Shape}
use Rattle.graph_heap.specs.Shape.{fits}
use Rattle.size_classes.specs.declared.class.TheConstants.{CLASSES}
use Rattle.size_classes.specs.Need.{blocks_needed, needed, is_class}
use Rattle.size_classes.specs.Parts.{cells_of, parts_in, part_words}
use Rattle.size_classes.specs.Sizes.{size_of, class_for}
use Rattle.space.specs.Space.{class_sum}
use Rattle.space.proofs.Counts.{class_sum_same}
use Rattle.fragmentation.specs.Flow.{words_of}

-- the words of a block of class c, counted at class k
abbrev at : ℕ → ℕ → ℕ
at c k = size_of k * (if c == k then 1 else 0)

at_other : (c k : ℕ) → (c == k) ≡ false → at c k ≡ 0
at_other c k d = let e = ap (λ b. size_of k * (if b then 1 else 0)) d in omega (arith, e)

at_own : (c k : ℕ) → (c == k) ≡ true → at c k ≡ size_of k
at_own c k d = let e = ap (λ b. size_of k * (if b then 1 else 0)) d in omega (arith, e)

sum_below : (c n : ℕ) → n ≤ c → class_sum (at c) n ≡ 0
sum_below c zero l = refl
sum_below c (suc n) l = let r = sum_below c n (omega arith) in let o = at_other c n (ne_eqb c n (λ z. omega arith)) in omega (arith, r, o)

sum_one : (c n : ℕ) → c < n → class_sum (at c) n ≡ size_of c
sum_one c zero l = absurd (omega arith)
sum_one c (suc n) l = elim (eqb_tells c n) [
  | inl e ↦ (let r = sum_below c n (let q = e.1 in omega arith) in let o = at_own c n e.0 in let s = ap size_of e.1 in omega (arith, r, o, s))
  | inr d ↦ (let r = sum_one c n (let q = d.1 in omega arith) in let o = at_other c n d.0 in omega (arith, r, o))
]

pub words_of_one : (cells class : ℕ) → parts_in cells ≡ 1 → class_for (part_words cells 0) ≡ Some class → class < CLASSES → words_of (blocks_needed cells (parts_in cells)) ≡ size_of class
words_of_one cells class one is known =
    class_sum_same (λ k. size_of k * blocks_needed cells (parts_in cells) k) (at class) CLASSES
    (λ k. ap (λ n. size_of k * blocks_needed cells n k) one ∙ ap (λ o. size_of k * (0 + (if is_class k o then 1 else 0))) is ∙ (let e : 0 + (if class == k then 1 else 0) ≡ (if class == k then 1 else 0) = omega arith in ap (λ z. size_of k * z) e))
    ∙ sum_one class CLASSES known

-- such an object, by its shape
pub words_of_whole : (shape : Shape) (cells class : ℕ) → fits shape ≡ true → cells ≡ cells_of shape → parts_in cells ≡ 1 → class_for (part_words cells 0) ≡ Some class → class < CLASSES
    → size_of class ≡ words_of (λ k. if fits shape then needed shape k else 0)
words_of_whole shape cells class fit by one is known =
    sym (words_of_one cells class one is known)
    ∙ ap (λ n. words_of (blocks_needed n (parts_in n))) by
    ∙ ap (λ b. words_of (λ k. if b then needed shape k else 0)) (sym fit)
