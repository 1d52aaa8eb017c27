-- The lines of the size classes, class after class.
use Rattle.std.proofs.Common.{◌≡◌, ◌≢◌, ℕ, zero, suc, ◌+◌, ◌-◌, ◌<◌, Bool, if◌then◌else◌, List, [], ◌∷◌, ◌++◌, ap, ◌∙◌, sym, subst, refl, arith, add-one, append_assoc, append-nil}
use Rattle.std.proofs.lemmas.Bool.{eq-eqb, ne_eqb}
use Rattle.size_classes.specs.declared.class.TheConstants.{CLASSES}
use Rattle.heap_model.specs.State.{HeapState}
use Rattle.heap_model.specs.Store.{Store}
use Rattle.trace.specs.Streams.{GrowsByPart}
use Rattle.trace.specs.Lines.{text_of}
use Rattle.inspector.specs.declared.filling.Filling.{Filling}
use Rattle.inspector.specs.Filling.{filling_of, filling_in, class_line, class_lines, classes_lines, sum_line, fragmentation_line, sizes_told}
use Rattle.inspector.proofs.Parts.{part_first, part_after}
use Rattle.inspector.proofs.PageByPage.{text_both}

-- a class with a page has a line, and one without has none
module _ (class : ℕ) (f : Filling) where
  pub no_line : f.pages ≡ 0 → text_of (class_lines class f) ≡ []
  no_line e = ap (λ (b : Bool). text_of (if b then [] else class_line class f ∷ [])) (eq-eqb f.pages 0 e)

  pub one_line : f.pages ≢ 0 → text_of (class_lines class f) ≡ class_line class f ++ 10 ∷ []
  one_line ne = ap (λ (b : Bool). text_of (if b then [] else class_line class f ∷ [])) (ne_eqb f.pages 0 ne) ∙ append-nil (class_line class f ++ 10 ∷ [])

module _ (s : Store) where
  abbrev before : ℕ → List ℕ
  before n = text_of (classes_lines s n)

  abbrev here : ℕ → List ℕ
  here n = text_of (class_lines n (filling_of s n))

  pub no_lines : [] ≡ text_of (classes_lines s 0)
  unfolding classes_lines
  no_lines = refl

  next_lines : (n : ℕ) → classes_lines s (n + 1) ≡ classes_lines s n ++ class_lines n (filling_of s n)
  unfolding classes_lines
  next_lines n = rw add-one refl

  next_text : (n : ℕ) → before (n + 1) ≡ before n ++ here n
  next_text n = ap text_of (next_lines n) ∙ text_both (classes_lines s n) (class_lines n (filling_of s n))

  -- the first lines begin those of more
  rest_of : (n m : ℕ) → (rest : List ℕ) × (before (n + m) ≡ before n ++ rest)
  rest_of n zero = ([], ap before (let e : n + zero ≡ n = omega arith in e) ∙ sym (append-nil (before n)))
  rest_of n (suc m) =
      let r = rest_of n m in
      (r.0 ++ here (n + m), ap before (let e : n + suc m ≡ (n + m) + 1 = omega arith in e) ∙ next_text (n + m) ∙ ap (λ t. t ++ here (n + m)) r.1 ∙ append_assoc (before n) r.0 (here (n + m)))

  module _ (old mid new : List ℕ) (n : ℕ) (written : mid ≡ old ++ text_of (classes_lines s n)) where
    module _ (class : ℕ) (f : Filling) (at : class ≡ n) (is : f ≡ filling_of s class) where
      lines_are : text_of (class_lines class f) ≡ here n
      lines_are = ap (λ k. text_of (class_lines k f)) at ∙ ap (λ (x : Filling). text_of (class_lines n x)) (is ∙ ap (filling_of s) at)

      -- with the line of the next class
      pub class_more : new ≡ mid ++ text_of (class_lines class f) → new ≡ old ++ text_of (classes_lines s (n + 1))
      class_more e =
          e ∙ ap (λ t. t ++ text_of (class_lines class f)) written ∙ ap (λ t. (old ++ before n) ++ t) lines_are
          ∙ append_assoc old (before n) (here n) ∙ ap (λ t. old ++ t) (sym (next_text n))

      -- A part of the class's lines is written.
      pub class_part : (all : ℕ) → n < all → GrowsByPart mid new (text_of (class_lines class f)) → GrowsByPart old new (text_of (classes_lines s all))
      class_part all l g =
          let r = rest_of (n + 1) (all - (n + 1)) in
          let whole : before all ≡ before n ++ (here n ++ r.0) =
          ap before (let e : all ≡ (n + 1) + (all - (n + 1)) = omega (arith, l) in e) ∙ r.1 ∙ ap (λ t. t ++ r.0) (next_text n) ∙ append_assoc (before n) (here n) r.0 in
          subst (GrowsByPart old new) (sym whole) (part_after old mid new (before n) (here n ++ r.0) written (part_first mid new (here n) r.0 (subst (GrowsByPart mid new) lines_are g)))

-- the whole text, by the sum that the code has
pub text_told : (h : HeapState) (all : Filling) → all ≡ filling_in h.store → sizes_told h ≡ text_of (classes_lines h.store CLASSES) ++ ((sum_line all ++ 10 ∷ []) ++ (fragmentation_line all ++ 10 ∷ []))
text_told h all is =
    let lines = text_of (classes_lines h.store CLASSES) in
    text_both (classes_lines h.store CLASSES) (sum_line (filling_in h.store) ∷ fragmentation_line (filling_in h.store) ∷ [])
    ∙ ap (λ t. lines ++ ((sum_line (filling_in h.store) ++ 10 ∷ []) ++ t)) (append-nil (fragmentation_line (filling_in h.store) ++ 10 ∷ []))
    ∙ ap (λ (f : Filling). lines ++ ((sum_line f ++ 10 ∷ []) ++ (fragmentation_line f ++ 10 ∷ []))) (sym is)
