-- How full pages are, page by page and class by class.
use Rattle.std.proofs.Common.{◌≡◌, ℕ, ◌+◌, ◌*◌, ◌≤◌, ◌==◌, Bool, true, false, if◌then◌else◌, Option, Some, None, List, ◌++◌, ap, ◌∙◌, sym, refl, arith, add-one, append_assoc}
use Rattle.std.specs.Prelude.{codes, decimal}
use Rattle.size_classes.specs.declared.class.TheConstants.{PAGE_WORDS}
use Rattle.heap_model.specs.Action.{allocated_on}
use Rattle.heap_model.specs.Pages.{Page}
use Rattle.pages.specs.View.{view_of}
use Rattle.pages.specs.declared.view.PageView.{PageView}
use Rattle.inspector.specs.declared.filling.Filling.{Filling}
use Rattle.inspector.specs.Filling.{nothing, page_filling, filling_by, both, summed, IsWithin, fragmentation_line}

-- a free page, one of another class, and one of the class
module _ (class inside : ℕ) where
  pub none_filling : (o : Option Page) → None ≡ view_of o → nothing ≡ filling_by class o inside
  none_filling None e = refl
  none_filling (Some p) e = absurd (cc)

  same_view : {a b : PageView} → Some a ≡ Some b → a ≡ b
  same_view e = cc

  pub class_told : (p : Page) (v : PageView) → Some v ≡ view_of (Some p) → p.class ≡ v.class
  class_told p v e = sym (ap (λ (x : PageView). x.class) (same_view e))

  chosen : (p : Page) (b : Bool) → (p.class == class) ≡ b → filling_by class (Some p) inside ≡ (if b then page_filling class (allocated_on (Some p)) inside else nothing)
  chosen p b e = ap (λ (x : Bool). if x then page_filling class (allocated_on (Some p)) inside else nothing) e

  pub other_filling : (o : Option Page) (v : PageView) → Some v ≡ view_of o → (v.class == class) ≡ false → nothing ≡ filling_by class o inside
  other_filling None v e f = absurd (cc)
  other_filling (Some p) v e f = sym (chosen p false (ap (λ n. n == class) (class_told p v e) ∙ f))

  pub page_told : (o : Option Page) (v : PageView) → Some v ≡ view_of o → (v.class == class) ≡ true → page_filling class v.allocated inside ≡ filling_by class o inside
  page_told None v e f = absurd (cc)
  page_told (Some p) v e f =
      ap (λ n. page_filling class n inside) (ap (λ (x : PageView). x.allocated) (same_view e)) ∙ sym (chosen p true (ap (λ n. n == class) (class_told p v e) ∙ f))

-- bounds
pub within_more : (f : Filling) (m n : ℕ) → IsWithin f m → m ≤ n → IsWithin f n
within_more f m n w l = record {
  pages = omega (arith, w.pages, l);
  allocated = omega (arith, w.allocated, l);
  free = omega (arith, w.free, l);
  inside = omega (arith, w.inside, l);
  behind = omega (arith, w.behind, l);
  spare = omega (arith, w.spare, l);
}

pub nothing_within : (f : Filling) (m : ℕ) → f ≡ nothing → IsWithin f m
nothing_within f m e = record {
  pages = omega (arith, ap (λ (x : Filling). x.pages) e);
  allocated = omega (arith, ap (λ (x : Filling). x.allocated) e);
  free = omega (arith, ap (λ (x : Filling). x.free) e);
  inside = omega (arith, ap (λ (x : Filling). x.inside) e);
  behind = omega (arith, ap (λ (x : Filling). x.behind) e);
  spare = omega (arith, ap (λ (x : Filling). x.spare) e);
}

pub both_within : (a b c : Filling) (m n : ℕ) → c ≡ both a b → IsWithin a m → IsWithin b n → IsWithin c (m + n)
both_within a b c m n e v w = record {
  pages = omega (arith, ap (λ (x : Filling). x.pages) e, v.pages, w.pages);
  allocated = omega (arith, ap (λ (x : Filling). x.allocated) e, v.allocated, w.allocated);
  free = omega (arith, ap (λ (x : Filling). x.free) e, v.free, w.free);
  inside = omega (arith, ap (λ (x : Filling). x.inside) e, v.inside, w.inside);
  behind = omega (arith, ap (λ (x : Filling). x.behind) e, v.behind, w.behind);
  spare = omega (arith, ap (λ (x : Filling). x.spare) e, v.spare, w.spare);
}

-- sums
module _ (each : ℕ → Filling) where
  pub summed_none : nothing ≡ summed each 0
  unfolding summed
  summed_none = refl

  summed_next : (n : ℕ) → summed each (n + 1) ≡ both (summed each n) (each n)
  unfolding summed
  summed_next n = rw add-one refl

  pub one_more : (n : ℕ) (was more now : Filling) → was ≡ summed each n → more ≡ each n → now ≡ both was more → now ≡ summed each (n + 1)
  one_more n was more now ew em en = en ∙ ap (λ f. both f more) ew ∙ ap (both (summed each n)) em ∙ sym (summed_next n)

-- three words with their numbers, put one behind the other
pub three : (b y c z : List ℕ) {a t1 t2 t3 : List ℕ} → t1 ≡ a → t2 ≡ t1 ++ (b ++ y) → t3 ≡ t2 ++ (c ++ z) → t3 ≡ a ++ b ++ y ++ c ++ z
three b y c z {a} {t1} {t2} first second third =
    third ∙ sym (append_assoc t2 c z) ∙ ap (λ t. t ++ c ++ z) (second ∙ sym (append_assoc t1 b y) ∙ ap (λ t. t ++ b ++ y) first)

-- the line of the words that are lost, by the words that the code puts
pub fragmentation_told : (f : Filling) (words : ℕ) {t1 t2 t3 : List ℕ} → words ≡ PAGE_WORDS → t1 ≡ codes "words " ++ decimal (words * f.pages)
    → t2 ≡ t1 ++ (codes " internal fragmentation " ++ decimal (f.inside + f.behind)) → t3 ≡ t2 ++ (codes " external fragmentation " ++ decimal f.spare) → t3 ≡ fragmentation_line f
fragmentation_told f words is first second third =
    three (codes " internal fragmentation ") (decimal (f.inside + f.behind)) (codes " external fragmentation ") (decimal f.spare)
    (first ∙ ap (λ n. codes "words " ++ decimal (n * f.pages)) is) second third
