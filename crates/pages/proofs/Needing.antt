-- The pages that the first classes need, added up.
use Rattle.std.proofs.Common.{◌≡◌, ℕ, ◌+◌, ◌-◌, ◌*◌, ◌/◌, ◌%◌, ◌<◌, ◌≤◌, ◌^◌, List, Option, min, ap, ◌∙◌, arith, add-one, leb, slice_index}
use Rattle.std.specs.Int.{div_ceil}
use Rattle.std.proofs.lemmas.Grind.{common_steps}
use Rattle.size_classes.specs.declared.class.TheConstants.{CLASSES}
use Rattle.size_classes.specs.Sizes.{blocks_in}
use Rattle.heap_model.specs.Pages.{free_blocks, free_pages, has_room, whole_pages, pages_needed}
use Rattle.pages.specs.declared.page.PageRow.{PageRow}
use Rattle.pages.specs.Together.{pages_in, Tells}

pub record Needs (rows : List (Option PageRow)) (need : ℕ → ℕ) (classes sum : ℕ) : Type 0 where
  pub sum_is : Tells rows (λ pages. sum ≡ pages_needed pages need classes)
  pub few : sum ≤ classes * 2 ^ 32

-- one class more, as the code knows it
pub needs_by : (rows : List (Option PageRow)) (need : List ℕ) (number class sum blocks more : ℕ) → Needs rows (λ k. slice_index need k) number sum → class ≡ number → blocks ≡ slice_index need class
    → Tells rows (λ pages. more ≡ whole_pages class (blocks - free_blocks pages class)) → more ≤ 2 ^ 32 → Needs rows (λ k. slice_index need k) (number + 1) (sum + more)
needs_by rows need number class sum blocks more k is read e h = record {
  sum_is = λ words t.
      let pages = pages_in rows words in
      let more_is = e words t ∙ ap (λ n. whole_pages class (n - free_blocks pages class)) read ∙ ap (λ n. whole_pages n (slice_index need n - free_blocks pages n)) is in
      rw (add-one number) (ap (λ n. n + more) (k.sum_is words t) ∙ ap (λ n. pages_needed pages (λ k. slice_index need k) number + n) more_is);
  few = omega (arith, k.few, h);
}

pub room_by : (rows : List (Option PageRow)) (need : ℕ → ℕ) (number sum free : ℕ) → Needs rows need number sum → number ≡ CLASSES → Tells rows (λ pages. free ≡ free_pages pages) → Tells rows (λ pages. leb sum free ≡ has_room pages need)
room_by rows need number sum free k is e = λ words t. let pages = pages_in rows words in ap (λ n. leb n free) (k.sum_is words t ∙ ap (pages_needed pages need) is) ∙ ap (leb (pages_needed pages need CLASSES)) (e words t)

round_up : (a b : ℕ) → 0 < b → a / b + min 1 (a % b) ≡ (a + (b - 1)) / b
round_up a b some = grind (arith, common_steps)

pub rounded_up : (missing blocks class pages : ℕ) → blocks ≡ blocks_in class → 0 < blocks → pages ≡ div_ceil missing blocks → pages ≡ whole_pages class missing
rounded_up missing blocks class pages e some is = is ∙ round_up missing blocks some ∙ ap (λ n. (missing + (n - 1)) / n) e
