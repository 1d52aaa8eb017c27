-- More pages have their words, which are 0.
use Rattle.std.proofs.Common.{◌≡◌, ℕ, ◌+◌, ◌*◌, ◌<◌, ◌-◌, ◌≤◌, List, ◌++◌, length, get_or, min, Option, Some, None, ◌∙◌, sym, subst, inl, inr, arith, refl, replicate}
use Rattle.std.specs.Prelude.{IfSome}
use Rattle.std.proofs.lemmas.Bool.{cases_lt}
use Rattle.std.proofs.lemmas.List.{get_or_append_left, get_or-append_right, get_or-replicate, get_or_past, length-append, length-replicate, same_lists}
use Rattle.size_classes.specs.Sizes.{size_of, blocks_in}
use Rattle.heap_model.specs.Pages.{Page}
use Rattle.pages.specs.declared.page.PageRow.{PageRow}
use Rattle.pages.specs.FreeList.{flags_of, RunsFree}
use Rattle.pages.specs.Index.{row_at}
use Rattle.pages.specs.Together.{pages_in, Together, KeepsAllocated}
use Rattle.pages.proofs.Flags.{flags_same}
use Rattle.pages.proofs.Telling.{IsRow, length-pages, page_is, page_same}
use Rattle.pages.proofs.Threading.{runs_same}

all_same : (n k x : ℕ) → get_or (replicate n x) k x ≡ x
all_same n k x = elim (cases_lt k n) [
  | inl l ↦ get_or-replicate n k x x l
  | inr l ↦ get_or_past (replicate n x) k x (omega (arith, l, length-replicate {A = ℕ} n x))
]

-- what lies behind the last word reads as 0, before and after
pub zeros_behind : (words : List ℕ) (n k : ℕ) → get_or (words ++ replicate n 0) k 0 ≡ get_or words k 0
zeros_behind words n k = elim (cases_lt k (length words)) [
  | inl l ↦ get_or_append_left words (replicate n 0) 0 k l
  | inr l ↦ get_or-append_right words (replicate n 0) (length words) k 0 refl l ∙ all_same n (k - length words) 0 ∙ sym (get_or_past words k 0 l)
]

pub length_touched : (words : List ℕ) (n : ℕ) → length (words ++ replicate n 0) ≡ length words + n
length_touched words n = omega (arith, length-append words (replicate n 0), length-replicate {A = ℕ} n 0)

module _ (rows : List (Option PageRow)) (words : List ℕ) (n : ℕ) (new : List ℕ) (is : new ≡ words ++ replicate n 0) (t : Together rows words) where
  same : (k : ℕ) → get_or new k 0 ≡ get_or words k 0
  same k = subst (λ (l : List ℕ). get_or l k 0 ≡ get_or words k 0) (sym is) (zeros_behind words n k)

  more : length new ≡ length words + n
  more = subst (λ (l : List ℕ). length l ≡ length words + n) (sym is) (length_touched words n)

  pub touched_pages : pages_in rows new ≡ pages_in rows words
  touched_pages =
      same_lists (pages_in rows new) (pages_in rows words) (length-pages rows new ∙ sym (length-pages rows words))
      (λ k d h. let below : k < length rows = omega (arith, h, length-pages rows new) in
      page_is rows new k d below ∙ page_same words new (2048 * k) (row_at rows k) (λ i _. same (2048 * k + i)) (t.classes k) ∙ sym (page_is rows words k d below))

  list_stays : (at : ℕ) (o : Option PageRow) → IsRow words at o → IsRow new at o
  list_stays at None h = tt
  list_stays at (Some r) h = record {
    free = h.free;
    counted = h.counted;
    runs = subst (λ f. RunsFree new at (size_of r.class) h.free f r.first) (sym (flags_same words new at (size_of r.class) (blocks_in r.class) (λ i _. same (at + i * size_of r.class))))
        (runs_same words new at (size_of r.class) h.free (flags_of words at r.class) r.first (λ i _. same (at + i * size_of r.class + 3)) h.runs);
  }

  words_stay : (m : ℕ) (o : Option PageRow) → IfSome o (λ _. m ≤ length words) → IfSome o (λ _. m ≤ length new)
  words_stay m None h = tt
  words_stay m (Some r) h = omega (arith, h, more)

  pub touched_keeps : KeepsAllocated (pages_in rows words) words new
  touched_keeps = record { len = omega (arith, more); each = λ k p i j _ _ _. same (2048 * k + i * size_of p.class + j) }

-- the first pages, this many or all
module _ (rows : List (Option PageRow)) (words : List ℕ) (first pages : ℕ) (new : List ℕ) (is : new ≡ words ++ replicate (2048 * min first pages - length words) 0) (t : Together rows words) (all : pages ≡ length rows) where
  longer : length new ≡ length words + (2048 * min first pages - length words)
  longer = more rows words (2048 * min first pages - length words) new is t

  pub first_together : Together rows new
  first_together = record {
    present = λ k. words_stay rows words (2048 * min first pages - length words) new is t (2048 * k + 2048) (row_at rows k) (t.present k);
    within = omega (arith, longer, t.within, all);
    classes = t.classes;
    each = λ k. list_stays rows words (2048 * min first pages - length words) new is t (2048 * k) (row_at rows k) (t.each k);
  }

  pub first_pages : pages_in rows new ≡ pages_in rows words
  first_pages = touched_pages rows words (2048 * min first pages - length words) new is t

  pub first_keeps : KeepsAllocated (pages_in rows words) words new
  first_keeps = touched_keeps rows words (2048 * min first pages - length words) new is t

  pub has_words : (page : ℕ) → page < first → page < length rows → 2048 * page + 2048 ≤ length new
  has_words page l below = omega (arith, longer, all, l, below)

-- words that stayed twice
pub keeps_then : (pages : List (Option Page)) (words mid new : List ℕ) → KeepsAllocated pages words mid → KeepsAllocated pages mid new → KeepsAllocated pages words new
keeps_then pages words mid new one two = record { len = omega (arith, one.len, two.len); each = λ k p i j at h l. two.each k p i j at h l ∙ one.each k p i j at h l }
