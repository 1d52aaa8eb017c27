-- The words of allocated blocks, and writes of them, with the records.
use Rattle.std.proofs.Common.{◌≡◌, ℕ, ◌+◌, ◌-◌, ◌*◌, ◌/◌, ◌%◌, ◌<◌, ◌≤◌, true, false, not, eqb, List, Option, Some, length, get_or, set, ap, ◌∙◌, sym, subst, arith, refl, length-set, inl, inr}
use Rattle.std.specs.Prelude.{slice_get}
use Rattle.std.proofs.lemmas.Bool.{ne_eqb}
use Rattle.std.proofs.lemmas.Grind.{common_steps}
use Rattle.std.proofs.lemmas.List.{get_or-set_same, get_or-set_other}
use Rattle.std.proofs.lemmas.Option.{slice_get_within, slice_get-get_or, get_or_from_slice_get}
use Rattle.size_classes.specs.Sizes.{size_of, blocks_in}
use Rattle.heap_model.specs.Block.{record_in, spliced}
use Rattle.heap_model.specs.Action.{KeepsBlocks}
use Rattle.heap_model.specs.Pages.{Page, page_at}
use Rattle.heap_model.specs.Store.{Store, IsStore, size_in, size_at, is_allocated, record_of}
use Rattle.headers.proofs.Fresh.{words_at-there, length-spliced, spliced_other}
use Rattle.pages.specs.declared.page.PageRow.{PageRow}
use Rattle.pages.specs.FreeList.{flags_of, free_mark}
use Rattle.pages.specs.Index.{row_at}
use Rattle.pages.specs.Together.{joined, pages_in, Together, KeepsAllocated, Tells}
use Rattle.pages.proofs.Telling.{length-pages}
use Rattle.pages.proofs.Writing.{WritesBlock, allocated_place, write_keeps, write_same}
use Rattle.pages.proofs.Flags.{get_flag, length-flags}
use Rattle.nodes.specs.Joined.{IsHeader, AreBlockRecords}
use Rattle.nodes.proofs.Headers.{header_after}
use Rattle.nodes.proofs.Places.{allocated_in-page, flag_within, inside, placed}

-- as many words, or more
pub still_store : (pages : List (Option Page)) (words new : List ℕ) → length words ≤ length new → IsStore (record { pages = pages; words = words }) → IsStore (record { pages = pages; words = new })
still_store pages words new e s = record { pages = s.pages; words = λ k p at. (let w : 2048 * k + 2048 ≤ length words = s.words k p at in omega (arith, w, e)); few = s.few }

-- what the records tell, of the value t as which the fields are seen
pub told : (rows : List (Option PageRow)) (words : List ℕ) (t : Store) → joined rows words ≡ t → AreBlockRecords rows words → {X : Type 0} (f : List (Option Page) → X) (v : X) → Tells rows (λ pages. v ≡ f pages) → v ≡ f t.pages
told rows words t is are f v tells = tells words are.together ∙ ap (λ (x : Store). f x.pages) is

pub count_by : (rows : List (Option PageRow)) (words : List ℕ) (t : Store) → joined rows words ≡ t → length rows ≡ length t.pages
count_by rows words t is = sym (length-pages rows words) ∙ ap (λ (x : Store). length x.pages) is

pub below_by : (rows : List (Option PageRow)) (words : List ℕ) (t : Store) → joined rows words ≡ t → (page : ℕ) → page < length t.pages → page < length rows
below_by rows words t is page h = omega (arith, h, count_by rows words t is)

-- The words of allocated blocks stayed.
module _ (pages : List (Option Page)) (words new : List ℕ) (kept : KeepsAllocated pages words new) (b : ℕ) (allocated : is_allocated (record { pages = pages; words = words }) b ≡ true) where
  pub word_kept : (j : ℕ) → j < size_at (record { pages = pages; words = words }) b → get_or new (b + j) 0 ≡ get_or words (b + j) 0
  unfolding size_at is_allocated
  word_kept j within =
      let f = allocated_in-page (page_at pages (b / 2048)) (b % 2048) allocated in
      let size = size_of f.page.class in
      let i = b % 2048 / size in
      let flag : slice_get f.page.allocated i ≡ Some true = slice_get-get_or f.page.allocated i false (flag_within f.page.allocated i f.flag) ∙ ap Some f.flag in
      let place : b ≡ 2048 * (b / 2048) + i * size = placed b (b / 2048) (b % 2048) size refl refl f.whole in
      let small : j < size = omega (arith, within, ap size_in f.is) in
      ap (λ n. get_or new (n + j) 0) place ∙ kept.each (b / 2048) f.page i j f.is flag small ∙ ap (λ n. get_or words (n + j) 0) (sym place)

  -- an allocated block says what it said
  pub node_kept : IsStore (record { pages = pages; words = words }) → record_of (record { pages = pages; words = new }) b ≡ record_of (record { pages = pages; words = words }) b
  unfolding record_of size_at
  node_kept whole =
      let fits : b + size_at (record { pages = pages; words = words }) b ≤ length words = inside (record { pages = pages; words = words }) b whole allocated in
      ap record_in (words_at-there new words b (size_at (record { pages = pages; words = words }) b) (omega (arith, fits, kept.len)) fits
      (λ n low high. let at : n ≡ b + (n - b) = omega (arith, low) in ap (λ m. get_or new m 0) at ∙ word_kept (n - b) (omega (arith, low, high)) ∙ ap (λ m. get_or words m 0) (sym at)))

-- The same blocks are allocated, with the same words.
pub same_headers : (rows : List (Option PageRow)) (words : List ℕ) (t : Store) → joined rows words ≡ t → AreBlockRecords rows words → (new : Store) → KeepsBlocks t new → (b : ℕ) → is_allocated new b ≡ true → IsHeader (get_or words (b + 1) 0)
same_headers rows words t is are new kept b allocated = are.headers b (ap (λ (x : Store). is_allocated x b) is ∙ sym (kept.allocated b) ∙ allocated)

-- an allocated block, by the record of its page
pub record AllocatedBlock (rows : List (Option PageRow)) (words : List ℕ) (a : ℕ) : Type 0 where
  pub row : PageRow
  pub row_is : row_at rows (a / 2048) ≡ Some row
  pub below : a / 2048 < length rows
  pub index : ℕ
  pub flag : slice_get (flags_of words (2048 * (a / 2048)) row.class) index ≡ Some true
  pub place : 2048 * (a / 2048) + index * size_of row.class ≡ a
  pub size : size_at (joined rows words) a ≡ size_of row.class

pub allocated_block : (rows : List (Option PageRow)) (words : List ℕ) (a : ℕ) → is_allocated (joined rows words) a ≡ true → AllocatedBlock rows words a
unfolding is_allocated size_at
allocated_block rows words a h =
    let f = allocated_in-page (page_at (pages_in rows words) (a / 2048)) (a % 2048) h in
    let i = a % 2048 / size_of f.page.class in
    let flag : slice_get f.page.allocated i ≡ Some true = slice_get-get_or f.page.allocated i false (flag_within f.page.allocated i f.flag) ∙ ap Some f.flag in
    let p = allocated_place rows words (a / 2048) f.page i f.is flag in
    let e : size_of f.page.class ≡ size_of p.row.class = ap size_of p.class_is in
    record {
      row = p.row;
      row_is = p.row_is;
      below = p.below;
      index = i;
      flag = p.flag;
      place = ap (λ n. 2048 * (a / 2048) + i * n) (sym e) ∙ sym (placed a (a / 2048) (a % 2048) (size_of f.page.class) refl refl f.whole);
      size = ap size_in f.is ∙ e;
    }

-- an allocated block's first word isn't the mark
pub first_allocated : (rows : List (Option PageRow)) (words : List ℕ) (a : ℕ) → AllocatedBlock rows words a → not (eqb (get_or words a 0) free_mark) ≡ true
first_allocated rows words a h =
    let at = 2048 * (a / 2048) in
    let flags = flags_of words at h.row.class in
    let w = slice_get_within flags h.index true h.flag in
    let below : h.index < blocks_in h.row.class = omega (arith, w, length-flags words at (size_of h.row.class) (blocks_in h.row.class)) in
    ap (λ n. not (eqb (get_or words n 0) free_mark)) (sym h.place) ∙ sym (get_flag words at (size_of h.row.class) (blocks_in h.row.class) h.index true below) ∙ get_or_from_slice_get flags h.index true true h.flag

-- an address isn't the mark
pub no_mark : (v : ℕ) → v ≤ 2147483648 → not (eqb v free_mark) ≡ true
unfolding free_mark
no_mark v h = ap not (ne_eqb v 18446744073709551615 (λ e. absurd (omega (arith, h, e))))

-- writes of a block
pub writes_later : (words new : List ℕ) (a size k v : ℕ) → not (eqb (get_or words a 0) free_mark) ≡ true → 0 < k → k < size → new ≡ set words (a + k) v → WritesBlock words new a size
writes_later words new a size k v allocated some within is = record {
  len = ap (λ w. length w) is ∙ length-set words (a + k) v;
  below = λ n h. ap (λ w. get_or w n 0) is ∙ get_or-set_other words (a + k) n v 0 (omega (arith, h));
  above = λ n h. ap (λ w. get_or w n 0) is ∙ get_or-set_other words (a + k) n v 0 (omega (arith, h, within));
  allocated = ap (λ w. not (eqb (get_or w a 0) free_mark)) is ∙ ap (λ n. not (eqb n free_mark)) (get_or-set_other words (a + k) a v 0 (omega (arith, some))) ∙ allocated;
}

pub writes_first : (words new : List ℕ) (a size v : ℕ) → v ≤ 2147483648 → 0 < size → a < length words → new ≡ set words a v → WritesBlock words new a size
writes_first words new a size v small some within is = record {
  len = ap (λ w. length w) is ∙ length-set words a v;
  below = λ n h. ap (λ w. get_or w n 0) is ∙ get_or-set_other words a n v 0 (omega (arith, h));
  above = λ n h. ap (λ w. get_or w n 0) is ∙ get_or-set_other words a n v 0 (omega (arith, h, some));
  allocated = ap (λ w. not (eqb (get_or w a 0) free_mark)) is ∙ ap (λ n. not (eqb n free_mark)) (get_or-set_same words a v 0 within) ∙ no_mark v small;
}

pub word_spliced : (words others : List ℕ) (a k : ℕ) → a + length others ≤ length words → k < length others → get_or (spliced words a others) (a + k) 0 ≡ get_or others k 0
word_spliced words others a k h within = grind (arith, common_steps)

pub writes_spliced : (words new others : List ℕ) (a size : ℕ) → a + length others ≤ length words → 0 < length others → length others ≤ size → get_or others 0 0 ≤ 2147483648 → new ≡ spliced words a others → WritesBlock words new a size
writes_spliced words new others a size fit some within small is = record {
  len = ap (λ w. length w) is ∙ length-spliced words others a fit;
  below = λ n h. ap (λ w. get_or w n 0) is ∙ spliced_other words others a n fit (inl h);
  above = λ n h. ap (λ w. get_or w n 0) is ∙ spliced_other words others a n fit (inr (omega (arith, h, within)));
  allocated = ap (λ w. not (eqb (get_or w a 0) free_mark)) is ∙ ap (λ n. not (eqb n free_mark)) (ap (λ n. get_or (spliced words a others) n 0) (let e : a ≡ a + 0 = omega arith in e) ∙ word_spliced words others a 0 fit some) ∙ no_mark (get_or others 0 0) small;
}

-- a write of an allocated block keeps the records and the words together
module _ (rows : List (Option PageRow)) (words new : List ℕ) (t : Together rows words) (a : ℕ) (h : AllocatedBlock rows words a) (w : WritesBlock words new a (size_of h.row.class)) where
  there : WritesBlock words new (2048 * (a / 2048) + h.index * size_of h.row.class) (size_of h.row.class)
  there = subst (λ n. WritesBlock words new n (size_of h.row.class)) (sym h.place) w

  pub still_together : Together rows new
  still_together = write_keeps rows words new t (a / 2048) h.below h.row h.row_is h.index h.flag there

  pub same_pages : pages_in rows new ≡ pages_in rows words
  same_pages = write_same rows words new t (a / 2048) h.below h.row h.row_is h.index h.flag there

  pub through : (P : Store → Type 0) → P (record { pages = pages_in rows words; words = new }) → P (joined rows new)
  through P p = subst (λ g. P (record { pages = g; words = new })) (sym same_pages) p

  pub still_nodes : AreBlockRecords rows words → is_allocated (joined rows words) a ≡ true → IsHeader (get_or new (a + 1) 0) → AreBlockRecords rows new
  unfolding is_allocated
  still_nodes are allocated header = record {
    whole = through IsStore (still_store (pages_in rows words) words new (omega (arith, w.len)) are.whole);
    together = still_together;
    headers = through (λ s. (b : ℕ) → is_allocated s b ≡ true → IsHeader (get_or new (b + 1) 0))
        (λ b other. header_after (pages_in rows words) words new are.whole a (size_of h.row.class) h.size allocated w header b other (λ ne. are.headers b other));
  }
