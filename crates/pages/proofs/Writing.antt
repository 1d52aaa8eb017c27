-- Words are written, and the pages stay or change as they do.
use Rattle.std.proofs.Common.{◌≡◌, ◌≢◌, ℕ, ◌+◌, ◌*◌, ◌<◌, ◌≤◌, Bool, true, false, not, eqb, List, [], length, get_or, set, Option, Some, None, ap, ◌∙◌, sym, refl, subst, inl, inr, arith, replicate}
use Rattle.std.specs.Prelude.{IfSome, slice_get}
use Rattle.std.proofs.lemmas.Bool.{cases_eq, cases_lt}
use Rattle.std.proofs.lemmas.List.{length-set, get_or-set_same, get_or-set_other, set-get_or, get_or_past}
use Rattle.std.proofs.lemmas.Option.{slice_get_within, slice_get-get_or, get_or_from_slice_get, none-some, same_Some}
use Rattle.size_classes.specs.declared.class.TheConstants.{CLASSES}
use Rattle.size_classes.proofs.Table.{size_low}
use Rattle.size_classes.specs.Sizes.{size_of, blocks_in}
use Rattle.heap_model.specs.Pages.{Page, page_at}
use Rattle.pages.specs.declared.page.PageRow.{PageRow}
use Rattle.pages.specs.FreeList.{flags_of, free_mark, RunsFree, IsFreeList, SameOutside}
use Rattle.pages.specs.Index.{row_at}
use Rattle.pages.specs.Together.{page_by, pages_in, Together, KeepsAllocated}
use Rattle.pages.proofs.Indexing.{row_none}
use Rattle.pages.proofs.Threading.{runs_same}
use Rattle.pages.proofs.Flags.{flags_set, apart, spaced, block_fits, length-flags}
use Rattle.pages.proofs.Telling.{length-pages, page_is, IsRow, together_changed, pages_changed, page_read, words_present, inside_page, outside_one}

-- ---- words of allocated blocks
pub record AllocatedPlace (rows : List (Option PageRow)) (words : List ℕ) (k : ℕ) (p : Page) (i : ℕ) : Type 0 where
  pub row : PageRow
  pub row_is : row_at rows k ≡ Some row
  pub class_is : p.class ≡ row.class
  pub flag : slice_get (flags_of words (2048 * k) row.class) i ≡ Some true
  pub below : k < length rows

pub allocated_place : (rows : List (Option PageRow)) (words : List ℕ) (k : ℕ) (p : Page) (i : ℕ) → page_at (pages_in rows words) k ≡ Some p → slice_get p.allocated i ≡ Some true → AllocatedPlace rows words k p i
allocated_place rows words k p i at h =
    let below : k < length rows = elim (cases_lt k (length rows)) [ inl l ↦ l | inr l ↦ absurd (let e = get_or_past (pages_in rows words) k None (omega (arith, l, length-pages rows words)) in none-some p (sym e ∙ at)) ] in
    by_row (row_at rows k) refl below (sym (page_is rows words k None below) ∙ at)
  where
    by_row : (o : Option PageRow) → row_at rows k ≡ o → k < length rows → page_by words (2048 * k) (row_at rows k) ≡ Some p → AllocatedPlace rows words k p i
    by_row None e l is = absurd (none-some p (ap (page_by words (2048 * k)) (sym e) ∙ is))
    by_row (Some r) e l is =
        let q : Page = record { class = r.class; evacuating = r.evacuating; is_target = r.is_target; allocated = flags_of words (2048 * k) r.class } in
        let same : q ≡ p = same_Some q p (ap (page_by words (2048 * k)) (sym e) ∙ is) in
        record { row = r; row_is = e; class_is = sym (ap (λ (x : Page). x.class) same); flag = subst (λ (x : Page). slice_get x.allocated i ≡ Some true) (sym same) h; below = l }

-- only words of a free block are written
pub keeps_but : (rows : List (Option PageRow)) (flagged words new : List ℕ) (page : ℕ) (old : PageRow) (index : ℕ) → ((k : ℕ) → IfSome (row_at rows k) (λ r. r.class < CLASSES)) → row_at rows page ≡ Some old
    → slice_get (flags_of flagged (2048 * page) old.class) index ≡ Some false → length new ≡ length words
    → ((n : ℕ) → ((d : ℕ) → d < size_of old.class → n ≢ 2048 * page + index * size_of old.class + d) → get_or new n 0 ≡ get_or words n 0) → KeepsAllocated (pages_in rows flagged) words new
keeps_but rows flagged words new page old index classes there free len same = record {
  len = omega (arith, len);
  each = λ k p i j at h l. by_place k p i j (allocated_place rows flagged k p i at h) l;
} where
  by_place : (k : ℕ) (p : Page) (i j : ℕ) → AllocatedPlace rows flagged k p i → j < size_of p.class → get_or new (2048 * k + i * size_of p.class + j) 0 ≡ get_or words (2048 * k + i * size_of p.class + j) 0
  by_place k p i j q l =
      let known : q.row.class < CLASSES = subst (λ o. IfSome o (λ r. r.class < CLASSES)) q.row_is (classes k) in
      let w = slice_get_within (flags_of flagged (2048 * k) q.row.class) i true q.flag in
      let f = block_fits q.row.class i (omega (arith, w, length-flags flagged (2048 * k) (size_of q.row.class) (blocks_in q.row.class))) in
      let w' = slice_get_within (flags_of flagged (2048 * page) old.class) index false free in
      let f' = block_fits old.class index (omega (arith, w', length-flags flagged (2048 * page) (size_of old.class) (blocks_in old.class))) in
      let size : size_of p.class ≡ size_of q.row.class = ap size_of q.class_is in
      let l' : j < size_of q.row.class = subst (λ n. j < n) size l in
      subst (λ n. get_or new (2048 * k + i * n + j) 0 ≡ get_or words (2048 * k + i * n + j) 0) (sym size)
      (same (2048 * k + i * size_of q.row.class + j) (λ d m. elim (cases_eq k page) [
        | inl e ↦
            (let row : q.row ≡ old = same_Some q.row old (sym q.row_is ∙ ap (row_at rows) e ∙ there) in
            let s : size_of q.row.class ≡ size_of old.class = ap (λ (r : PageRow). size_of r.class) row in
            let flag : slice_get (flags_of flagged (2048 * page) old.class) i ≡ Some true = subst (λ n. slice_get (flags_of flagged (2048 * n) old.class) i ≡ Some true) e (subst (λ (r : PageRow). slice_get (flags_of flagged (2048 * k) r.class) i ≡ Some true) row q.flag) in
            let ne : i ≢ index = λ x. absurd (let y : slice_get (flags_of flagged (2048 * page) old.class) index ≡ Some true = subst (λ n. slice_get (flags_of flagged (2048 * page) old.class) n ≡ Some true) x flag in cc) in
            let a = apart (2048 * page) (size_of old.class) i index j d (subst (λ n. j < n) s l') m ne in
            subst (λ n. 2048 * n + i * size_of q.row.class + j ≢ 2048 * page + index * size_of old.class + d) (sym e)
            (subst (λ n. 2048 * page + i * n + j ≢ 2048 * page + index * size_of old.class + d) (sym s) a))
        | inr ne ↦ (λ x. elim (cases_lt k page) [ inl o ↦ absurd (omega (arith, o, x, f, l', f', m)) | inr o ↦ absurd (omega (arith, o, x, f, l', f', m, ne)) ])
      ]))

-- a free block's first word is written
pub keeps_one : (rows : List (Option PageRow)) (words new : List ℕ) (page : ℕ) (old : PageRow) (index v : ℕ) → ((k : ℕ) → IfSome (row_at rows k) (λ r. r.class < CLASSES)) → row_at rows page ≡ Some old
    → slice_get (flags_of words (2048 * page) old.class) index ≡ Some false → new ≡ set words (2048 * page + index * size_of old.class) v → KeepsAllocated (pages_in rows words) words new
keeps_one rows words new page old index v classes there free is =
    let a = 2048 * page + index * size_of old.class in
    let low : 4 ≤ size_of old.class = size_low old.class (subst (λ o. IfSome o (λ r. r.class < CLASSES)) there (classes page)) in
    keeps_but rows words words new page old index classes there free (ap (λ w. length w) is ∙ length-set words a v)
    (λ n other. ap (λ x. get_or x n 0) is ∙ get_or-set_other words a n v 0 (λ e. other 0 (omega (arith, low)) (omega (arith, e))))

-- a block was taken off the list of a page
module _ (rows : List (Option PageRow)) (words new : List ℕ) (classes : (k : ℕ) → IfSome (row_at rows k) (λ r. r.class < CLASSES)) (page : ℕ) (old : PageRow) (there : row_at rows page ≡ Some old) (index v : ℕ)
    (free : slice_get (flags_of words (2048 * page) old.class) index ≡ Some false) (is : new ≡ set words (2048 * page + index * size_of old.class) v) where
  pub popped_outside : SameOutside words new (2048 * page)
  popped_outside =
      let known : old.class < CLASSES = subst (λ o. IfSome o (λ r. r.class < CLASSES)) there (classes page) in
      let w = inside_page words page old.class index false known free in
      outside_one words new (2048 * page) _ _ is (omega arith) (omega (arith, w))

  pub popped_keeps : KeepsAllocated (pages_in rows words) words new
  popped_keeps = keeps_one rows words new page old index v classes there free is

pub freed_flag : (flags : List Bool) (i : ℕ) → i < length flags → slice_get (set flags i false) i ≡ Some false
freed_flag flags i h = slice_get-get_or (set flags i false) i false (omega (arith, h, length-set flags i false)) ∙ ap Some (get_or-set_same flags i false false h)

-- a block is freed: its first word and its link are written
pub keeps_freed : (rows : List (Option PageRow)) (words new : List ℕ) (page : ℕ) (old : PageRow) (index v link : ℕ) → ((k : ℕ) → IfSome (row_at rows k) (λ r. r.class < CLASSES)) → row_at rows page ≡ Some old
    → slice_get (flags_of new (2048 * page) old.class) index ≡ Some false → new ≡ set (set words (2048 * page + index * size_of old.class) v) (2048 * page + index * size_of old.class + 3) link → KeepsAllocated (pages_in rows new) words new
keeps_freed rows words new page old index v link classes there free is =
    let a = 2048 * page + index * size_of old.class in
    let low : 4 ≤ size_of old.class = size_low old.class (subst (λ o. IfSome o (λ r. r.class < CLASSES)) there (classes page)) in
    keeps_but rows new words new page old index classes there free (ap (λ w. length w) is ∙ length-set (set words a v) (a + 3) link ∙ length-set words a v)
    (λ n other. ap (λ x. get_or x n 0) is ∙ get_or-set_other (set words a v) (a + 3) n link 0 (other 3 (omega (arith, low))) ∙ get_or-set_other words a n v 0 (λ e. other 0 (omega (arith, low)) (omega (arith, e))))

-- ---- an allocated block is written
pub record WritesBlock (words new : List ℕ) (block size : ℕ) : Type 0 where
  pub len : length new ≡ length words
  pub below : (k : ℕ) → k < block → get_or new k 0 ≡ get_or words k 0
  pub above : (k : ℕ) → block + size ≤ k → get_or new k 0 ≡ get_or words k 0
  pub allocated : not (eqb (get_or new block 0) free_mark) ≡ true

module _ (rows : List (Option PageRow)) (words new : List ℕ) (t : Together rows words) (page : ℕ) (below : page < length rows) (row : PageRow) (there : row_at rows page ≡ Some row) (index : ℕ)
    (allocated : slice_get (flags_of words (2048 * page) row.class) index ≡ Some true) (w : WritesBlock words new (2048 * page + index * size_of row.class) (size_of row.class)) where
  row_known' : row.class < CLASSES
  row_known' = subst (λ o. IfSome o (λ r. r.class < CLASSES)) there (t.classes page)

  low' : 4 ≤ size_of row.class
  low' = size_low row.class row_known'

  within' : index < blocks_in row.class
  within' = let x = slice_get_within (flags_of words (2048 * page) row.class) index true allocated in omega (arith, x, length-flags words (2048 * page) (size_of row.class) (blocks_in row.class))

  -- a word of another block stays
  other_word : (i a : ℕ) → i ≢ index → a < size_of row.class → get_or new (2048 * page + i * size_of row.class + a) 0 ≡ get_or words (2048 * page + i * size_of row.class + a) 0
  other_word i a ne h = elim (cases_lt i index) [
    | inl l ↦ (let s = spaced i index (size_of row.class) l in w.below (2048 * page + i * size_of row.class + a) (omega (arith, s, h)))
    | inr l ↦ (let s = spaced index i (size_of row.class) (omega (arith, l, ne)) in w.above (2048 * page + i * size_of row.class + a) (omega (arith, s)))
  ]

  same_flags : flags_of new (2048 * page) row.class ≡ flags_of words (2048 * page) row.class
  same_flags =
      flags_set words new (2048 * page) (size_of row.class) (blocks_in row.class) index true within' (λ j l ne. ap (λ n. get_or new n 0) (omega arith) ∙ other_word j 0 ne (omega (arith, low')) ∙ ap (λ n. get_or words n 0) (omega arith)) w.allocated
      ∙ ap (set (flags_of words (2048 * page) row.class) index) (sym (get_or_from_slice_get (flags_of words (2048 * page) row.class) index true true allocated)) ∙ set-get_or (flags_of words (2048 * page) row.class) index true

  chain' : IsFreeList new (2048 * page) row.class row.first row.allocated
  chain' =
      let c : IsFreeList words (2048 * page) row.class row.first row.allocated = subst (λ o. IsRow words (2048 * page) o) there (t.each page) in
      record {
        free = c.free;
        counted = c.counted;
        runs = subst (λ f. RunsFree new (2048 * page) (size_of row.class) c.free f row.first) (sym same_flags)
            (runs_same words new (2048 * page) (size_of row.class) c.free (flags_of words (2048 * page) row.class) row.first
            (λ i f. other_word i 3 (λ x. absurd (let y : slice_get (flags_of words (2048 * page) row.class) index ≡ Some false = subst (λ n. slice_get (flags_of words (2048 * page) row.class) n ≡ Some false) x f in cc)) (omega (arith, low'))) c.runs);
      }

  outside' : SameOutside words new (2048 * page)
  outside' = let f = block_fits row.class index within' in record {
    len = w.len;
    below = λ k h. w.below k (omega (arith, h));
    above = λ k h. w.above k (omega (arith, h, f));
  }

  unchanged : set rows page (Some row) ≡ rows
  unchanged = ap (set rows page) (sym there) ∙ set-get_or rows page None

  pub write_keeps : Together rows new
  write_keeps = subst (λ l. Together l new) unchanged (together_changed rows words new t page row below row_known' chain' outside' (words_present rows words t page row there))

  pub write_same : pages_in rows new ≡ pages_in rows words
  write_same =
      ap (λ l. pages_in l new) (sym unchanged) ∙ pages_changed rows words new t page row below row_known' chain' outside' (flags_of words (2048 * page) row.class) same_flags
      ∙ ap (set (pages_in rows words) page) (sym (page_read rows words page row below there)) ∙ set-get_or (pages_in rows words) page None

-- the words of a free page are written
pub keeps_outside : (rows : List (Option PageRow)) (words new : List ℕ) (page : ℕ) → ((k : ℕ) → IfSome (row_at rows k) (λ r. r.class < CLASSES)) → row_at rows page ≡ None → SameOutside words new (2048 * page) → KeepsAllocated (pages_in rows words) words new
keeps_outside rows words new page classes none out = record {
  len = omega (arith, out.len);
  each = λ k p i j at h l. by_place k p i j (allocated_place rows words k p i at h) l;
} where
  by_place : (k : ℕ) (p : Page) (i j : ℕ) → AllocatedPlace rows words k p i → j < size_of p.class → get_or new (2048 * k + i * size_of p.class + j) 0 ≡ get_or words (2048 * k + i * size_of p.class + j) 0
  by_place k p i j q l =
      let w = slice_get_within (flags_of words (2048 * k) q.row.class) i true q.flag in
      let f = block_fits q.row.class i (omega (arith, w, length-flags words (2048 * k) (size_of q.row.class) (blocks_in q.row.class))) in
      let size : size_of p.class ≡ size_of q.row.class = ap size_of q.class_is in
      let l' : j < size_of q.row.class = subst (λ n. j < n) size l in
      let ne : k ≢ page = λ e. none-some q.row (sym (ap (row_at rows) e ∙ none) ∙ q.row_is) in
      subst (λ n. get_or new (2048 * k + i * n + j) 0 ≡ get_or words (2048 * k + i * n + j) 0) (sym size) (elim (cases_lt k page) [
        | inl m ↦ out.below (2048 * k + i * size_of q.row.class + j) (omega (arith, m, f, l'))
        | inr m ↦ out.above (2048 * k + i * size_of q.row.class + j) (omega (arith, m, ne))
      ])

pub keeps_both : (rows : List (Option PageRow)) (words mid new : List ℕ) (page : ℕ) (pages : List (Option Page)) (p' : Option Page) → page < length rows → row_at rows page ≡ None → pages ≡ set (pages_in rows words) page p'
    → KeepsAllocated (pages_in rows words) words mid → KeepsAllocated pages mid new → KeepsAllocated (pages_in rows words) words new
keeps_both rows words mid new page pages p' below none is one two = record {
  len = omega (arith, two.len, one.len);
  each = λ k p i j at h l.
      let ne : k ≢ page = λ e. none-some p (sym (page_is rows words page None below ∙ ap (page_by words (2048 * page)) none) ∙ ap (page_at (pages_in rows words)) (sym e) ∙ at) in
      two.each k p i j (ap (λ l. page_at l k) is ∙ get_or-set_other (pages_in rows words) page k p' None ne ∙ at) h l ∙ one.each k p i j at h l;
}

pub fresh_together : (n : ℕ) → Together (replicate n None) []
fresh_together n = record {
  present = λ k. subst (λ o. IfSome o (λ (r : PageRow). 2048 * k + 2048 ≤ 0)) (sym (row_none n k)) tt;
  within = omega arith;
  classes = λ k. subst (λ o. IfSome o (λ (r : PageRow). r.class < CLASSES)) (sym (row_none n k)) tt;
  each = λ k. subst (IsRow [] (2048 * k)) (sym (row_none n k)) tt;
}
