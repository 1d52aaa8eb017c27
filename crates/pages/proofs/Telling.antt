-- The records and the words together.
use Rattle.std.proofs.Common.{◌≡◌, ◌≢◌, ℕ, suc, ◌+◌, ◌-◌, ◌*◌, ◌<◌, ◌≤◌, Bool, true, false, not, cond, eqb, ltb, ◌&&◌, List, [], ◌∷◌, length, get_or, set, map, Option, Some, None, ap, ◌∙◌, sym, refl, subst, inl, inr, arith, replicate}
use Rattle.std.specs.Prelude.{position, count_by, sum_by, IfSome, IsSomeAnd, IsNone, is_some, slice_get}
use Rattle.std.specs.List.{enumerate_from, prefix_len, fold}
use Rattle.std.proofs.lemmas.Bool.{cases_eq, cases_lt, lt-ltb, le-ltb, eqb-true, ltb-true}
use Rattle.std.proofs.lemmas.List.{length-set, get_or-set_same, get_or-set_other, get_or-map, length-map, set-set, same_lists}
use Rattle.std.proofs.lemmas.List.Sums.{sum_by-cons}
use Rattle.std.proofs.lemmas.List.FromFn.{length-enumerate_from, get_or-enumerate_from}
use Rattle.std.proofs.lemmas.Option.{slice_get_within}
use Rattle.std.proofs.lemmas.List.Quantifiers.{position-Some}
use Rattle.size_classes.specs.declared.class.TheConstants.{CLASSES}
use Rattle.size_classes.proofs.Table.{size_low, blocks_some}
use Rattle.size_classes.specs.Sizes.{size_of, blocks_in}
use Rattle.heap_model.specs.Pages.{Page, page_at, is_usable, is_free, free_on, with_allocated, page_of_class, fresh_page, first_of, page_for}
use Rattle.pages.specs.declared.page.PageRow.{PageRow}
use Rattle.pages.specs.FreeList.{flags_of, RunsFree, IsFreeList, SameOutside}
use Rattle.pages.specs.Index.{row_at, row_usable, row_free, row_free_on, HasFree}
use Rattle.pages.specs.Together.{page_by, pages_in, Together}
use Rattle.pages.proofs.Threading.{runs_count, runs_same}
use Rattle.pages.proofs.Flags.{flags_same, block_fits, length-flags}

-- ---- pages, by their numbers
pub length-pages : (rows : List (Option PageRow)) (words : List ℕ) → length (pages_in rows words) ≡ length rows
unfolding pages_in
length-pages rows words = length-map (enumerate_from 0 rows) (λ p. page_by words (2048 * p.0) p.1) ∙ length-enumerate_from 0 rows

pub page_is : (rows : List (Option PageRow)) (words : List ℕ) (k : ℕ) (d : Option Page) → k < length rows → get_or (pages_in rows words) k d ≡ page_by words (2048 * k) (row_at rows k)
unfolding pages_in
page_is rows words k d h =
    let none : ℕ × Option PageRow = (0, None) in
    let e = get_or-enumerate_from 0 rows k none h in
    get_or-map (λ (p : ℕ × Option PageRow). page_by words (2048 * p.0) p.1) (enumerate_from 0 rows) k none d (omega (arith, h, length-enumerate_from 0 rows))
    ∙ ap (λ (p : ℕ × Option PageRow). page_by words (2048 * p.0) p.1) e ∙ ap (λ n. page_by words (2048 * n) (row_at rows k)) (omega arith)

-- one record is changed, with words of its page alone
pub pages_set : (rows : List (Option PageRow)) (words new : List ℕ) (page : ℕ) (row : Option PageRow) → page < length rows
    → ((k : ℕ) → k ≢ page → k < length rows → page_by new (2048 * k) (row_at rows k) ≡ page_by words (2048 * k) (row_at rows k))
    → pages_in (set rows page row) new ≡ set (pages_in rows words) page (page_by new (2048 * page) row)
pages_set rows words new page row below same =
    let p' = page_by new (2048 * page) row in
    same_lists (pages_in (set rows page row) new) (set (pages_in rows words) page p')
    (length-pages (set rows page row) new ∙ length-set rows page row ∙ sym (length-set (pages_in rows words) page p' ∙ length-pages rows words))
    (λ k d h. let in_new : k < length (set rows page row) = omega (arith, h, length-pages (set rows page row) new) in
    let inside : k < length rows = omega (arith, in_new, length-set rows page row) in
    page_is (set rows page row) new k d in_new ∙ elim (cases_eq k page) as (λ _. page_by new (2048 * k) (row_at (set rows page row) k) ≡ get_or (set (pages_in rows words) page p') k d) [
      | inl e ↦ ap (λ n. page_by new (2048 * n) (row_at (set rows page row) n)) e ∙ ap (page_by new (2048 * page)) (get_or-set_same rows page row None below)
          ∙ sym (ap (λ n. get_or (set (pages_in rows words) page p') n d) e ∙ get_or-set_same (pages_in rows words) page p' d (omega (arith, below, length-pages rows words)))
      | inr ne ↦ ap (page_by new (2048 * k)) (get_or-set_other rows page k row None ne) ∙ same k ne inside ∙ sym (get_or-set_other (pages_in rows words) page k p' d ne ∙ page_is rows words k d inside)
    ])

-- a page with the same words is the same
pub page_same : (words new : List ℕ) (at : ℕ) (o : Option PageRow) → ((i : ℕ) → i < 2048 → get_or new (at + i) 0 ≡ get_or words (at + i) 0) → IfSome o (λ r. r.class < CLASSES) → page_by new at o ≡ page_by words at o
page_same words new at None same low = refl
page_same words new at (Some r) same low =
    ap (λ (f : List Bool). let p : Page = record { class = r.class; evacuating = r.evacuating; is_target = r.is_target; allocated = f } in Some p)
    (flags_same words new at (size_of r.class) (blocks_in r.class) (λ i h. same (i * size_of r.class) (let f = block_fits r.class i h in omega (arith, f, size_low r.class low))))

-- ---- what the records say is what the pages say
some_cond : (b : Bool) (n : ℕ) → is_some (cond b (Some n) None) ≡ b
some_cond true n = refl
some_cond false n = refl

same_test : (a b c d : ℕ) → (a < b → c < d) → (b ≤ a → d ≤ c) → ltb a b ≡ ltb c d
same_test a b c d less more = elim (cases_lt a b) [
  | inl h ↦ lt-ltb a b h ∙ sym (lt-ltb c d (less h))
  | inr h ↦ le-ltb a b h ∙ sym (le-ltb c d (more h))
]

place_open : (flags : List Bool) → is_some (position not flags) ≡ ltb 0 (count_by not flags)
place_open flags = some_cond (ltb (prefix_len (λ x. not (not x)) flags) (length flags)) (prefix_len (λ x. not (not x)) flags) ∙ by_list flags
  where
    by_list : (flags : List Bool) → ltb (prefix_len (λ x. not (not x)) flags) (length flags) ≡ ltb 0 (count_by not flags)
    by_list [] = refl
    by_list (false ∷ fs) = lt-ltb 0 (suc (length fs)) (omega arith) ∙ sym (lt-ltb 0 (count_by not (false ∷ fs)) (omega (arith, sum_by-cons (λ b. cond (not b) 1 0) false fs)))
    by_list (true ∷ fs) =
        same_test (1 + prefix_len (λ x. not (not x)) fs) (suc (length fs)) (prefix_len (λ x. not (not x)) fs) (length fs) (λ h. omega (arith, h)) (λ h. omega (arith, h))
        ∙ by_list fs ∙ ap (ltb 0) (let n : count_by not fs ≡ count_by not (true ∷ fs) = omega (arith, sum_by-cons (λ b. cond (not b) 1 0) true fs) in n)

pub counts_add : (flags : List Bool) → count_by not flags + count_by (λ b. b) flags ≡ length flags
counts_add [] = refl
counts_add (b ∷ fs) = elim b as (λ b. count_by not (b ∷ fs) + count_by (λ b. b) (b ∷ fs) ≡ suc (length fs)) [
  | true ↦ omega (arith, sum_by-cons (λ b. cond (not b) 1 0) true fs, sum_by-cons (λ b. cond b 1 0) true fs, counts_add fs)
  | false ↦ omega (arith, sum_by-cons (λ b. cond (not b) 1 0) false fs, sum_by-cons (λ b. cond b 1 0) false fs, counts_add fs)
]

abbrev pub IsRow : List ℕ → ℕ → Option PageRow → Type 0
IsRow words at o = IfSome o (λ r. IsFreeList words at r.class r.first r.allocated)

pub usable_page : (class : ℕ) (words : List ℕ) (at : ℕ) (o : Option PageRow) → IsRow words at o → row_usable class o ≡ is_usable class (page_by words at o)
usable_page class words at None h = refl
usable_page class words at (Some r) h =
    let flags = flags_of words at r.class in
    let n = runs_count words at (size_of r.class) h.free flags r.first h.runs in
    ap (λ b. eqb r.class class && (not r.evacuating && b)) (same_test r.allocated (blocks_in r.class) 0 (count_by not flags) (λ l. omega (arith, l, n, h.counted)) (λ l. omega (arith, l, n, h.counted)) ∙ sym (place_open flags))

pub free_page : (words : List ℕ) (at : ℕ) (o : Option PageRow) → row_free o ≡ is_free (page_by words at o)
free_page words at None = refl
free_page words at (Some r) = refl

pub free_on_page : (class : ℕ) (words : List ℕ) (at : ℕ) (o : Option PageRow) → IsRow words at o → row_free_on class o ≡ free_on class (page_by words at o)
free_on_page class words at None h = refl
free_on_page class words at (Some r) h =
    let flags = flags_of words at r.class in
    let n = runs_count words at (size_of r.class) h.free flags r.first h.runs in
    ap (λ m. cond (eqb r.class class && not r.evacuating) m 0) (let e : blocks_in r.class - r.allocated ≡ count_by not flags = omega (arith, n, h.counted) in e)

-- ---- and so the places, counts and sums
prefix_len-map : {A B : Type 0} (f : A → B) (p : B → Bool) (xs : List A) → prefix_len p (map f xs) ≡ prefix_len (λ x. p (f x)) xs
prefix_len-map f p [] = refl
prefix_len-map f p (x ∷ xs) = ap (λ n. cond (p (f x)) (1 + n) 0) (prefix_len-map f p xs)

position-map : {A B : Type 0} (f : A → B) (p : B → Bool) (xs : List A) → position p (map f xs) ≡ position (λ x. p (f x)) xs
position-map f p xs =
    let n = prefix_len-map f (λ x. not (p x)) xs in
    ap (λ m. cond (ltb m (length (map f xs))) (Some m) None) n ∙ ap (λ l. cond (ltb (prefix_len (λ x. not (p (f x))) xs) l) (Some (prefix_len (λ x. not (p (f x))) xs)) None) (length-map xs f)

fold-map : {A B : Type 0} (f : A → B) (g : B → ℕ) (start : ℕ) (xs : List A) → fold (λ a x. a + g x) start (map f xs) ≡ fold (λ a x. a + g (f x)) start xs
fold-map f g start [] = refl
fold-map f g start (x ∷ xs) = fold-map f g (start + g (f x)) xs

image : {B : Type 0} (f : Option PageRow → B) (g : Option Page → B) (rows : List (Option PageRow)) (words : List ℕ) → ((k : ℕ) → k < length rows → f (row_at rows k) ≡ g (page_by words (2048 * k) (row_at rows k))) → map f rows ≡ map g (pages_in rows words)
image f g rows words same =
    same_lists (map f rows) (map g (pages_in rows words)) (length-map rows f ∙ sym (length-map (pages_in rows words) g ∙ length-pages rows words))
    (λ k d h. let inside : k < length rows = omega (arith, h, length-map rows f) in
    get_or-map f rows k None d inside ∙ same k inside ∙ ap g (sym (page_is rows words k None inside)) ∙ sym (get_or-map g (pages_in rows words) k None d (omega (arith, inside, length-pages rows words))))

module _ (rows : List (Option PageRow)) (words : List ℕ) (t : Together rows words) where
  pub usable_pages : (class : ℕ) → position (row_usable class) rows ≡ position (is_usable class) (pages_in rows words)
  usable_pages class =
      sym (position-map (row_usable class) (λ b. b) rows) ∙ ap (position (λ b. b)) (image (row_usable class) (is_usable class) rows words (λ k _. usable_page class words (2048 * k) (row_at rows k) (t.each k)))
      ∙ position-map (is_usable class) (λ b. b) (pages_in rows words)

  pub free_places : position row_free rows ≡ position is_free (pages_in rows words)
  free_places =
      sym (position-map row_free (λ b. b) rows) ∙ ap (position (λ b. b)) (image row_free is_free rows words (λ k _. free_page words (2048 * k) (row_at rows k)))
      ∙ position-map is_free (λ b. b) (pages_in rows words)

  pub free_sum : (class : ℕ) → sum_by (row_free_on class) rows ≡ sum_by (free_on class) (pages_in rows words)
  free_sum class =
      sym (fold-map (row_free_on class) (λ n. n) 0 rows) ∙ ap (λ l. fold (λ a x. a + x) 0 l) (image (row_free_on class) (free_on class) rows words (λ k _. free_on_page class words (2048 * k) (row_at rows k) (t.each k)))
      ∙ fold-map (free_on class) (λ n. n) 0 (pages_in rows words)

  pub free_count : count_by row_free rows ≡ count_by is_free (pages_in rows words)
  free_count =
      sym (fold-map (λ o. cond (row_free o) 1 0) (λ n. n) 0 rows) ∙ ap (λ l. fold (λ a x. a + x) 0 l) (image (λ o. cond (row_free o) 1 0) (λ p. cond (is_free p) 1 0) rows words (λ k _. ap (λ b. cond b 1 0) (free_page words (2048 * k) (row_at rows k))))
      ∙ fold-map (λ p. cond (is_free p) 1 0) (λ n. n) 0 (pages_in rows words)

-- a page in use has its words
pub words_present : (rows : List (Option PageRow)) (words : List ℕ) → Together rows words → (page : ℕ) (row : PageRow) → row_at rows page ≡ Some row → 2048 * page + 2048 ≤ length words
words_present rows words t page row there = subst (λ o. IfSome o (λ _. 2048 * page + 2048 ≤ length words)) there (t.present page)

-- ---- a page's record and words are changed
module _ (rows : List (Option PageRow)) (words new : List ℕ) (t : Together rows words) (page : ℕ) (row : PageRow) (below : page < length rows) (known : row.class < CLASSES)
    (chain : IsFreeList new (2048 * page) row.class row.first row.allocated) (outside : SameOutside words new (2048 * page)) where
  elsewhere : (k : ℕ) → k ≢ page → (i : ℕ) → i < 2048 → get_or new (2048 * k + i) 0 ≡ get_or words (2048 * k + i) 0
  elsewhere k ne i h = elim (cases_lt k page) [
    | inl l ↦ outside.below (2048 * k + i) (omega (arith, l, h))
    | inr l ↦ outside.above (2048 * k + i) (omega (arith, l, ne))
  ]

  other_chain : (k : ℕ) → k ≢ page → (o : Option PageRow) → IfSome o (λ r. r.class < CLASSES) → IsRow words (2048 * k) o → IsRow new (2048 * k) o
  other_chain k ne None c h = tt
  other_chain k ne (Some r) c h =
      let low = size_low r.class c in
      let same : flags_of new (2048 * k) r.class ≡ flags_of words (2048 * k) r.class =
      flags_same words new (2048 * k) (size_of r.class) (blocks_in r.class) (λ i l. elsewhere k ne (i * size_of r.class) (let f = block_fits r.class i l in omega (arith, f, low))) in
      record {
        free = h.free;
        counted = h.counted;
        runs = subst (λ f. RunsFree new (2048 * k) (size_of r.class) h.free f r.first) (sym same)
            (runs_same words new (2048 * k) (size_of r.class) h.free (flags_of words (2048 * k) r.class) r.first
            (λ i l. let w = slice_get_within (flags_of words (2048 * k) r.class) i false l in
            let f = block_fits r.class i (omega (arith, w, length-flags words (2048 * k) (size_of r.class) (blocks_in r.class))) in
            ap (λ n. get_or new n 0) (omega arith) ∙ elsewhere k ne (i * size_of r.class + 3) (omega (arith, f, low)) ∙ ap (λ n. get_or words n 0) (omega arith)) h.runs);
      }

  row_there : row_at (set rows page (Some row)) page ≡ Some row
  row_there = get_or-set_same rows page (Some row) None below

  row_other : (k : ℕ) → k ≢ page → row_at (set rows page (Some row)) k ≡ row_at rows k
  row_other k ne = get_or-set_other rows page k (Some row) None ne

  still_present : (n : ℕ) (o : Option PageRow) → IfSome o (λ _. n ≤ length words) → IfSome o (λ _. n ≤ length new)
  still_present n o h = subst (λ m. IfSome o (λ _. n ≤ m)) (sym outside.len) h

  pub together_changed : 2048 * page + 2048 ≤ length words → Together (set rows page (Some row)) new
  together_changed long = record {
    present = λ k. elim (cases_eq k page) [
      | inl e ↦ subst (λ n. IfSome (row_at (set rows page (Some row)) n) (λ _. 2048 * n + 2048 ≤ length new)) (sym e) (subst (λ o. IfSome o (λ _. 2048 * page + 2048 ≤ length new)) (sym row_there) (let l : 2048 * page + 2048 ≤ length new = omega (arith, long, outside.len) in l))
      | inr ne ↦ subst (λ o. IfSome o (λ _. 2048 * k + 2048 ≤ length new)) (sym (row_other k ne)) (still_present (2048 * k + 2048) (row_at rows k) (t.present k))
    ];
    within = omega (arith, outside.len, t.within, length-set rows page (Some row));
    classes = λ k. elim (cases_eq k page) [
      | inl e ↦ subst (λ o. IfSome o (λ r. r.class < CLASSES)) (sym (ap (row_at (set rows page (Some row))) e ∙ row_there)) known
      | inr ne ↦ subst (λ o. IfSome o (λ r. r.class < CLASSES)) (sym (row_other k ne)) (t.classes k)
    ];
    each = λ k. elim (cases_eq k page) [
      | inl e ↦ subst (λ n. IsRow new (2048 * n) (row_at (set rows page (Some row)) n)) (sym e) (subst (IsRow new (2048 * page)) (sym row_there) chain)
      | inr ne ↦ subst (IsRow new (2048 * k)) (sym (row_other k ne)) (other_chain k ne (row_at rows k) (t.classes k) (t.each k))
    ];
  }

  pub pages_changed : (flags : List Bool) → flags_of new (2048 * page) row.class ≡ flags
      → pages_in (set rows page (Some row)) new ≡ set (pages_in rows words) page (Some (record { class = row.class; evacuating = row.evacuating; is_target = row.is_target; allocated = flags }))
  pages_changed flags e =
      pages_set rows words new page (Some row) below (λ k ne h. page_same words new (2048 * k) (row_at rows k) (elsewhere k ne) (t.classes k))
      ∙ ap (λ (f : List Bool). let p : Page = record { class = row.class; evacuating = row.evacuating; is_target = row.is_target; allocated = f } in set (pages_in rows words) page (Some p)) e

-- ---- a place of a page
pub outside_one : (words new : List ℕ) (at a v : ℕ) → new ≡ set words a v → at ≤ a → a < at + 2048 → SameOutside words new at
outside_one words new at a v is from to = record {
  len = ap (λ w. length w) is ∙ length-set words a v;
  below = λ k h. ap (λ w. get_or w k 0) is ∙ get_or-set_other words a k v 0 (omega (arith, h, from));
  above = λ k h. ap (λ w. get_or w k 0) is ∙ get_or-set_other words a k v 0 (omega (arith, h, to));
}

pub outside_two : (words new : List ℕ) (at a v b w : ℕ) → new ≡ set (set words a v) b w → at ≤ a → a < at + 2048 → at ≤ b → b < at + 2048 → SameOutside words new at
outside_two words new at a v b w is from to from' to' = record {
  len = ap (λ x. length x) is ∙ length-set (set words a v) b w ∙ length-set words a v;
  below = λ k h. ap (λ x. get_or x k 0) is ∙ get_or-set_other (set words a v) b k w 0 (omega (arith, h, from')) ∙ get_or-set_other words a k v 0 (omega (arith, h, from));
  above = λ k h. ap (λ x. get_or x k 0) is ∙ get_or-set_other (set words a v) b k w 0 (omega (arith, h, to')) ∙ get_or-set_other words a k v 0 (omega (arith, h, to));
}

pub page_read : (rows : List (Option PageRow)) (words : List ℕ) (page : ℕ) (r : PageRow) → page < length rows → row_at rows page ≡ Some r
    → page_at (pages_in rows words) page ≡ Some (record { class = r.class; evacuating = r.evacuating; is_target = r.is_target; allocated = flags_of words (2048 * page) r.class })
page_read rows words page r below there = page_is rows words page None below ∙ ap (page_by words (2048 * page)) there

-- the list of a page in use has changed, and perhaps the page is a target now
module _ (rows : List (Option PageRow)) (words new : List ℕ) (t : Together rows words) (page : ℕ) (below : page < length rows) (old row : PageRow) (there : row_at rows page ≡ Some old)
    (allocated : ℕ) (mark : Bool) (row_is : row ≡ record old { first = row.first; allocated = allocated; is_target = mark }) (chain : IsFreeList new (2048 * page) old.class row.first allocated) (outside : SameOutside words new (2048 * page))
    (after : List (Option PageRow)) (after_is : after ≡ set rows page (Some row)) (index : ℕ) (b : Bool) (flags : flags_of new (2048 * page) old.class ≡ set (flags_of words (2048 * page) old.class) index b) where
  same_class : row.class ≡ old.class
  same_class = ap (λ (r : PageRow). r.class) row_is

  known : row.class < CLASSES
  known = let k : old.class < CLASSES = subst (λ o. IfSome o (λ r. r.class < CLASSES)) there (t.classes page) in omega (arith, k, same_class)

  own_chain : IsFreeList new (2048 * page) row.class row.first row.allocated
  own_chain = subst (λ c. IsFreeList new (2048 * page) c row.first row.allocated) (sym same_class) (subst (IsFreeList new (2048 * page) old.class row.first) (sym (ap (λ (r : PageRow). r.allocated) row_is)) chain)

  pub together_by : Together after new
  together_by = subst (λ l. Together l new) (sym after_is) (together_changed rows words new t page row below known own_chain outside (words_present rows words t page old there))

  page_then : Page
  page_then = record { class = old.class; evacuating = old.evacuating; is_target = old.is_target; allocated = flags_of words (2048 * page) old.class }

  pages_are : pages_in after new ≡ set (pages_in rows words) page (Some (record (with_allocated page_then index b) { is_target = mark }))
  unfolding page_then
  pages_are =
      ap (λ l. pages_in l new) after_is ∙ pages_changed rows words new t page row below known own_chain outside (flags_of new (2048 * page) row.class) refl
      ∙ ap (λ (r : PageRow). let p : Page = record { class = r.class; evacuating = r.evacuating; is_target = r.is_target; allocated = flags_of new (2048 * page) r.class } in set (pages_in rows words) page (Some p)) row_is
      ∙ ap (λ (f : List Bool). let p : Page = record { class = old.class; evacuating = old.evacuating; is_target = mark; allocated = f } in set (pages_in rows words) page (Some p)) flags

  read : page_at (pages_in rows words) page ≡ Some page_then
  unfolding page_then
  read = page_read rows words page old below there

  pub received_by : IfSome (page_at (pages_in rows words) page) (λ p. pages_in after new ≡ set (pages_in rows words) page (Some (record (with_allocated p index b) { is_target = mark })))
  received_by = subst (λ o. IfSome o (λ p. pages_in after new ≡ set (pages_in rows words) page (Some (record (with_allocated p index b) { is_target = mark })))) (sym read) pages_are

  plain : mark ≡ old.is_target → pages_in after new ≡ set (pages_in rows words) page (Some (with_allocated page_then index b))
  unfolding page_then
  plain same = pages_are ∙ ap (λ (m : Bool). let p : Page = record (with_allocated page_then index b) { is_target = m } in set (pages_in rows words) page (Some p)) same

  pub taken_by : mark ≡ old.is_target → (class : ℕ) → pages_in after new ≡ set (pages_in rows words) page (Some (with_allocated (page_of_class class (page_at (pages_in rows words) page)) index b))
  taken_by same class = plain same ∙ ap (λ o. set (pages_in rows words) page (Some (with_allocated (page_of_class class o) index b))) (sym read)

  pub given_by : mark ≡ old.is_target → IfSome (page_at (pages_in rows words) page) (λ p. pages_in after new ≡ set (pages_in rows words) page (Some (with_allocated p index b)))
  given_by same = subst (λ o. IfSome o (λ p. pages_in after new ≡ set (pages_in rows words) page (Some (with_allocated p index b)))) (sym read) (plain same)

pub open_by : (rows : List (Option PageRow)) (words : List ℕ) (page : ℕ) (old : PageRow) (index class : ℕ) → page < length rows → row_at rows page ≡ Some old → slice_get (flags_of words (2048 * page) old.class) index ≡ Some false
    → slice_get (page_of_class class (page_at (pages_in rows words) page)).allocated index ≡ Some false
open_by rows words page old index class below there h = subst (λ o. slice_get (page_of_class class o).allocated index ≡ Some false) (sym (page_read rows words page old below there)) h

pub allocated_by : (rows : List (Option PageRow)) (words : List ℕ) (page : ℕ) (old : PageRow) (index : ℕ) → page < length rows → row_at rows page ≡ Some old → IsSomeAnd (page_at (pages_in rows words) page) (λ p. slice_get p.allocated index ≡ Some true)
    → slice_get (flags_of words (2048 * page) old.class) index ≡ Some true
allocated_by rows words page old index below there h = subst (λ o. IsSomeAnd o (λ p. slice_get p.allocated index ≡ Some true)) (page_read rows words page old below there) h

-- the words of a block lie on its page
pub inside_page : (words : List ℕ) (page class index : ℕ) (b : Bool) → class < CLASSES → slice_get (flags_of words (2048 * page) class) index ≡ Some b → 2048 * page + index * size_of class + 3 < 2048 * page + 2048
inside_page words page class index b known h =
    let w = slice_get_within (flags_of words (2048 * page) class) index b h in
    let f = block_fits class index (omega (arith, w, length-flags words (2048 * page) (size_of class) (blocks_in class))) in
    omega (arith, f, size_low class known)

-- a free page has got a class
module _ (rows : List (Option PageRow)) (words new : List ℕ) (t : Together rows words) (page class : ℕ) (below : page < length rows) (known : class < CLASSES) (row : PageRow)
    (row_is : row ≡ record { class = class; first = row.first; allocated = 0; evacuating = false; is_target = false }) (chain : IsFreeList new (2048 * page) class row.first 0) (outside : SameOutside words new (2048 * page))
    (flags : flags_of new (2048 * page) class ≡ replicate (blocks_in class) false) (after : List (Option PageRow)) (after_is : after ≡ set rows page (Some row)) where
  class_is : row.class ≡ class
  class_is = ap (λ (r : PageRow). r.class) row_is

  allocated_is : row.allocated ≡ 0
  allocated_is = ap (λ (r : PageRow). r.allocated) row_is

  row_known : row.class < CLASSES
  row_known = subst (λ c. c < CLASSES) (sym class_is) known

  row_chain : IsFreeList new (2048 * page) row.class row.first row.allocated
  row_chain = subst (λ c. IsFreeList new (2048 * page) c row.first row.allocated) (sym class_is) (subst (IsFreeList new (2048 * page) class row.first) (sym allocated_is) chain)

  pub together_used : 2048 * page + 2048 ≤ length words → Together after new
  together_used long = subst (λ l. Together l new) (sym after_is) (together_changed rows words new t page row below row_known row_chain outside long)

  pub pages_used : pages_in after new ≡ set (pages_in rows words) page (Some (fresh_page class))
  pages_used =
      ap (λ l. pages_in l new) after_is ∙ pages_changed rows words new t page row below row_known row_chain outside (flags_of new (2048 * page) row.class) refl
      ∙ ap (λ (r : PageRow). let p : Page = record { class = r.class; evacuating = r.evacuating; is_target = r.is_target; allocated = flags_of new (2048 * page) r.class } in set (pages_in rows words) page (Some p)) row_is
      ∙ ap (λ (f : List Bool). let p : Page = record { class = class; evacuating = false; is_target = false; allocated = f } in set (pages_in rows words) page (Some p)) flags

  pub has_free : HasFree class (row_at after page)
  has_free = subst (HasFree class) (sym (ap (λ l. row_at l page) after_is ∙ get_or-set_same rows page (Some row) None below))
      (class_is, ap (λ (r : PageRow). r.evacuating) row_is, let s = blocks_some class known in let e = ap blocks_in class_is in omega (arith, s, e, allocated_is))

-- a page of which something holds is in use
none_allocated : (words : List ℕ) (at : ℕ) (P : Page → Type 0) (o : Option PageRow) → IsSomeAnd (page_by words at o) P → is_some o ≡ true
none_allocated words at P None h = absurd h
none_allocated words at P (Some r) h = refl

pub some_there : (rows : List (Option PageRow)) (words : List ℕ) (page : ℕ) → page < length rows → (P : Page → Type 0) → IsSomeAnd (page_at (pages_in rows words) page) P → (o : Option PageRow) → o ≡ row_at rows page → is_some o ≡ true
some_there rows words page below P h o read =
    ap is_some read ∙ none_allocated words (2048 * page) P (row_at rows page) (subst (λ o. IsSomeAnd o P) (page_is rows words page None below) h)

-- ---- the page of the next block
both_true : (a b : Bool) → (a && b) ≡ true → (a ≡ true) × (b ≡ true)
both_true true b h = (refl, h)
both_true false b h = absurd (cc)

pub some_iff : (o : Option ℕ) (page : ℕ) → o ≡ Some page → (true ≡ false → IsNone o) × (IsNone o → true ≡ false)
some_iff o page e = (λ h. absurd (cc), λ h. sym (ap is_some e) ∙ h)

pub none_iff : (o : Option ℕ) → o ≡ None → (false ≡ false → IsNone o) × (IsNone o → false ≡ false)
none_iff o e = (λ h. ap is_some e, λ h. refl)

unmarked : (b : Bool) → not b ≡ true → b ≡ false
unmarked true h = absurd (cc)
unmarked false h = refl

usable_has : (class : ℕ) (o : Option PageRow) → row_usable class o ≡ true → HasFree class o
usable_has class None h = absurd (cc)
usable_has class (Some r) h =
    let a = both_true (eqb r.class class) (not r.evacuating && ltb r.allocated (blocks_in r.class)) h in
    let b = both_true (not r.evacuating) (ltb r.allocated (blocks_in r.class)) a.1 in
    (eqb-true r.class class a.0, unmarked r.evacuating b.0, ltb-true r.allocated (blocks_in r.class) b.1)

free_none : (o : Option PageRow) → row_free o ≡ true → o ≡ None
free_none None h = refl
free_none (Some r) h = absurd (cc)

pub usable_here : (rows : List (Option PageRow)) (class page : ℕ) → Some page ≡ position (row_usable class) rows → (page < length rows) × HasFree class (row_at rows page)
usable_here rows class page e = let f = position-Some (row_usable class) rows page None (sym e) in (f.0, usable_has class (row_at rows page) f.1)

pub free_here : (rows : List (Option PageRow)) (page : ℕ) → Some page ≡ position row_free rows → (page < length rows) × (row_at rows page ≡ None)
free_here rows page e = let f = position-Some row_free rows page None (sym e) in (f.0, free_none (row_at rows page) f.1)

module _ (rows : List (Option PageRow)) (words : List ℕ) (t : Together rows words) (class : ℕ) where
  pub for_usable : (page : ℕ) → Some page ≡ position (row_usable class) rows → page_for (pages_in rows words) class ≡ Some page
  for_usable page e = ap (λ o. first_of o (position is_free (pages_in rows words))) (sym (e ∙ usable_pages rows words t class))

  pub for_free : (o : Option ℕ) → None ≡ position (row_usable class) rows → o ≡ position row_free rows → page_for (pages_in rows words) class ≡ o
  for_free o e f = ap (λ o. first_of o (position is_free (pages_in rows words))) (sym (e ∙ usable_pages rows words t class)) ∙ sym (f ∙ free_places rows words t)

-- a free page is used, and a block taken of it
module _ (rows : List (Option PageRow)) (words : List ℕ) (page class : ℕ) (below : page < length rows) (free : row_at rows page ≡ None) (mid : List (Option Page)) (mid_is : mid ≡ set (pages_in rows words) page (Some (fresh_page class))) where
  was_fresh : page_of_class class (page_at mid page) ≡ page_of_class class (page_at (pages_in rows words) page)
  was_fresh =
      ap (λ l. page_of_class class (page_at l page)) mid_is
      ∙ ap (page_of_class class) (get_or-set_same (pages_in rows words) page (Some (fresh_page class)) None (subst (λ n. page < n) (sym (length-pages rows words)) below))
      ∙ sym (ap (page_of_class class) (page_is rows words page None below ∙ ap (page_by words (2048 * page)) free))

  pub open_fresh : (index : ℕ) → slice_get (page_of_class class (page_at mid page)).allocated index ≡ Some false → slice_get (page_of_class class (page_at (pages_in rows words) page)).allocated index ≡ Some false
  open_fresh index h = subst (λ (p : Page). slice_get p.allocated index ≡ Some false) was_fresh h

  pub allocated_fresh : (index : ℕ) (new : List (Option Page)) → new ≡ set mid page (Some (with_allocated (page_of_class class (page_at mid page)) index true))
      → new ≡ set (pages_in rows words) page (Some (with_allocated (page_of_class class (page_at (pages_in rows words) page)) index true))
  allocated_fresh index new e =
      e ∙ ap (λ p. set mid page (Some (with_allocated p index true))) was_fresh
      ∙ ap (λ l. set l page (Some (with_allocated (page_of_class class (page_at (pages_in rows words) page)) index true))) mid_is
      ∙ set-set (pages_in rows words) page (Some (fresh_page class)) (Some (with_allocated (page_of_class class (page_at (pages_in rows words) page)) index true))
