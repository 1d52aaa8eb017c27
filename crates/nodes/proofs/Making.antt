-- A block is taken, and a part is made in it.
use Rattle.std.proofs.Common.{◌≡◌, ◌≢◌, ℕ, zero, suc, ◌+◌, ◌*◌, ◌/◌, ◌%◌, ◌<◌, ◌≤◌, ◌⊎◌, Bool, true, false, ◌&&◌, eqb, List, Option, Some, None, length, get_or, set, replicate, ap, ◌∙◌, sym, subst, arith, refl, inl, inr, length-set}
use Rattle.std.specs.Prelude.{slice_get, position}
use Rattle.std.proofs.lemmas.Bool.{eqb-true, ne_eqb, and_parts}
use Rattle.std.proofs.lemmas.List.{get_or-set_other, get_or-set_same, length-replicate}
use Rattle.std.proofs.lemmas.List.Quantifiers.{position-Some}
use Rattle.std.proofs.lemmas.Option.{slice_get_within, get_or_from_slice_get, slice_get-get_or}
use Rattle.size_classes.specs.declared.class.TheConstants.{CLASSES}
use Rattle.size_classes.specs.Sizes.{size_of, blocks_in}
use Rattle.size_classes.proofs.Table.{size_low}
use Rattle.heap_model.specs.Header.{Header, HeaderFits}
use Rattle.heap_model.specs.Block.{record_at, cell_count, new_record, new_words, spliced}
use Rattle.heap_model.specs.Pages.{Page, IsPage, is_free, is_usable, first_of, page_for, page_at, page_of_class, fresh_page, with_allocated, IsOpen}
use Rattle.heap_model.specs.Store.{Store, IsStore, size_in, allocated_in, size_at, is_allocated, record_of, Adds, address_of}
use Rattle.headers.proofs.Written.{new_block_here, new_block_others}
use Rattle.headers.proofs.Fresh.{length-spliced}
use Rattle.nodes.proofs.Places.{allocated_place, apart, count_in}

first_case : (o q : Option ℕ) (n : ℕ) → first_of o q ≡ Some n → (o ≡ Some n) ⊎ (q ≡ Some n)
first_case None q n e = inr e
first_case (Some i) q n e = inl e

-- the page that was chosen is free, or is one of the class
pub data Chosen (class : ℕ) (o : Option Page) : Type 0 where
  WasFree : o ≡ None → Chosen class o
  WasUsed : (p : Page) → o ≡ Some p → p.class ≡ class → Chosen class o

usable_page : (class : ℕ) (o : Option Page) → is_usable class o ≡ true → Chosen class o
usable_page class None h = absurd (cc)
usable_page class (Some p) h = WasUsed p refl (eqb-true p.class class (and_parts (eqb p.class class) _ h).0)

free_page : (class : ℕ) (o : Option Page) → is_free o ≡ true → Chosen class o
free_page class None h = WasFree refl
free_page class (Some p) h = absurd (cc)

pub chosen_page : (pages : List (Option Page)) (class k : ℕ) → page_for pages class ≡ Some k → (k < length pages) × Chosen class (page_at pages k)
chosen_page pages class k e = elim (first_case (position (is_usable class) pages) (position is_free pages) k e) [
  | inl u ↦ (let f = position-Some (is_usable class) pages k None u in (f.0, usable_page class (page_at pages k) f.1))
  | inr u ↦ (let f = position-Some is_free pages k None u in (f.0, free_page class (page_at pages k) f.1))
]

-- flags, one of which is set
pub other_flag : (flags : List Bool) (i o s : ℕ) → (o ≡ i * s → ⊥) → (eqb (o % s) 0 && get_or (set flags i true) (o / s) false) ≡ (eqb (o % s) 0 && get_or flags (o / s) false)
other_flag flags i o s ne = by_place (three (o / s) i)
  where
    three : (a b : ℕ) → (a ≡ b) ⊎ (a ≢ b)
    three a b = grind arith

    not_whole : o / s ≡ i → o % s ≢ 0
    not_whole e z = ne (let q : o ≡ (o / s) * s = grind arith in q ∙ ap (λ n. n * s) e)

    by_place : (o / s ≡ i) ⊎ (o / s ≢ i) → (eqb (o % s) 0 && get_or (set flags i true) (o / s) false) ≡ (eqb (o % s) 0 && get_or flags (o / s) false)
    by_place (inl e) = let z : eqb (o % s) 0 ≡ false = ne_eqb (o % s) 0 (not_whole e) in ap (λ b. b && get_or (set flags i true) (o / s) false) z ∙ sym (ap (λ b. b && get_or flags (o / s) false) z)
    by_place (inr d) = ap (λ b. eqb (o % s) 0 && b) (get_or-set_other flags i (o / s) true false d)

no_flag : (n j : ℕ) → get_or (replicate n false) j false ≡ false
no_flag zero j = refl
no_flag (suc n) zero = refl
no_flag (suc n) (suc j) = no_flag n j

and_false : (b : Bool) → (b && false) ≡ false
and_false true = refl
and_false false = refl

-- The page has one block more, and the same at each other offset.
more_allocated : (class i o : ℕ) (q : Option Page) → Chosen class q → (o ≡ i * size_of class → ⊥) → allocated_in (Some (with_allocated (page_of_class class q) i true)) o ≡ allocated_in q o
more_allocated class i o q (WasFree e) ne =
    subst (λ x. allocated_in (Some (with_allocated (page_of_class class x) i true)) o ≡ allocated_in x o) (sym e)
    (other_flag (replicate (blocks_in class) false) i o (size_of class) ne ∙ ap (λ b. eqb (o % size_of class) 0 && b) (no_flag (blocks_in class) (o / size_of class)) ∙ and_false (eqb (o % size_of class) 0))
more_allocated class i o q (WasUsed p e is) ne =
    subst (λ x. allocated_in (Some (with_allocated (page_of_class class x) i true)) o ≡ allocated_in x o) (sym e)
    (other_flag p.allocated i o (size_of p.class) (λ z. ne (z ∙ ap (λ c. i * size_of c) is)))

offset_place : (k i s a : ℕ) → 4 ≤ s → (i + 1) * s ≤ 2048 → a ≡ 2048 * k + i * s → (a / 2048 ≡ k) × (a % 2048 ≡ i * s)
offset_place k i s a low fit e =
    let small : i * s < 2048 = grind arith in (omega (arith, small), omega (arith, small))

divided : (i s : ℕ) → 4 ≤ s → ((i * s) % s ≡ 0) × ((i * s) / s ≡ i)
divided i s low = (grind arith, grind arith)

set_same : (pages : List (Option Page)) (k : ℕ) (x : Option Page) → k < length pages → page_at (set pages k x) k ≡ x
set_same pages k x h = get_or-set_same pages k x None h

set_other : (pages : List (Option Page)) (k j : ℕ) (x : Option Page) → j ≢ k → page_at (set pages k x) j ≡ page_at pages j
set_other pages k j x ne = get_or-set_other pages k j x None ne

fresh_is : (class : ℕ) → class < CLASSES → IsPage (fresh_page class)
fresh_is class h = record { class = h; blocks = length-replicate (blocks_in class) false; marks = refl }

with_is : (p : Page) (i : ℕ) → IsPage p → IsPage (with_allocated p i true)
with_is p i w = record { class = w.class; blocks = length-set p.allocated i true ∙ w.blocks; marks = w.marks }

module _ (s : Store) (whole : IsStore s) (class k i : ℕ) (known : class < CLASSES) (found : page_for s.pages class ≡ Some k) (was_free : IsOpen (page_of_class class (page_at s.pages k)) i) where
  pub within : k < length s.pages
  within = (chosen_page s.pages class k found).0

  chosen : Chosen class (page_at s.pages k)
  chosen = (chosen_page s.pages class k found).1

  page : Page
  page = page_of_class class (page_at s.pages k)

  address : ℕ
  address = address_of class k i

  is_page : IsPage (page_of_class class (page_at s.pages k))
  is_page = by_case chosen
    where
      by_case : Chosen class (page_at s.pages k) → IsPage (page_of_class class (page_at s.pages k))
      by_case (WasFree e) = subst (λ x. IsPage (page_of_class class x)) (sym e) (fresh_is class known)
      by_case (WasUsed p e is) = subst (λ x. IsPage (page_of_class class x)) (sym e) (whole.pages k p (slice_get-get_or s.pages k None within ∙ ap Some e))

  class_is : (page_of_class class (page_at s.pages k)).class ≡ class
  class_is = by_case chosen
    where
      by_case : Chosen class (page_at s.pages k) → (page_of_class class (page_at s.pages k)).class ≡ class
      by_case (WasFree e) = subst (λ x. (page_of_class class x).class ≡ class) (sym e) refl
      by_case (WasUsed p e is) = subst (λ x. (page_of_class class x).class ≡ class) (sym e) is

  low : 4 ≤ size_of class
  low = size_low class known

  index_below : i < 2048 / size_of class
  unfolding blocks_in
  index_below =
      let h = slice_get_within (page_of_class class (page_at s.pages k)).allocated i false was_free in
      omega (arith, h, is_page.blocks, ap (λ c. 2048 / size_of c) class_is)

  pub fit : (i + 1) * size_of class ≤ 2048
  fit = count_in (size_of class) (2048 / size_of class) i refl low index_below

  pub page_place : (address_of class k i) / 2048 ≡ k
  page_place = (offset_place k i (size_of class) (address_of class k i) low fit refl).0

  offset_is : (address_of class k i) % 2048 ≡ i * size_of class
  offset_is = (offset_place k i (size_of class) (address_of class k i) low fit refl).1

  free_in : (q : Option Page) → Chosen class q → IsOpen (page_of_class class q) i → allocated_in q (i * size_of class) ≡ false
  free_in q (WasFree e) o = subst (λ x. allocated_in x (i * size_of class) ≡ false) (sym e) refl
  free_in q (WasUsed p e is) o =
      let o' : slice_get p.allocated i ≡ Some false = subst (λ x. slice_get (page_of_class class x).allocated i ≡ Some false) e o in
      let f : get_or p.allocated i false ≡ false = get_or_from_slice_get p.allocated i false false o' in
      let d : (i * size_of p.class) / size_of p.class ≡ i = subst (λ c. (i * size_of c) / size_of c ≡ i) (sym is) (divided i (size_of class) low).1 in
      let g : allocated_in (Some p) (i * size_of p.class) ≡ false = ap (λ n. eqb ((i * size_of p.class) % size_of p.class) 0 && get_or p.allocated n false) d ∙ ap (λ b. eqb ((i * size_of p.class) % size_of p.class) 0 && b) f ∙ and_false _ in
      subst (λ x. allocated_in x (i * size_of class) ≡ false) (sym e) (subst (λ c. allocated_in (Some p) (i * size_of c) ≡ false) is g)

  pub free_before : is_allocated s (address_of class k i) ≡ false
  unfolding is_allocated
  free_before = ap (λ n. allocated_in (page_at s.pages n) ((address_of class k i) % 2048)) page_place ∙ ap (allocated_in (page_at s.pages k)) offset_is ∙ free_in (page_at s.pages k) chosen was_free

  new_page : page_at (set s.pages k (Some (with_allocated (page_of_class class (page_at s.pages k)) i true))) k ≡ Some (with_allocated (page_of_class class (page_at s.pages k)) i true)
  new_page = set_same s.pages k _ within

  flag_after : allocated_in (Some (with_allocated (page_of_class class (page_at s.pages k)) i true)) (i * size_of class) ≡ true
  flag_after =
      let p = page_of_class class (page_at s.pages k) in
      let d = divided i (size_of class) low in
      let q : (i * size_of class) / size_of p.class ≡ i = subst (λ c. (i * size_of class) / size_of c ≡ i) (sym class_is) d.1 in
      let z : (i * size_of class) % size_of p.class ≡ 0 = subst (λ c. (i * size_of class) % size_of c ≡ 0) (sym class_is) d.0 in
      let b : i < length p.allocated = slice_get_within p.allocated i false was_free in
      ap (λ n. eqb n 0 && get_or (set p.allocated i true) ((i * size_of class) / size_of p.class) false) z ∙ ap (λ n. get_or (set p.allocated i true) n false) q ∙ get_or-set_same p.allocated i true false b

  pub allocated_after : (words : List ℕ) → is_allocated (record { pages = set s.pages k (Some (with_allocated (page_of_class class (page_at s.pages k)) i true)); words = words }) (address_of class k i) ≡ true
  unfolding is_allocated
  allocated_after words =
      ap (λ n. allocated_in (page_at (set s.pages k (Some (with_allocated (page_of_class class (page_at s.pages k)) i true))) n) ((address_of class k i) % 2048)) page_place
      ∙ ap (λ q. allocated_in q ((address_of class k i) % 2048)) new_page ∙ ap (allocated_in (Some (with_allocated (page_of_class class (page_at s.pages k)) i true))) offset_is ∙ flag_after

  same_or : (a b : ℕ) → (a ≡ b) ⊎ (a ≢ b)
  same_or a b = grind arith

  place_is : (b : ℕ) → b / 2048 ≡ k → b % 2048 ≡ i * size_of class → b ≡ address_of class k i
  place_is b e f = omega (arith, e, f)

  pub same_after : (words : List ℕ) (b : ℕ) → b ≢ address_of class k i → is_allocated (record { pages = set s.pages k (Some (with_allocated (page_of_class class (page_at s.pages k)) i true)); words = words }) b ≡ is_allocated s b
  unfolding is_allocated
  same_after words b ne = elim (same_or (b / 2048) k) [
    | inl e ↦ ap (λ n. allocated_in (page_at (set s.pages k (Some (with_allocated (page_of_class class (page_at s.pages k)) i true))) n) (b % 2048)) e
        ∙ ap (λ q. allocated_in q (b % 2048)) new_page
        ∙ more_allocated class i (b % 2048) (page_at s.pages k) chosen (λ z. ne (place_is b e z))
        ∙ ap (λ n. allocated_in (page_at s.pages n) (b % 2048)) (sym e)
    | inr d ↦ ap (λ q. allocated_in q (b % 2048)) (set_other s.pages k (b / 2048) _ d)
  ]

  size_kept : (q : Option Page) (o : ℕ) → Chosen class q → allocated_in q o ≡ true → size_in (Some (with_allocated (page_of_class class q) i true)) ≡ size_in q
  size_kept q o (WasFree e) h = let n : allocated_in None o ≡ true = subst (λ x. allocated_in x o ≡ true) e h in absurd (cc)
  size_kept q o (WasUsed p e is) h = subst (λ x. size_in (Some (with_allocated (page_of_class class x) i true)) ≡ size_in x) (sym e) refl

  -- a block that was allocated has its size still
  pub size_after : (words : List ℕ) (b : ℕ) → is_allocated s b ≡ true → size_at (record { pages = set s.pages k (Some (with_allocated (page_of_class class (page_at s.pages k)) i true)); words = words }) b ≡ size_at s b
  unfolding is_allocated size_at
  size_after words b h = elim (same_or (b / 2048) k) [
    | inl e ↦ ap (λ n. size_in (page_at (set s.pages k (Some (with_allocated (page_of_class class (page_at s.pages k)) i true))) n)) e
        ∙ ap size_in new_page
        ∙ size_kept (page_at s.pages k) (b % 2048) chosen (subst (λ n. allocated_in (page_at s.pages n) (b % 2048) ≡ true) e h)
        ∙ ap (λ n. size_in (page_at s.pages n)) (sym e)
    | inr d ↦ ap size_in (set_other s.pages k (b / 2048) _ d)
  ]

  pub size_here : (words : List ℕ) → size_at (record { pages = set s.pages k (Some (with_allocated (page_of_class class (page_at s.pages k)) i true)); words = words }) (address_of class k i) ≡ size_of class
  unfolding size_at
  size_here words =
      ap (λ n. size_in (page_at (set s.pages k (Some (with_allocated (page_of_class class (page_at s.pages k)) i true))) n)) page_place
      ∙ ap size_in new_page ∙ ap size_of class_is

  page_after : (j : ℕ) (p : Page) → slice_get (set s.pages k (Some (with_allocated (page_of_class class (page_at s.pages k)) i true))) j ≡ Some (Some p) → IsPage p
  page_after j p e = elim (same_or j k) [
    | inl z ↦ (let g : page_at (set s.pages k (Some (with_allocated (page_of_class class (page_at s.pages k)) i true))) k ≡ Some p = get_or_from_slice_get _ k (Some p) None (subst (λ n. slice_get (set s.pages k (Some (with_allocated (page_of_class class (page_at s.pages k)) i true))) n ≡ Some (Some p)) z e) in
        let m : Some (with_allocated (page_of_class class (page_at s.pages k)) i true) ≡ Some p = sym new_page ∙ g in
        let t : with_allocated (page_of_class class (page_at s.pages k)) i true ≡ p = cc in
        subst IsPage t (with_is (page_of_class class (page_at s.pages k)) i is_page))
    | inr d ↦ (let g : page_at (set s.pages k (Some (with_allocated (page_of_class class (page_at s.pages k)) i true))) j ≡ Some p = get_or_from_slice_get _ j (Some p) None e in
        let n : j < length s.pages = subst (λ z. j < z) (length-set s.pages k _) (slice_get_within _ j (Some p) e) in
        whole.pages j p (slice_get-get_or s.pages j None n ∙ ap Some (sym (set_other s.pages k j _ d) ∙ g)))
  ]

  words_after : (words : List ℕ) → length s.words ≤ length words → 2048 * k + 2048 ≤ length words → (j : ℕ) (p : Page) → slice_get (set s.pages k (Some (with_allocated (page_of_class class (page_at s.pages k)) i true))) j ≡ Some (Some p) → 2048 * j + 2048 ≤ length words
  words_after words more long j p e = elim (same_or j k) [
    | inl z ↦ subst (λ n. 2048 * n + 2048 ≤ length words) (sym z) long
    | inr d ↦ (let g : page_at (set s.pages k (Some (with_allocated (page_of_class class (page_at s.pages k)) i true))) j ≡ Some p = get_or_from_slice_get _ j (Some p) None e in
        let n : j < length s.pages = subst (λ z. j < z) (length-set s.pages k _) (slice_get_within _ j (Some p) e) in
        let w : 2048 * j + 2048 ≤ length s.words = whole.words j p (slice_get-get_or s.pages j None n ∙ ap Some (sym (set_other s.pages k j _ d) ∙ g)) in
        omega (arith, w, more))
  ]

  pub whole_after : (words : List ℕ) → length s.words ≤ length words → 2048 * k + 2048 ≤ length words → IsStore (record { pages = set s.pages k (Some (with_allocated (page_of_class class (page_at s.pages k)) i true)); words = words })
  whole_after words more long = record {
    pages = page_after;
    words = words_after words more long;
    few = subst (λ n. n ≤ 1048576) (sym (length-set s.pages k _)) whole.few;
  }

  module _ (long : 2048 * k + 2048 ≤ length s.words) where
    pub few_words : address_of class k i + size_of class ≤ length s.words
    few_words = omega (arith, fit, long)

  module _ (long : 2048 * k + 2048 ≤ length s.words) (identity : ℕ) (h : Header) (fits : HeaderFits h) (room : cell_count h + 4 ≤ size_of class) where
    text_length : length (new_words (address_of class k i) h identity) ≡ cell_count h + 4
    text_length = omega (arith, length-replicate {A = ℕ} (cell_count h) 0)

    kept_length : length (spliced s.words (address_of class k i) (new_words (address_of class k i) h identity)) ≡ length s.words
    kept_length = length-spliced s.words (new_words (address_of class k i) h identity) (address_of class k i) (omega (arith, text_length, room, few_words long))

    after : Store
    after = record { pages = set s.pages k (Some (with_allocated (page_of_class class (page_at s.pages k)) i true)); words = spliced s.words (address_of class k i) (new_words (address_of class k i) h identity) }

    pub made_store : IsStore (record { pages = set s.pages k (Some (with_allocated (page_of_class class (page_at s.pages k)) i true)); words = spliced s.words (address_of class k i) (new_words (address_of class k i) h identity) })
    made_store = whole_after _ (omega (arith, kept_length)) (omega (arith, kept_length, long))

    apart_from : (b : ℕ) → is_allocated s b ≡ true → (b + size_at s b ≤ address_of class k i) ⊎ (address_of class k i + size_of class ≤ b)
    apart_from b allocated =
        let words = spliced s.words (address_of class k i) (new_words (address_of class k i) h identity) in
        let t : Store = record { pages = set s.pages k (Some (with_allocated (page_of_class class (page_at s.pages k)) i true)); words = words } in
        let ne : b ≢ address_of class k i = λ e. absurd (false_true (sym free_before ∙ subst (λ x. is_allocated s x ≡ true) e allocated)) in
        let allocated' : is_allocated t b ≡ true = same_after words b ne ∙ allocated in
        let found : (b + size_at t b ≤ address_of class k i) ⊎ (address_of class k i + size_at t (address_of class k i) ≤ b) = apart t b (address_of class k i) (allocated_place t b made_store allocated') (allocated_place t (address_of class k i) made_store (allocated_after words)) ne in
        subst (λ n. (b + n ≤ address_of class k i) ⊎ (address_of class k i + size_of class ≤ b)) (size_after words b allocated)
        (subst (λ n. (b + size_at t b ≤ address_of class k i) ⊎ (address_of class k i + n ≤ b)) (size_here words) found)
      where
        false_true : false ≡ true → ⊥
        false_true e = cc

    pub adds : Adds s (record { pages = set s.pages k (Some (with_allocated (page_of_class class (page_at s.pages k)) i true)); words = spliced s.words (address_of class k i) (new_words (address_of class k i) h identity) }) (address_of class k i) (new_record (address_of class k i) h identity)
    unfolding record_of
    adds =
        let a = address_of class k i in
        let words = spliced s.words a (new_words a h identity) in record {
          free = free_before;
          allocated = allocated_after words;
          here = ap (record_at words a) (size_here words) ∙ new_block_here s.words a (size_of class) identity h fits room (few_words long);
          others = λ b allocated. ap (record_at words b) (size_after words b allocated) ∙ new_block_others s.words a (size_of class) identity b (size_at s b) h room (few_words long) (apart_from b allocated);
          same = λ b ne. same_after words b ne;
        }
