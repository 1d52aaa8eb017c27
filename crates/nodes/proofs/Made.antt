-- A part made, as the code knows it: of the value t as which the fields s are seen.
use Rattle.std.proofs.Common.{◌≡◌, ◌≢◌, ℕ, ◌+◌, ◌*◌, ◌/◌, ◌<◌, ◌≤◌, true, false, List, ◌∷◌, Option, Some, length, get_or, set, replicate, ap, ◌∙◌, sym, subst, arith, inl, inr}
use Rattle.std.proofs.lemmas.Bool.{cases_eq}
use Rattle.std.proofs.lemmas.List.{length-replicate}
use Rattle.heap_model.specs.Header.{Header, HeaderFits, header_word}
use Rattle.heap_model.specs.Block.{cell_count, new_record, new_words, spliced}
use Rattle.heap_model.specs.Pages.{Page, page_for, page_at, page_of_class, with_allocated, IsOpen, TakesBlock}
use Rattle.heap_model.specs.Store.{Store, IsStore, Adds, is_allocated, size_at, address_of}
use Rattle.size_classes.specs.declared.class.TheConstants.{CLASSES}
use Rattle.size_classes.specs.Sizes.{size_of}
use Rattle.pages.specs.declared.page.PageRow.{PageRow}
use Rattle.pages.specs.Together.{joined, pages_in, Together, KeepsAllocated}
use Rattle.pages.proofs.Telling.{words_present}
use Rattle.pages.proofs.Writing.{WritesBlock}
use Rattle.nodes.specs.Joined.{IsHeader, AreBlockRecords}
use Rattle.nodes.specs.Links.{link_of, KeepsLinks}
use Rattle.nodes.proofs.Headers.{packed_header, word_after, header_after}
use Rattle.nodes.proofs.Places.{allocated_place}
use Rattle.nodes.proofs.Carried.{adds_then}
use Rattle.nodes.proofs.Joining.{AllocatedBlock, allocated_block, writes_spliced, same_pages, still_store, still_together, through, word_kept, word_spliced}
use Rattle.nodes.proofs.Making.{fit, within, page_place, free_before, allocated_after, same_after, whole_after, size_here, made_store, adds}

module _ (s t : Store) (is : s ≡ t) (whole : IsStore s) (class k i size : ℕ) (small : class < CLASSES) (size_is : size ≡ size_of class) (found : page_for s.pages class ≡ Some k) (was_free : IsOpen (page_of_class class (page_at s.pages k)) i) where
  pub block_small : i * size + size ≤ 2048
  block_small =
      let f : (i + 1) * size ≤ 2048 = subst (λ n. (i + 1) * n ≤ 2048) (sym size_is) (fit s whole class k i small found was_free) in
      let e : (i + 1) * size ≡ i * size + size = grind arith in omega (arith, f, e)

  pub page_small : k < 1048576
  page_small = omega (arith, within s whole class k i small found was_free, whole.few)

  module _ (address : ℕ) (at : address ≡ 2048 * k + i * size) where
    pub address_within : address ≤ 2147483648
    address_within = omega (arith, at, block_small, page_small)

    address_is : address ≡ address_of class k i
    address_is = at ∙ ap (λ n. 2048 * k + i * n) size_is

    pub words_there : (words : List ℕ) → 2048 * k + 2048 ≤ length words → (cells : ℕ) → cells + 4 ≤ size_of class → address + (4 + cells) ≤ length words
    words_there words long cells room = let f = fit s whole class k i small found was_free in omega (arith, f, long, address_is)

    pub page_by : page_for t.pages class ≡ Some (address / 2048)
    page_by =
        subst (λ (x : Store). page_for x.pages class ≡ Some (address / 2048)) is
        (found ∙ ap Some (sym (ap (λ n. n / 2048) address_is ∙ page_place s whole class k i small found was_free)))

    module _ (h : Header) (fits : HeaderFits h) (identity cells : ℕ) (count : cells ≡ cell_count h) (room : cells + 4 ≤ size_of class)
        (pages : List (Option Page)) (taken : pages ≡ set s.pages k (Some (with_allocated (page_of_class class (page_at s.pages k)) i true))) (mid : List ℕ) (kept : KeepsAllocated s.pages s.words mid) (long : 2048 * k + 2048 ≤ length mid)
        (words : List ℕ) (begun : words ≡ spliced mid address (address ∷ header_word h ∷ identity ∷ 0 ∷ replicate cells 0)) where
      room' : cell_count h + 4 ≤ size_of class
      room' = subst (λ n. n + 4 ≤ size_of class) count room

      abbrev midway : Store
      midway = record { pages = s.pages; words = mid }

      midway_whole : IsStore midway
      midway_whole = still_store s.pages s.words mid kept.len whole

      words_are : words ≡ spliced mid (address_of class k i) (new_words (address_of class k i) h identity)
      words_are =
          begun ∙ ap (λ a. spliced mid a (a ∷ header_word h ∷ identity ∷ 0 ∷ replicate cells 0)) address_is
          ∙ ap (λ n. spliced mid (address_of class k i) (address_of class k i ∷ header_word h ∷ identity ∷ 0 ∷ replicate n 0)) count

      both : (P : Store → Type 0) → P (record { pages = set s.pages k (Some (with_allocated (page_of_class class (page_at s.pages k)) i true)); words = spliced mid (address_of class k i) (new_words (address_of class k i) h identity) }) → P (record { pages = pages; words = words })
      both P p =
          subst (λ w. P (record { pages = pages; words = w })) (sym words_are)
          (subst (λ g. P (record { pages = g; words = spliced mid (address_of class k i) (new_words (address_of class k i) h identity) })) (sym taken) p)

      pub store_by : IsStore (record { pages = pages; words = words })
      store_by = both IsStore (made_store midway midway_whole class k i small found was_free long identity h fits room')

      pub adds_by : Adds t (record { pages = pages; words = words }) address (new_record address h identity)
      adds_by =
          subst (λ (x : Store). Adds x (record { pages = pages; words = words }) address (new_record address h identity)) is
          (subst (λ a. Adds s (record { pages = pages; words = words }) a (new_record a h identity)) (sym address_is)
          (adds_then s.pages s.words mid kept whole (record { pages = pages; words = words }) (address_of class k i) (new_record (address_of class k i) h identity)
          (both (λ x. Adds midway x (address_of class k i) (new_record (address_of class k i) h identity)) (adds midway midway_whole class k i small found was_free long identity h fits room'))))

-- with the records: the part is written in a block that is allocated by then
module _ (rows : List (Option PageRow)) (words : List ℕ) (t : Store) (is : joined rows words ≡ t) (are : AreBlockRecords rows words) (class k i size : ℕ) (small : class < CLASSES) (size_is : size ≡ size_of class)
    (found : page_for (pages_in rows words) class ≡ Some k) (was_free : IsOpen (page_of_class class (page_at (pages_in rows words) k)) i) (address : ℕ) (at : address ≡ 2048 * k + i * size)
    (h : Header) (fits : HeaderFits h) (identity cells : ℕ) (count : cells ≡ cell_count h) (room : cells + 4 ≤ size_of class)
    (after : List (Option PageRow)) (mid : List ℕ) (together : Together after mid) (taken : pages_in after mid ≡ set (pages_in rows words) k (Some (with_allocated (page_of_class class (page_at (pages_in rows words) k)) i true)))
    (kept : KeepsAllocated (pages_in rows words) words mid) where
  there : address ≡ address_of class k i
  there = at ∙ ap (λ n. 2048 * k + i * n) size_is

  now_allocated : is_allocated (joined after mid) address ≡ true
  now_allocated =
      ap (is_allocated (joined after mid)) there
      ∙ ap (λ (g : List (Option Page)). is_allocated (record { pages = g; words = mid }) (address_of class k i)) taken ∙ allocated_after (joined rows words) are.whole class k i small found was_free mid

  block : AllocatedBlock after mid address
  block = allocated_block after mid address now_allocated

  size_there : size_of block.row.class ≡ size_of class
  size_there =
      sym block.size ∙ ap (size_at (joined after mid)) there
      ∙ ap (λ (g : List (Option Page)). size_at (record { pages = g; words = mid }) (address_of class k i)) taken ∙ size_here (joined rows words) are.whole class k i small found was_free mid

  others_length : length (address ∷ header_word h ∷ identity ∷ 0 ∷ replicate cells 0) ≡ cells + 4
  others_length = omega (arith, length-replicate {A = ℕ} cells 0)

  -- the page has its words
  long : 2048 * k + 2048 ≤ length mid
  long =
      subst (λ n. 2048 * n + 2048 ≤ length mid) (ap (λ n. n / 2048) there ∙ page_place (joined rows words) are.whole class k i small found was_free)
      (words_present after mid together (address / 2048) block.row block.row_is)

  pub words_fit : address + (4 + cells) ≤ length mid
  words_fit = words_there (joined rows words) t is are.whole class k i size small size_is found was_free address at mid long cells room

  module _ (new : List ℕ) (begun : new ≡ spliced mid address (address ∷ header_word h ∷ identity ∷ 0 ∷ replicate cells 0)) where
    write : WritesBlock mid new address (size_of block.row.class)
    write =
        writes_spliced mid new (address ∷ header_word h ∷ identity ∷ 0 ∷ replicate cells 0) address (size_of block.row.class)
        (omega (arith, words_fit, others_length))
        (omega (arith, others_length)) (omega (arith, others_length, room, size_there))
        (address_within (joined rows words) t is are.whole class k i size small size_is found was_free address at) begun

    pub pages_made : pages_in after new ≡ set (pages_in rows words) k (Some (with_allocated (page_of_class class (page_at (pages_in rows words) k)) i true))
    pages_made = same_pages after mid new together address block write ∙ taken

    -- word 1 of the block, and of those that were allocated before
    header_here : IsHeader (get_or new (address + 1) 0)
    header_here =
        subst IsHeader (sym (ap (λ w. get_or w (address + 1) 0) begun ∙ word_spliced mid (address ∷ header_word h ∷ identity ∷ 0 ∷ replicate cells 0) address 1 (omega (arith, words_fit, others_length)) (omega (arith, others_length)))) (packed_header h fits)

    header_before : (b : ℕ) → is_allocated (joined after mid) b ≡ true → b ≢ address → IsHeader (get_or mid (b + 1) 0)
    header_before b allocated ne =
        let was : is_allocated (joined rows words) b ≡ true =
        sym (ap (λ (g : List (Option Page)). is_allocated (record { pages = g; words = mid }) b) taken ∙ same_after (joined rows words) are.whole class k i small found was_free mid b (λ e. ne (e ∙ sym there))) ∙ allocated in
        let low = (allocated_place (joined rows words) b are.whole was).size in
        subst IsHeader (sym (word_kept (pages_in rows words) words mid kept b was 1 (omega (arith, low)))) (are.headers b was)

    whole_mid : IsStore (joined after mid)
    whole_mid = subst (λ (g : List (Option Page)). IsStore (record { pages = g; words = mid })) (sym taken) (whole_after (joined rows words) are.whole class k i small found was_free mid kept.len long)

    header_after_mid : (b : ℕ) → is_allocated (record { pages = pages_in after mid; words = new }) b ≡ true → IsHeader (get_or new (b + 1) 0)
    unfolding is_allocated
    header_after_mid b allocated = header_after (pages_in after mid) mid new whole_mid address (size_of block.row.class) block.size now_allocated write header_here b allocated (header_before b allocated)

    pub nodes_made : AreBlockRecords after new
    nodes_made = record {
      whole = store_by (joined rows words) t is are.whole class k i size small size_is found was_free address at h fits identity cells count room (pages_in after new) pages_made mid kept long new begun;
      together = still_together after mid new together address block write;
      headers = through after mid new together address block write (λ x. (b : ℕ) → is_allocated x b ≡ true → IsHeader (get_or new (b + 1) 0)) header_after_mid;
    }

    pub adds_made : Adds t (joined after new) address (new_record address h identity)
    adds_made = adds_by (joined rows words) t is are.whole class k i size small size_is found was_free address at h fits identity cells count room (pages_in after new) pages_made mid kept long new begun

    -- the links of those that were allocated before
    link_after : (b : ℕ) → is_allocated (joined rows words) b ≡ true → link_of (joined after new) b ≡ link_of (joined rows words) b
    link_after b was =
        let ne : b ≢ address = λ e. absurd (let f : is_allocated (joined rows words) b ≡ false = ap (is_allocated (joined rows words)) (e ∙ there) ∙ free_before (joined rows words) are.whole class k i small found was_free in let z : true ≡ false = sym was ∙ f in cc) in
        let still : is_allocated (joined after mid) b ≡ true =
        ap (λ (g : List (Option Page)). is_allocated (record { pages = g; words = mid }) b) taken ∙ same_after (joined rows words) are.whole class k i small found was_free mid b (λ e. ne (e ∙ sym there)) ∙ was in
        let low = (allocated_place (joined rows words) b are.whole was).size in
        word_after (pages_in after mid) mid new whole_mid address (size_of block.row.class) block.size now_allocated write b still ne 3 (allocated_place (joined after mid) b whole_mid still).size
        ∙ word_kept (pages_in rows words) words mid kept b was 3 (omega (arith, low))

    -- The link of the block itself is 0.
    link_fresh : (b : ℕ) → is_allocated (joined rows words) b ≡ false → is_allocated (joined after new) b ≡ true → link_of (joined after new) b ≡ 0
    link_fresh b was now = elim (cases_eq b address) [
      | inl e ↦ ap (λ n. get_or new (n + 3) 0) e ∙ ap (λ w. get_or w (address + 3) 0) begun
          ∙ word_spliced mid (address ∷ header_word h ∷ identity ∷ 0 ∷ replicate cells 0) address 3 (omega (arith, words_fit, others_length)) (omega (arith, others_length))
      | inr ne ↦ absurd (let z : true ≡ false = sym now ∙ adds_made.same b ne ∙ ap (λ (x : Store). is_allocated x b) (sym is) ∙ was in cc)
    ]

    pub links_made : KeepsLinks t (joined after new)
    links_made =
        subst (λ (x : Store). KeepsLinks x (joined after new)) is
        (record { len = omega (arith, write.len, kept.len); each = link_after; fresh = link_fresh })

-- the block was taken as the pages say
pub takes_by : (s t : Store) → s ≡ t → (class page index address : ℕ) (new : List (Option Page)) → page_for s.pages class ≡ Some page → page_for t.pages class ≡ Some (address / 2048)
    → IsOpen (page_of_class class (page_at s.pages page)) index → new ≡ set s.pages page (Some (with_allocated (page_of_class class (page_at s.pages page)) index true))
    → TakesBlock t.pages class (address / 2048) index new
takes_by s t is class page index address new e e' was now =
    let same : page ≡ address / 2048 = same_some (sym e ∙ ap (λ (x : Store). page_for x.pages class) is ∙ e') in
    subst (λ (x : Store). TakesBlock x.pages class (address / 2048) index new) is
    (subst (λ k. TakesBlock s.pages class k index new) same (record { page_is = e; was_free = was; new_is = now }))
  where
    same_some : {a b : ℕ} → Some a ≡ Some b → a ≡ b
    same_some e = cc
