-- A block moved, with the records: the words may have changed in free blocks when a place was received, and
-- both writes are of allocated blocks.
use Rattle.std.proofs.Common.{◌≡◌, ◌≢◌, ℕ, ◌+◌, ◌*◌, ◌/◌, ◌<◌, ◌≤◌, true, false, List, Option, Some, length, get_or, set, drop, ap, ◌∙◌, sym, subst, arith, length-set}
use Rattle.std.specs.Prelude.{IfSome, IsSomeAnd}
use Rattle.std.proofs.lemmas.List.{get_or-set_same, get_or-set_other, get_or-take, get_or-drop}
use Rattle.std.proofs.lemmas.Option.{slice_get_within}
use Rattle.size_classes.specs.declared.class.TheConstants.{CLASSES}
use Rattle.size_classes.specs.Sizes.{size_of}
use Rattle.size_classes.proofs.Table.{size_low}
use Rattle.heap_model.specs.Action.{MovesBlock}
use Rattle.heap_model.specs.Block.{words_at, spliced}
use Rattle.heap_model.specs.Pages.{Page, page_at, with_allocated, IsOpen}
use Rattle.heap_model.specs.Store.{Store, IsStore, size_in, size_at, is_allocated, address_of}
use Rattle.headers.proofs.Fields.{length-words_at}
use Rattle.pages.specs.declared.page.PageRow.{PageRow}
use Rattle.pages.specs.Together.{joined, pages_in, Together, KeepsAllocated}
use Rattle.pages.proofs.Writing.{WritesBlock}
use Rattle.nodes.specs.Joined.{IsHeader, AreBlockRecords}
use Rattle.nodes.specs.Links.{CopiesLink}
use Rattle.nodes.specs.Moving.{CanMove}
use Rattle.nodes.proofs.Blocks.{block_by}
use Rattle.nodes.proofs.Carried.{moves_then}
use Rattle.nodes.proofs.Headers.{header_after, word_after}
use Rattle.nodes.proofs.Joining.{AllocatedBlock, allocated_block, writes_first, writes_spliced, same_pages, still_store, still_together, word_kept, word_spliced}
use Rattle.nodes.proofs.Linked.{no_link}
use Rattle.nodes.proofs.Moving.{clash, from, target, received, forwarded, words_after, after_move, four, source_words, target_words, source_allocated, target_free, target_size, size_after, same_allocated, received_store, moved_store, target_allocated, moves}
use Rattle.nodes.proofs.Places.{allocated_place}

module _ (rows : List (Option PageRow)) (words : List ℕ) (t : Store) (is : joined rows words ≡ t) (are : AreBlockRecords rows words) (page index to : ℕ) (m : CanMove t.pages page index to) (size : ℕ) (size_is : size ≡ size_in (page_at t.pages page)) where
  can : CanMove (pages_in rows words) page index to
  can = subst (λ (x : Store). CanMove x.pages page index to) (sym is) m

  source_there : size ≡ size_of can.source.class
  source_there = size_is ∙ ap (λ (x : Store). size_in (page_at x.pages page)) (sym is) ∙ ap size_in can.from

  allocated_below : index < length can.source.allocated
  allocated_below = slice_get_within can.source.allocated index true can.allocated

  pub source_fit : (page < 1048576) × (index * size + size ≤ 2048)
  source_fit = block_by (joined rows words) are.whole page index can.source can.from allocated_below size source_there

  module _ (place : ℕ) (is_open : IsSomeAnd (page_at (pages_in rows words) to) (λ q. IsOpen q place)) where
    free : IsOpen can.target place
    free = subst (λ o. IsSomeAnd o (λ q. IsOpen q place)) can.into is_open

    pub open_by : IsSomeAnd (page_at t.pages to) (λ q. IsOpen q place)
    open_by = subst (λ (x : Store). IsSomeAnd (page_at x.pages to) (λ q. IsOpen q place)) is is_open

    target_there : size ≡ size_of can.target.class
    target_there = source_there ∙ ap size_of (sym can.class)

    pub target_fit : (to < 1048576) × (place * size + size ≤ 2048)
    target_fit = block_by (joined rows words) are.whole to place can.target can.into (slice_get_within can.target.allocated place false free) size target_there

    module _ (mid : List ℕ) (kept : KeepsAllocated (pages_in rows words) words mid) where
      abbrev midway : Store
      midway = record { pages = pages_in rows words; words = mid }

      whole : IsStore midway
      whole = still_store (pages_in rows words) words mid kept.len are.whole

      -- as the move has them: the addresses, the pages and the words after each write
      abbrev old_at : ℕ
      old_at = from midway whole page index to can place free

      abbrev new_at : ℕ
      new_at = target midway whole page index to can place free

      abbrev pages_then : List (Option Page)
      pages_then = set (pages_in rows words) to (Some (received midway whole page index to can place free))

      abbrev forwarded_then : List ℕ
      forwarded_then = forwarded midway whole page index to can place free

      abbrev words_then : List ℕ
      words_then = words_after midway whole page index to can place free

      four_words : 4 ≤ size
      four_words = omega (arith, source_there, four midway whole page index to can place free)

      old_allocated : is_allocated midway old_at ≡ true
      old_allocated = source_allocated midway whole page index to can place free

      module _ (a b : ℕ) (a_is : a ≡ 2048 * page + index * size) (b_is : b ≡ 2048 * to + place * size) where
        from_is : a ≡ old_at
        from_is = a_is ∙ ap (λ n. 2048 * page + index * n) source_there

        target_is : b ≡ new_at
        target_is = b_is ∙ ap (λ n. 2048 * to + place * n) target_there

        small : b ≤ 2147483648
        small = omega (arith, b_is, target_fit.0, target_fit.1)

        from_fits : a + size ≤ length mid
        from_fits = let f = source_words midway whole page index to can place free in omega (arith, f, from_is, source_there)

        to_fits : b + size ≤ length mid
        to_fits = let f = target_words midway whole page index to can place free in omega (arith, f, target_is, source_there)

        pub from_there : a < length mid
        from_there = omega (arith, from_fits, four_words)

        pub both_fit : (first : List ℕ) → first ≡ set mid a b → (a + size ≤ length first) × (b + size ≤ length first)
        both_fit first e = let l : length first ≡ length mid = ap (λ w. length w) e ∙ length-set mid a b in (omega (arith, from_fits, l), omega (arith, to_fits, l))

        module _ (after : List (Option PageRow)) (together : Together after mid)
            (given : IfSome (page_at (pages_in rows words) to) (λ q. pages_in after mid ≡ set (pages_in rows words) to (Some (record (with_allocated q place true) { is_target = true }))))
            (first second : List ℕ) (first_is : first ≡ set mid a b) (second_is : second ≡ spliced first b (words_at first a size)) where
          pages_mid : pages_in after mid ≡ pages_then
          pages_mid = subst (λ o. IfSome o (λ q. pages_in after mid ≡ set (pages_in rows words) to (Some (record (with_allocated q place true) { is_target = true })))) can.into given

          -- The old copy stays allocated.
          source_allocated_then : is_allocated (joined after mid) a ≡ true
          unfolding is_allocated
          source_allocated_then =
              ap (λ (g : List (Option Page)). is_allocated (record { pages = g; words = mid }) a) pages_mid ∙ ap (is_allocated (record { pages = pages_then; words = mid })) from_is
              ∙ same_allocated midway whole page index to can place free old_at source_other ∙ old_allocated
            where
              source_other : old_at ≢ new_at
              source_other e = clash old_allocated (ap (is_allocated midway) e ∙ target_free midway whole page index to can place free)

          source_block : AllocatedBlock after mid a
          source_block = allocated_block after mid a source_allocated_then

          source_low : 4 ≤ size_of source_block.row.class
          source_low = size_low source_block.row.class (subst (λ o. IfSome o (λ r. r.class < CLASSES)) source_block.row_is (together.classes (a / 2048)))

          forwards : WritesBlock mid first a (size_of source_block.row.class)
          forwards = writes_first mid first a (size_of source_block.row.class) b small (omega (arith, source_low)) (omega (arith, from_fits, four_words)) first_is

          pages_first : pages_in after first ≡ pages_then
          pages_first = same_pages after mid first together a source_block forwards ∙ pages_mid

          together_first : Together after first
          together_first = still_together after mid first together a source_block forwards

          -- The copy is allocated.
          target_allocated_then : is_allocated (joined after first) b ≡ true
          unfolding is_allocated
          target_allocated_then =
              ap (λ (g : List (Option Page)). is_allocated (record { pages = g; words = first }) b) pages_first
              ∙ ap (is_allocated (record { pages = pages_then; words = first })) target_is
              ∙ target_allocated midway whole page index to can place free

          target_block : AllocatedBlock after first b
          target_block = allocated_block after first b target_allocated_then

          target_size_then : size_of target_block.row.class ≡ size
          target_size_then =
              sym target_block.size ∙ ap (λ (g : List (Option Page)). size_at (record { pages = g; words = first }) b) pages_first
              ∙ ap (size_at (record { pages = pages_then; words = first })) target_is
              ∙ size_after midway whole page index to can place free first new_at ∙ target_size midway whole page index to can place free ∙ sym source_there

          copy_length : length (words_at first a size) ≡ size
          copy_length = length-words_at first a size (both_fit first first_is).0

          copy_first : get_or (words_at first a size) 0 0 ≡ b
          copy_first =
              get_or-take size (drop a first) 0 0 (omega (arith, four_words)) ∙ get_or-drop a first 0 0
              ∙ ap (λ n. get_or first n 0) (let e : a + 0 ≡ a = omega arith in e) ∙ ap (λ w. get_or w a 0) first_is
              ∙ get_or-set_same mid a b 0 (omega (arith, from_fits, four_words))

          copies : WritesBlock first second b (size_of target_block.row.class)
          copies =
              writes_spliced first second (words_at first a size) b (size_of target_block.row.class) (let f = (both_fit first first_is).1 in omega (arith, f, copy_length))
              (omega (arith, copy_length, four_words)) (omega (arith, copy_length, target_size_then)) (omega (arith, copy_first, small)) second_is

          pages_second : pages_in after second ≡ pages_then
          pages_second = same_pages after first second together_first b target_block copies ∙ pages_first

          words_are : second ≡ words_then
          words_are =
              second_is ∙ ap (λ l. spliced l b (words_at l a size)) (first_is ∙ ap (λ n. set mid n b) from_is ∙ ap (set mid old_at) target_is)
              ∙ ap (λ k. spliced forwarded_then b (words_at forwarded_then k size)) from_is
              ∙ ap (λ k. spliced forwarded_then k (words_at forwarded_then old_at size)) target_is
              ∙ ap (λ k. spliced forwarded_then new_at (words_at forwarded_then old_at k)) source_there

          both : (P : Store → Type 0) → P (after_move midway whole page index to can place free) → P (joined after second)
          both P p =
              subst (λ w. P (record { pages = pages_in after second; words = w })) (sym words_are)
              (subst (λ g. P (record { pages = g; words = words_then })) (sym pages_second) p)

          -- Word 1 of each block is a header.
          header_then : (x : ℕ) → is_allocated (joined rows words) x ≡ true → IsHeader (get_or mid (x + 1) 0)
          header_then x was =
              let low = (allocated_place (joined rows words) x are.whole was).size in
              subst IsHeader (sym (word_kept (pages_in rows words) words mid kept x was 1 (omega (arith, low)))) (are.headers x was)

          source_header : IsHeader (get_or first (a + 1) 0)
          unfolding is_allocated
          source_header =
              subst IsHeader (sym (ap (λ w. get_or w (a + 1) 0) first_is ∙ get_or-set_other mid a (a + 1) b 0 (omega arith)))
              (header_then a (ap (is_allocated midway) from_is ∙ old_allocated))

          target_header : IsHeader (get_or second (b + 1) 0)
          target_header =
              let fit = both_fit first first_is in
              subst IsHeader
              (sym (ap (λ w. get_or w (b + 1) 0) second_is ∙ word_spliced first (words_at first a size) b 1 (omega (arith, fit.1, copy_length)) (omega (arith, copy_length, four_words))
              ∙ get_or-take size (drop a first) 1 0 (omega (arith, four_words)) ∙ get_or-drop a first 1 0))
              source_header

          store_with : (w : List ℕ) → length mid ≤ length w → pages_in after w ≡ pages_then → IsStore (joined after w)
          store_with w e same =
              subst (λ (g : List (Option Page)). IsStore (record { pages = g; words = w })) (sym same)
              (still_store pages_then mid w e (received_store midway whole page index to can place free))

          headers_first : (x : ℕ) → is_allocated (joined after mid) x ≡ true → x ≢ b → IsHeader (get_or first (x + 1) 0)
          unfolding is_allocated
          headers_first x allocated ne =
              header_after (pages_in after mid) mid first (store_with mid (omega arith) pages_mid) a (size_of source_block.row.class) source_block.size source_allocated_then forwards source_header x allocated
              (λ _. header_then x (sym (ap (λ (g : List (Option Page)). is_allocated (record { pages = g; words = mid }) x) pages_mid ∙ same_allocated midway whole page index to can place free x (λ e. ne (e ∙ sym target_is))) ∙ allocated))

          headers_second : (x : ℕ) → is_allocated (joined after second) x ≡ true → IsHeader (get_or second (x + 1) 0)
          unfolding is_allocated
          headers_second x allocated =
              let allocated_first : is_allocated (joined after first) x ≡ true = sym (ap (λ (g : List (Option Page)). is_allocated (record { pages = g; words = second }) x) (pages_second ∙ sym pages_first)) ∙ allocated in
              let allocated_mid : is_allocated (joined after mid) x ≡ true = sym (ap (λ (g : List (Option Page)). is_allocated (record { pages = g; words = first }) x) (pages_first ∙ sym pages_mid)) ∙ allocated_first in
              header_after (pages_in after first) first second (store_with first (let l : length first ≡ length mid = ap (λ w. length w) first_is ∙ length-set mid a b in omega (arith, l)) pages_first) b (size_of target_block.row.class) target_block.size target_allocated_then copies target_header x allocated_first
              (headers_first x allocated_mid)

          pub moved_nodes : AreBlockRecords after second
          moved_nodes = record {
            whole = both IsStore (moved_store midway whole page index to can place free);
            together = still_together after first second together_first b target_block copies;
            headers = headers_second;
          }

          pub moves_by : IfSome (page_at t.pages page) (λ p. MovesBlock t (joined after second) (address_of p.class page index) (address_of p.class to place))
          unfolding is_allocated
          moves_by =
              subst (λ (x : Store). IfSome (page_at x.pages page) (λ p. MovesBlock x (joined after second) (address_of p.class page index) (address_of p.class to place))) is
              (subst (λ o. IfSome o (λ p. MovesBlock (joined rows words) (joined after second) (address_of p.class page index) (address_of p.class to place))) (sym can.from)
              (moves_then (pages_in rows words) words mid kept are.whole (joined after second) (address_of can.source.class page index) (address_of can.source.class to place) old_allocated
              (both (λ x. MovesBlock midway x (address_of can.source.class page index) (address_of can.source.class to place)) (moves midway whole page index to can place free))))

          -- the link of a block that was allocated
          link_mid : (x : ℕ) → is_allocated (joined rows words) x ≡ true → get_or mid (x + 3) 0 ≡ get_or words (x + 3) 0
          link_mid x was = let low = (allocated_place (joined rows words) x are.whole was).size in word_kept (pages_in rows words) words mid kept x was 3 (omega (arith, low))

          link_first : (x : ℕ) → is_allocated (joined rows words) x ≡ true → get_or first (x + 3) 0 ≡ get_or words (x + 3) 0
          unfolding is_allocated
          link_first x was =
              let there : is_allocated midway x ≡ true = was in
              let source : is_allocated midway a ≡ true = ap (is_allocated midway) from_is ∙ old_allocated in
              ap (λ w. get_or w (x + 3) 0) first_is ∙ get_or-set_other mid a (x + 3) b 0 (λ e. no_link midway whole a source 0 (omega (arith, (allocated_place midway a whole source).size)) (λ z. absurd (omega (arith, z))) x there (omega (arith, e))) ∙ link_mid x was

          link_second : (x : ℕ) → is_allocated (joined rows words) x ≡ true → get_or second (x + 3) 0 ≡ get_or words (x + 3) 0
          unfolding is_allocated
          link_second x was =
              let ne : x ≢ new_at = λ e. clash was (ap (is_allocated midway) e ∙ target_free midway whole page index to can place free) in
              let still : is_allocated (joined after first) x ≡ true =
              ap (λ (g : List (Option Page)). is_allocated (record { pages = g; words = first }) x) pages_first ∙ same_allocated midway whole page index to can place free x ne ∙ was in
              let sound : IsStore (joined after first) = store_with first (let l : length first ≡ length mid = ap (λ w. length w) first_is ∙ length-set mid a b in omega (arith, l)) pages_first in
              word_after (pages_in after first) first second sound b (size_of target_block.row.class) target_block.size target_allocated_then copies x still (λ e. ne (e ∙ target_is)) 3 (allocated_place (joined after first) x sound still).size
              ∙ link_first x was

          -- The link of the copy is that of the old copy.
          link_copied : get_or second (b + 3) 0 ≡ get_or words (a + 3) 0
          unfolding is_allocated
          link_copied =
              let fit = both_fit first first_is in
              ap (λ w. get_or w (b + 3) 0) second_is ∙ word_spliced first (words_at first a size) b 3 (omega (arith, fit.1, copy_length)) (omega (arith, copy_length, four_words))
              ∙ get_or-take size (drop a first) 3 0 (omega (arith, four_words)) ∙ get_or-drop a first 3 0
              ∙ link_first a (ap (is_allocated midway) from_is ∙ old_allocated)

          copies_link : CopiesLink (joined rows words) (joined after second) (address_of can.source.class page index) (address_of can.source.class to place)
          copies_link = record {
            copy =
                ap (λ n. get_or second (n + 3) 0) (sym (b_is ∙ ap (λ n. 2048 * to + place * n) source_there)) ∙ link_copied
                ∙ ap (λ n. get_or words (n + 3) 0) from_is;
            each = link_second;
          }

          pub copies_by : IfSome (page_at t.pages page) (λ p. CopiesLink t (joined after second) (address_of p.class page index) (address_of p.class to place))
          copies_by =
              subst (λ (x : Store). IfSome (page_at x.pages page) (λ p. CopiesLink x (joined after second) (address_of p.class page index) (address_of p.class to place))) is
              (subst (λ o. IfSome o (λ p. CopiesLink (joined rows words) (joined after second) (address_of p.class page index) (address_of p.class to place))) (sym can.from) copies_link)

          pub pages_by : IfSome (page_at t.pages to) (λ q. pages_in after second ≡ set t.pages to (Some (record (with_allocated q place true) { is_target = true })))
          pages_by =
              subst (λ (x : Store). IfSome (page_at x.pages to) (λ q. pages_in after second ≡ set x.pages to (Some (record (with_allocated q place true) { is_target = true })))) is
              (subst (λ o. IfSome o (λ q. pages_in after second ≡ set (pages_in rows words) to (Some (record (with_allocated q place true) { is_target = true })))) (sym can.into) pages_second)
