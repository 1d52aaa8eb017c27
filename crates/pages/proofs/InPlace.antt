-- The record of a page in use is written where it stands.
use Rattle.std.proofs.Common.{◌≡◌, ◌≢◌, ℕ, ◌+◌, ◌-◌, ◌*◌, ◌<◌, ◌≤◌, true, false, List, Option, Some, None, length, get_or, set, ap, ◌∙◌, sym, refl, subst, arith, MutBor}
use Rattle.std.specs.Prelude.{IfSome, slice_get}
use Rattle.std.specs.Option.{option_copied_mut}
use Rattle.std.proofs.lemmas.List.{get_or_read}
use Rattle.size_classes.specs.declared.class.TheConstants.{CLASSES}
use Rattle.size_classes.specs.Sizes.{blocks_in}
use Rattle.heap_model.specs.Pages.{page_at, page_of_class, with_allocated, IsOpen}
use Rattle.heap_model.specs.Store.{address_of}
use Rattle.pages.specs.declared.bits.BitRow.{BitRow}
use Rattle.pages.specs.declared.page.PageRow.{PageRow}
use Rattle.pages.specs.BitRow.{has_bit, room_of}
use Rattle.pages.specs.FreeList.{flags_of, IsFreeList, SameOutside}
use Rattle.pages.specs.Index.{row_at, HasFree, IsIndex}
use Rattle.pages.specs.Together.{pages_in, Together, KeepsAllocated}
use Rattle.pages.proofs.Indexing.{taken_last, taken_one, some_had}
use Rattle.pages.proofs.Telling.{together_by, taken_by, open_by}
use Rattle.pages.proofs.Writing.{popped_outside, popped_keeps}

-- the record that was lent
pub lent : (rows : List (Option PageRow)) (page : ℕ) (o : Option PageRow) (m : Option (MutBor PageRow)) (r : MutBor PageRow) → page < length rows → o ≡ get_or rows page o → option_copied_mut m ≡ o → m ≡ Some r → row_at rows page ≡ Some r.now
lent rows page o m r below read copied is = sym (get_or_read rows page o below read None) ∙ sym copied ∙ ap option_copied_mut is

module _ (rows pages : List (Option PageRow)) (seen : rows ≡ pages) (usable : List BitRow) (free : BitRow) (free_blocks : List ℕ) (free_pages : ℕ) (b : IsIndex rows usable free free_blocks free_pages)
    (words new : List ℕ) (together : Together pages words) (page : ℕ) (below : page < length pages) (old row : PageRow) (lent_is : row_at rows page ≡ Some old) where
  inside : page < length rows
  inside = subst (λ l. page < length l) (sym seen) below

  there : row_at pages page ≡ Some old
  there = ap (λ l. row_at l page) (sym seen) ∙ lent_is

  after : set rows page (Some row) ≡ set pages page (Some row)
  after = ap (λ l. set l page (Some row)) seen

  known : old.class < CLASSES
  known = subst (λ o. IfSome o (λ r. r.class < CLASSES)) there (together.classes page)

  -- the row of bits and the number of the class, as they were read
  module _ (number : ℕ) (number_is : number ≡ old.class) (had : ℕ) (had_is : had ≡ get_or free_blocks number had) where
    had_there : had ≡ get_or free_blocks old.class 0
    had_there = get_or_read free_blocks number had (omega (arith, number_is, known, b.counts)) had_is 0 ∙ ap (λ n. get_or free_blocks n 0) number_is

    through : (u : ℕ → List BitRow) (f : ℕ → ℕ) → IsIndex (set rows page (Some row)) (u old.class) free (set free_blocks old.class (f (get_or free_blocks old.class 0))) free_pages
        → IsIndex (set rows page (Some row)) (u number) free (set free_blocks number (f had)) free_pages
    through u f i =
        subst (λ h. IsIndex (set rows page (Some row)) (u number) free (set free_blocks number (f h)) free_pages) (sym had_there)
        (subst (λ n. IsIndex (set rows page (Some row)) (u n) free (set free_blocks n (f (get_or free_blocks old.class 0))) free_pages) (sym number_is) i)

  -- ---- a block is taken
  module _ (class : ℕ) (has : HasFree class (row_at pages page)) (row_is : row ≡ record old { first = row.first; allocated = old.allocated + 1 }) where
    has_free : HasFree class (Some old)
    has_free = subst (HasFree class) there has

    class_is : old.class ≡ class
    class_is = has_free.0

    same : row.class ≡ old.class
    same = ap (λ (r : PageRow). r.class) row_is

    stays : row.evacuating ≡ old.evacuating
    stays = ap (λ (r : PageRow). r.evacuating) row_is

    more : row.allocated ≡ old.allocated + 1
    more = ap (λ (r : PageRow). r.allocated) row_is

    module _ (number : ℕ) (number_is : number ≡ class) (had : ℕ) (had_is : had ≡ get_or free_blocks number had) where
      pub had_some : 1 ≤ had
      had_some = omega (arith, had_there number (number_is ∙ sym class_is) had had_is, some_had rows usable free free_blocks free_pages b page old row inside lent_is same known has_free.1 stays more has_free.2)

      module _ (blocks : ℕ) (blocks_is : blocks ≡ blocks_in class) where
        full_is : blocks ≡ blocks_in old.class
        full_is = blocks_is ∙ ap blocks_in (sym class_is)

        pub last_taken : row.allocated ≡ blocks → (one new : BitRow) → one ≡ get_or usable number one → has_bit new page ≡ 0 → ((i : ℕ) → i ≢ page → has_bit new i ≡ has_bit one i) → room_of new ≡ room_of one
            → IsIndex (set rows page (Some row)) (set usable number new) free (set free_blocks number (had - 1)) free_pages
        last_taken full one new read here others room =
            through number (number_is ∙ sym class_is) had had_is (λ n. set usable n new) (λ h. h - 1)
            (taken_last rows usable free free_blocks free_pages b page old row inside lent_is same known has_free.1 stays more has_free.2 (full ∙ full_is) one new
            (read ∙ ap (λ n. get_or usable n one) (number_is ∙ sym class_is)) here others room)

        pub one_taken : row.allocated ≢ blocks → IsIndex (set rows page (Some row)) usable free (set free_blocks number (had - 1)) free_pages
        one_taken left =
            through number (number_is ∙ sym class_is) had had_is (λ _. usable) (λ h. h - 1)
            (taken_one rows usable free free_blocks free_pages b page old row inside lent_is same known has_free.1 stays more has_free.2 (λ e. left (e ∙ sym full_is)))

    module _ (index : ℕ) (was_free : slice_get (flags_of words (2048 * page) old.class) index ≡ Some false) (flags : flags_of new (2048 * page) old.class ≡ set (flags_of words (2048 * page) old.class) index true)
        (chain : IsFreeList new (2048 * page) old.class row.first (old.allocated + 1)) (is : new ≡ set words (address_of old.class page index) (address_of old.class page index)) where
      outside : SameOutside words new (2048 * page)
      outside = popped_outside pages words new together.classes page old there index _ was_free is

      -- the page's list runs through its other free blocks, the block was free and is allocated, and allocated blocks keep their words
      pub taken : record {
        together : Together (set rows page (Some row)) new;
        free : IsOpen (page_of_class class (page_at (pages_in pages words) page)) index;
        allocated : pages_in (set rows page (Some row)) new ≡ set (pages_in pages words) page (Some (with_allocated (page_of_class class (page_at (pages_in pages words) page)) index true));
        words : KeepsAllocated (pages_in pages words) words new;
      }
      taken = record {
        together = together_by pages words new together page below old row there (old.allocated + 1) old.is_target row_is chain outside (set rows page (Some row)) after index true flags;
        free = open_by pages words page old index class below there was_free;
        allocated = taken_by pages words new together page below old row there (old.allocated + 1) old.is_target row_is chain outside (set rows page (Some row)) after index true flags refl class;
        words = popped_keeps pages words new together.classes page old there index _ was_free is;
      }
