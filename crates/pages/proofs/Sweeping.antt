-- Blocks of a page are looked at, with whatever records of other pages its own goes together with.
use Rattle.std.proofs.Common.{◌≡◌, ℕ, ◌+◌, ◌-◌, ◌*◌, ◌<◌, ◌≤◌, Bool, true, false, List, Option, Some, None, length, get_or, set, ap, ◌∙◌, ◌++◌, take, drop, sym, refl, subst, inl, inr, arith}
use Rattle.std.specs.Prelude.{IfSome, IsSomeAnd, slice_get}
use Rattle.std.specs.List.{refill}
use Rattle.std.proofs.Math.Seq.{take-append_seam}
use Rattle.std.proofs.lemmas.Bool.{cases_lt}
use Rattle.std.proofs.lemmas.List.{get_or-set_same, get_or_past, set-get_or, set-set}
use Rattle.std.proofs.lemmas.Option.{slice_get_within, none-some}
use Rattle.size_classes.specs.declared.class.TheConstants.{CLASSES}
use Rattle.size_classes.specs.Sizes.{size_of, blocks_in}
use Rattle.heap_model.specs.Header.{header_in}
use Rattle.heap_model.specs.Pages.{Page, page_at, with_allocated}
use Rattle.heap_model.specs.State.{same_colour}
use Rattle.heap_model.specs.Store.{address_of}
use Rattle.pages.specs.declared.page.PageRow.{PageRow}
use Rattle.pages.specs.FreeList.{flags_of, free_mark, IsFreeList, SameOutside}
use Rattle.pages.specs.Index.{row_at, row_given}
use Rattle.pages.specs.Sweeping.{has_colour, LooksAt, It_stays, It_goes, Looks, No_look, Then_one}
use Rattle.pages.specs.Together.{joined, pages_in, Together, KeepsAllocated}
use Rattle.pages.proofs.Flags.{length-flags}
use Rattle.pages.proofs.Telling.{together_by, given_by, inside_page, outside_two, page_read}
use Rattle.pages.proofs.Writing.{keeps_freed, freed_flag}

-- a page that has a record is one
pub page_below : (rows : List (Option PageRow)) (page : ℕ) (row : PageRow) → row_at rows page ≡ Some row → page < length rows
page_below rows page row there = elim (cases_lt page (length rows)) [ inl l ↦ l | inr l ↦ absurd (none-some row (sym (get_or_past rows page None l) ∙ there)) ]

-- the record stays as it is
pub row_same : (rows : List (Option PageRow)) (page : ℕ) (row : PageRow) → row_at rows page ≡ Some row → set rows page (Some row) ≡ rows
row_same rows page row there = ap (set rows page) (sym there) ∙ set-get_or rows page None

-- the record of a page whose block was given back, except for the block that is first
pub row_loose : (page index : ℕ) (old row : PageRow) → row ≡ row_given page index old → row ≡ record old { first = row.first; allocated = old.allocated - 1 }
row_loose page index old row is = is ∙ sym (ap (λ (r : PageRow). record old { first = r.first; allocated = old.allocated - 1 }) is)

-- the words that were lent, written back
pub written_back : (old new : List ℕ) → length new ≡ length old → refill (length old) old new ≡ new
written_back old new len =
    ap (λ n. take n (new ++ drop (length new) old)) (sym len) ∙ take-append_seam new (drop (length new) old)

-- the record says how many blocks there are
pub blocks_told : (rows : List (Option PageRow)) (words : List ℕ) (page : ℕ) (row : PageRow) → row_at rows page ≡ Some row → (n : ℕ) → IsSomeAnd (page_at (pages_in rows words) page) (λ p. n ≤ length p.allocated) → n ≤ blocks_in row.class
blocks_told rows words page row there n told =
    let few : n ≤ length (flags_of words (2048 * page) row.class) = subst (λ o. IsSomeAnd o (λ p. n ≤ length p.allocated)) (page_read rows words page row (page_below rows page row there) there) told in
    omega (arith, few, length-flags words (2048 * page) (size_of row.class) (blocks_in row.class))

-- the colour of a block, by the size that the code knows
pub colour_there : (words : List ℕ) (colour : Bool) (page class index size : ℕ) (b : Bool) → size ≡ size_of class → b ≡ same_colour colour (header_in (get_or words (2048 * page + index * size + 1) 0)).colour
    → has_colour words colour (address_of class page index) ≡ b
colour_there words colour page class index size b e is = sym (is ∙ ap (λ n. has_colour words colour (2048 * page + index * n)) e)

-- a block stays
pub stays_there : (rows : List (Option PageRow)) (words : List ℕ) (page : ℕ) (row : PageRow) (index : ℕ) (colour : Bool) → row_at rows page ≡ Some row → index < blocks_in row.class
    → (slice_get (flags_of words (2048 * page) row.class) index ≡ Some true → has_colour words colour (address_of row.class page index) ≡ true) → LooksAt colour page index (joined rows words) (joined (set rows page (Some row)) words)
stays_there rows words page row index colour there below stays =
    let p : Page = record { class = row.class; evacuating = row.evacuating; is_target = row.is_target; allocated = flags_of words (2048 * page) row.class } in
    subst (λ l. LooksAt colour page index (joined rows words) (joined l words)) (sym (row_same rows page row there))
    (It_stays p (page_read rows words page row (page_below rows page row there) there) (let l : index < length (flags_of words (2048 * page) row.class) = omega (arith, below, length-flags words (2048 * page) (size_of row.class) (blocks_in row.class)) in l) stays)

-- a block is given back
module _ (rows : List (Option PageRow)) (words new : List ℕ) (t : Together rows words) (page : ℕ) (old row : PageRow) (there : row_at rows page ≡ Some old) (index : ℕ) (allocated : slice_get (flags_of words (2048 * page) old.class) index ≡ Some true)
    (row_is : row ≡ record old { first = row.first; allocated = old.allocated - 1 }) (flags : flags_of new (2048 * page) old.class ≡ set (flags_of words (2048 * page) old.class) index false) (chain : IsFreeList new (2048 * page) old.class row.first (old.allocated - 1))
    (is : new ≡ set (set words (2048 * page + index * size_of old.class) free_mark) (2048 * page + index * size_of old.class + 3) old.first) where
  below : page < length rows
  below = page_below rows page old there

  class_stays : row.class ≡ old.class
  class_stays = ap (λ (r : PageRow). r.class) row_is

  outside : SameOutside words new (2048 * page)
  outside =
      let w = inside_page words page old.class index true (subst (λ o. IfSome o (λ r. r.class < CLASSES)) there (t.classes page)) allocated in
      outside_two words new (2048 * page) _ _ _ _ is (omega arith) (omega (arith, w)) (omega arith) (omega (arith, w))

  pub goes_together : Together (set rows page (Some row)) new
  goes_together = together_by rows words new t page below old row there (old.allocated - 1) old.is_target row_is chain outside (set rows page (Some row)) refl index false flags

  pub keeps : KeepsAllocated (pages_in (set rows page (Some row)) new) words new
  keeps =
      keeps_freed (set rows page (Some row)) words new page row index free_mark old.first goes_together.classes (get_or-set_same rows page (Some row) None below)
      (ap (λ n. slice_get (flags_of new (2048 * page) n) index) class_stays ∙ ap (λ l. slice_get l index) flags ∙ freed_flag (flags_of words (2048 * page) old.class) index (slice_get_within (flags_of words (2048 * page) old.class) index true allocated))
      (is ∙ ap (λ n. set (set words (2048 * page + index * size_of n) free_mark) (2048 * page + index * size_of n + 3) old.first) (sym class_stays))

  pub given_there : IfSome (page_at (pages_in rows words) page) (λ q. pages_in (set rows page (Some row)) new ≡ set (pages_in rows words) page (Some (with_allocated q index false)))
  given_there = given_by rows words new t page below old row there (old.allocated - 1) old.is_target row_is chain outside (set rows page (Some row)) refl index false flags refl

  pub goes_there : (colour : Bool) → has_colour words colour (address_of old.class page index) ≡ false → LooksAt colour page index (joined rows words) (joined (set rows page (Some row)) new)
  goes_there colour goes =
      let p : Page = record { class = old.class; evacuating = old.evacuating; is_target = old.is_target; allocated = flags_of words (2048 * page) old.class } in
      let read : page_at (pages_in rows words) page ≡ Some p = page_read rows words page old below there in
      It_goes p (joined (set rows page (Some row)) new) read allocated goes
      (subst (λ o. IfSome o (λ q. pages_in (set rows page (Some row)) new ≡ set (pages_in rows words) page (Some (with_allocated q index false)))) read given_there)
      keeps

-- this many blocks were looked at, and then one more
module _ (rows : List (Option PageRow)) (words : List ℕ) (page : ℕ) (old : PageRow) (there : row_at rows page ≡ Some old) (colour : Bool) (from : ℕ) where
  abbrev pub SoFar : ℕ → PageRow → List ℕ → Type 0
  SoFar n row mid = Together (set rows page (Some row)) mid × Looks colour page from (joined rows words) n (joined (set rows page (Some row)) mid)

  pub none_yet : Together rows words → SoFar 0 old words
  none_yet t = let e = sym (row_same rows page old there) in (subst (λ l. Together l words) e t, subst (λ l. Looks colour page from (joined rows words) 0 (joined l words)) e No_look)

  pub one_more : (n : ℕ) (row next : PageRow) (mid new : List ℕ) → SoFar n row mid
      → ((rows : List (Option PageRow)) → Together rows mid → row_at rows page ≡ Some row → Together (set rows page (Some next)) new)
      → ((rows : List (Option PageRow)) → Together rows mid → row_at rows page ≡ Some row → LooksAt colour page (from + n) (joined rows mid) (joined (set rows page (Some next)) new)) → SoFar (n + 1) next new
  one_more n row next mid new so together looks =
      let at : row_at (set rows page (Some row)) page ≡ Some row = get_or-set_same rows page (Some row) None (page_below rows page old there) in
      let e : set (set rows page (Some row)) page (Some next) ≡ set rows page (Some next) = set-set rows page (Some row) (Some next) in (
        subst (λ l. Together l new) e (together (set rows page (Some row)) so.0 at),
        Then_one n (joined (set rows page (Some row)) mid) (joined (set rows page (Some next)) new) so.1 (subst (λ l. LooksAt colour page (from + n) (joined (set rows page (Some row)) mid) (joined l new)) e (looks (set rows page (Some row)) so.0 at)),
      )
