-- A block is moved.
use Rattle.std.proofs.Common.{◌≡◌, ◌≢◌, ℕ, ◌+◌, ◌/◌, ◌%◌, ◌<◌, ◌≤◌, ◌⊎◌, inl, inr, Bool, true, false, ◌&&◌, List, Some, None, length, set, ap, ◌∙◌, sym, subst, arith, length-set}
use Rattle.std.proofs.lemmas.List.{get_or-set_same}
use Rattle.std.proofs.lemmas.Option.{slice_get_within, slice_get-get_or, get_or_from_slice_get}
use Rattle.size_classes.specs.Sizes.{size_of}
use Rattle.heap_model.specs.Block.{record_at, words_at, spliced, with_forward}
use Rattle.heap_model.specs.Pages.{Page, IsPage, page_at, with_allocated, IsOpen}
use Rattle.heap_model.specs.Store.{Store, IsStore, size_in, allocated_in, size_at, is_allocated, record_of, address_of}
use Rattle.heap_model.specs.Action.{MovesBlock}
use Rattle.headers.proofs.Copied.{copied_here, copied_others, copied_length}
use Rattle.headers.proofs.Frames.{record_at-other}
use Rattle.headers.proofs.Written.{forward_written}
use Rattle.nodes.specs.Moving.{CanMove}
use Rattle.nodes.proofs.Joining.{still_store}
use Rattle.nodes.proofs.Places.{allocated_place, apart}
use Rattle.nodes.proofs.Freeing.{same_or, page_here, page_other, allocated_change, store_change}
use Rattle.nodes.proofs.Making.{other_flag}
use Rattle.nodes.proofs.Blocks as blocks

pub clash : {b : Bool} → b ≡ true → b ≡ false → ⊥
clash x y = cc

module _ (s : Store) (whole : IsStore s) (page index to : ℕ) (m : CanMove s.pages page index to) (place : ℕ) (free : IsOpen m.target place) where
  abbrev pub from : ℕ
  from = address_of m.source.class page index

  abbrev pub target : ℕ
  target = address_of m.target.class to place

  abbrev pub size : ℕ
  size = size_of m.source.class

  abbrev pub received : Page
  received = record (with_allocated m.target place true) { is_target = true }

  abbrev pub forwarded : List ℕ
  forwarded = set s.words from target

  abbrev pub words_after : List ℕ
  words_after = spliced forwarded target (words_at forwarded from size)

  abbrev pub after_move : Store
  after_move = record { pages = set s.pages to (Some received); words = words_after }

  source_below : index < length m.source.allocated
  source_below = slice_get_within m.source.allocated index true m.allocated

  target_below : place < length m.target.allocated
  target_below = slice_get_within m.target.allocated place false free

  within : to < length s.pages
  within = blocks.page_below s whole to place m.target m.into target_below

  source_size : size_at s from ≡ size
  source_size = blocks.size_is s whole page index m.source m.from source_below

  pub target_size : size_at s target ≡ size
  target_size = blocks.size_is s whole to place m.target m.into target_below ∙ ap size_of m.class

  pub four : 4 ≤ size
  four = blocks.low s whole page index m.source m.from source_below

  pub source_words : from + size ≤ length s.words
  source_words = blocks.words_there s whole page index m.source m.from source_below

  pub target_words : target + size ≤ length s.words
  target_words = let w = blocks.words_there s whole to place m.target m.into target_below in subst (λ c. target + size_of c ≤ length s.words) m.class w

  source_fits : from + size ≤ length forwarded
  source_fits = subst (λ n. from + size ≤ n) (sym (length-set s.words from target)) source_words

  target_fits : target + size ≤ length forwarded
  target_fits = subst (λ n. target + size ≤ n) (sym (length-set s.words from target)) target_words

  pub source_allocated : is_allocated s from ≡ true
  source_allocated = blocks.allocated_is s whole page index m.source m.from source_below ∙ get_or_from_slice_get m.source.allocated index true false m.allocated

  pub target_free : is_allocated s target ≡ false
  target_free = blocks.allocated_is s whole to place m.target m.into target_below ∙ get_or_from_slice_get m.target.allocated place false false free

  -- the place is apart from each allocated block
  apart_from : (b : ℕ) → is_allocated s b ≡ true → (b + size_at s b ≤ target) ⊎ (target + size ≤ b)
  apart_from b h =
      subst (λ n. (b + size_at s b ≤ target) ⊎ (target + n ≤ b)) target_size
      (apart s b target (allocated_place s b whole h) (blocks.is_place s whole to place m.target m.into target_below) (λ e. clash h (ap (is_allocated s) e ∙ target_free)))

  source_apart : (from + size ≤ target) ⊎ (target + size ≤ from)
  source_apart = subst (λ n. (from + n ≤ target) ⊎ (target + size ≤ from)) source_size (apart_from from source_allocated)

  pub size_after : (w : List ℕ) (b : ℕ) → size_at (record { pages = set s.pages to (Some received); words = w }) b ≡ size_at s b
  unfolding size_at
  size_after w b = elim (same_or (b / 2048) to) [
    | inl e ↦ ap (λ n. size_in (page_at (set s.pages to (Some received)) n)) e ∙ ap size_in (page_here s to (Some received) within) ∙ ap size_in (sym m.into) ∙ ap (λ n. size_in (page_at s.pages n)) (sym e)
    | inr d ↦ ap size_in (page_other s to (Some received) within (b / 2048) d)
  ]

  forward_here : record_at forwarded from size ≡ with_forward (record_of s from) target
  unfolding record_of
  forward_here = forward_written s.words from size four source_words target ∙ ap (λ n. with_forward (record_at s.words from n) target) (sym source_size)

  copy_is : record_of after_move target ≡ with_forward (record_of s from) target
  unfolding record_of
  copy_is = ap (record_at words_after target) (size_after words_after target ∙ target_size) ∙ copied_here forwarded from target size source_fits target_fits ∙ forward_here

  forward_is : record_of after_move from ≡ with_forward (record_of s from) target
  unfolding record_of
  forward_is = ap (record_at words_after from) (size_after words_after from ∙ source_size) ∙ copied_others forwarded from target size source_fits target_fits from size source_apart ∙ forward_here

  outside : (b : ℕ) → is_allocated s b ≡ true → b ≢ from → (from < b) ⊎ (b + size_at s b ≤ from)
  outside b h ne = elim (apart s from b (allocated_place s from whole source_allocated) (allocated_place s b whole h) (λ e. ne (sym e))) [
    | inl x ↦ inl (omega (arith, x, source_size, four))
    | inr y ↦ inr y
  ]

  others : (b : ℕ) → b ≢ from → is_allocated s b ≡ true → record_of after_move b ≡ record_of s b
  unfolding record_of
  others b ne h =
      ap (record_at words_after b) (size_after words_after b) ∙ copied_others forwarded from target size source_fits target_fits b (size_at s b) (apart_from b h)
      ∙ record_at-other s.words from target b (size_at s b) (outside b h ne)

  pub same_allocated : (b : ℕ) → b ≢ target → is_allocated after_move b ≡ is_allocated s b
  same_allocated b ne =
      allocated_change s to (Some received) within words_after b
      (λ e. other_flag m.target.allocated place (b % 2048) (size_of m.target.class) (λ z. ne (blocks.address_is s whole to place m.target m.into target_below b e z)) ∙ ap (λ o. allocated_in o (b % 2048)) (sym m.into))

  is_received : IsPage received
  is_received =
      let p = blocks.is_page s whole to place m.target m.into target_below in
      record { class = p.class; blocks = length-set m.target.allocated place true ∙ p.blocks; marks = ap (λ b. b && true) m.can_be_target.0 }

  pub received_store : IsStore (record { pages = set s.pages to (Some received); words = s.words })
  received_store = store_change s to (Some received) within whole (λ p e. subst IsPage (same_page e) is_received)
      (λ _ _. whole.words to m.target (slice_get-get_or s.pages to None within ∙ ap Some m.into))
    where
      same_page : {a b : Page} → Some a ≡ Some b → a ≡ b
      same_page e = cc

  pub moved_store : IsStore after_move
  moved_store = still_store (set s.pages to (Some received)) s.words words_after (omega (arith, copied_length forwarded from target size source_fits target_fits, length-set s.words from target)) received_store

  pub target_allocated : is_allocated after_move target ≡ true
  target_allocated =
      blocks.allocated_is after_move moved_store to place received (page_here s to (Some received) within) (subst (λ n. place < n) (sym (length-set m.target.allocated place true)) target_below)
      ∙ get_or-set_same m.target.allocated place true false target_below

  pub moves : MovesBlock s after_move from (address_of m.source.class to place)
  moves = subst (λ c. MovesBlock s after_move from (address_of c to place)) m.class (record { free = target_free; allocated = target_allocated; copy = copy_is; forward = forward_is; same = same_allocated; nodes = others })
