-- A block of a page in use, allocated or not.
use Rattle.std.proofs.Common.{◌≡◌, ℕ, ◌+◌, ◌*◌, ◌/◌, ◌%◌, ◌<◌, ◌≤◌, ◌&&◌, eqb, false, Some, None, length, get_or, ap, ◌∙◌, sym, subst, arith, refl}
use Rattle.std.proofs.lemmas.Option.{slice_get-get_or}
use Rattle.size_classes.specs.Sizes.{size_of, blocks_in}
use Rattle.size_classes.proofs.Table.{size_low}
use Rattle.heap_model.specs.Pages.{Page, IsPage, page_at}
use Rattle.heap_model.specs.Store.{Store, IsStore, size_in, allocated_in, size_at, is_allocated, address_of}
use Rattle.nodes.specs.Place.{IsPlace}
use Rattle.nodes.proofs.Places.{count_in}
use Rattle.nodes.proofs.Freeing.{offset_place, divided, page_within}

module _ (s : Store) (whole : IsStore s) (k i : ℕ) (p : Page) (there : page_at s.pages k ≡ Some p) (below : i < length p.allocated) where
  pub page_below : k < length s.pages
  page_below = page_within s.pages k p there

  pub is_page : IsPage p
  is_page = whole.pages k p (slice_get-get_or s.pages k None page_below ∙ ap Some there)

  pub low : 4 ≤ size_of p.class
  low = size_low p.class is_page.class

  pub fit : (i + 1) * size_of p.class ≤ 2048
  unfolding blocks_in
  fit = count_in (size_of p.class) (2048 / size_of p.class) i refl low (omega (arith, below, is_page.blocks))

  place : ((address_of p.class k i) / 2048 ≡ k) × ((address_of p.class k i) % 2048 ≡ i * size_of p.class)
  place = offset_place k i (size_of p.class) (address_of p.class k i) low fit refl

  pub size_is : size_at s (address_of p.class k i) ≡ size_of p.class
  unfolding size_at
  size_is = ap (λ n. size_in (page_at s.pages n)) place.0 ∙ ap size_in there

  flag_is : allocated_in (Some p) (i * size_of p.class) ≡ get_or p.allocated i false
  flag_is =
      let d = divided i (size_of p.class) low in
      ap (λ n. eqb n 0 && get_or p.allocated ((i * size_of p.class) / size_of p.class) false) d.0 ∙ ap (λ n. get_or p.allocated n false) d.1

  -- it is allocated if its flag is set
  pub allocated_is : is_allocated s (address_of p.class k i) ≡ get_or p.allocated i false
  unfolding is_allocated
  allocated_is =
      ap (λ n. allocated_in (page_at s.pages n) ((address_of p.class k i) % 2048)) place.0
      ∙ ap (λ o. allocated_in o ((address_of p.class k i) % 2048)) there ∙ ap (allocated_in (Some p)) place.1 ∙ flag_is

  pub is_place : IsPlace s (address_of p.class k i)
  is_place = record {
    page = subst (λ n. n < length s.pages) (sym place.0) page_below;
    size = subst (λ n. 4 ≤ n) (sym size_is) low;
    index = i;
    place = ap (λ n. 2048 * n + i * size_of p.class) (sym place.0) ∙ ap (λ n. 2048 * ((address_of p.class k i) / 2048) + i * n) (sym size_is);
    whole = subst (λ n. (i + 1) * n ≤ 2048) (sym size_is) fit;
  }

  pub words_there : address_of p.class k i + size_of p.class ≤ length s.words
  words_there = let w : 2048 * k + 2048 ≤ length s.words = whole.words k p (slice_get-get_or s.pages k None page_below ∙ ap Some there) in omega (arith, fit, w)

  -- if an address begins in its page, it is the block's
  pub address_is : (b : ℕ) → b / 2048 ≡ k → b % 2048 ≡ i * size_of p.class → b ≡ address_of p.class k i
  address_is b e f = omega (arith, e, f)

  -- An address begins and ends in its page, by the size that the code knows.
  pub block_by : (size : ℕ) → size ≡ size_of p.class → (k < 1048576) × (i * size + size ≤ 2048)
  block_by size e =
      let f : (i + 1) * size ≤ 2048 = subst (λ n. (i + 1) * n ≤ 2048) (sym e) fit in
      let d : (i + 1) * size ≡ i * size + size = grind arith in
      (omega (arith, page_below, whole.few), omega (arith, f, d))
