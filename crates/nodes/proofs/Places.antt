-- An allocated block is a whole block of its page, and two have no word in common.
use Rattle.std.proofs.Common.{◌≡◌, ℕ, ◌+◌, ◌*◌, ◌/◌, ◌%◌, ◌<◌, ◌≤◌, ◌⊎◌, Bool, true, false, eqb, List, Option, Some, None, length, get_or, ap, ◌∙◌, sym, subst, arith, refl, inl, inr}
use Rattle.std.specs.Prelude.{option_map}
use Rattle.std.proofs.lemmas.Bool.{eqb-true, and_parts}
use Rattle.std.proofs.lemmas.List.{get_or_past}
use Rattle.std.proofs.lemmas.Option.{slice_get-get_or}
use Rattle.size_classes.specs.Sizes.{size_of, blocks_in}
use Rattle.size_classes.proofs.Table.{size_low}
use Rattle.heap_model.specs.Pages.{Page, IsPage, page_at}
use Rattle.heap_model.specs.Store.{Store, IsStore, size_in, allocated_in, size_at, is_allocated}
use Rattle.nodes.specs.Pages.{blocks_on}
use Rattle.nodes.specs.Place.{IsPlace}

-- a flag that is set is one of the list
pub flag_within : (flags : List Bool) (i : ℕ) → get_or flags i false ≡ true → i < length flags
flag_within flags i e = let p = get_or_past flags i false in grind arith

pub count_in : (size blocks index : ℕ) → blocks ≡ 2048 / size → 4 ≤ size → index < blocks → (index + 1) * size ≤ 2048
count_in size blocks index e low h = grind arith

-- the page in which an allocated block lies
pub record AllocatedIn (o : Option Page) (offset : ℕ) : Type 0 where
  pub page : Page
  pub is : o ≡ Some page
  pub whole : offset ≡ (offset / size_of page.class) * size_of page.class
  pub flag : get_or page.allocated (offset / size_of page.class) false ≡ true

exact : (n s : ℕ) → n % s ≡ 0 → n ≡ (n / s) * s
exact n s e = grind arith

pub allocated_in-page : (o : Option Page) (offset : ℕ) → allocated_in o offset ≡ true → AllocatedIn o offset
allocated_in-page None offset h = absurd (cc)
allocated_in-page (Some p) offset h =
    let parts = and_parts (eqb (offset % size_of p.class) 0) (get_or p.allocated (offset / size_of p.class) false) h in
    record { page = p; is = refl; whole = exact offset (size_of p.class) (eqb-true (offset % size_of p.class) 0 parts.0); flag = parts.1 }

below_or : (a b : ℕ) → (a < b) ⊎ (b ≤ a)
below_or a b = grind arith

page_within : (pages : List (Option Page)) (k : ℕ) (p : Page) → page_at pages k ≡ Some p → k < length pages
page_within pages k p e = elim (below_or k (length pages)) [
  | inl h ↦ h
  | inr h ↦ let past : page_at pages k ≡ None = get_or_past pages k None h in absurd (cc)
]

-- the page of an allocated block is one
pub page_is : (s : Store) (address : ℕ) (p : Page) → IsStore s → page_at s.pages (address / 2048) ≡ Some p → IsPage p
page_is s address p whole e =
    let h : address / 2048 < length s.pages = page_within s.pages (address / 2048) p e in
    whole.pages (address / 2048) p (slice_get-get_or s.pages (address / 2048) None h ∙ ap Some e)

-- a page in use has as many blocks as its class says
pub blocks_told : (s t : Store) → s ≡ t → IsStore s → (page class n : ℕ) → Some class ≡ option_map (λ (p : Page). p.class) (page_at s.pages page) → n ≡ blocks_in class → n ≡ blocks_on (page_at t.pages page)
blocks_told s t is whole page class n told e = by_page (page_at s.pages page) refl told ∙ ap (λ (x : Store). blocks_on (page_at x.pages page)) is
  where
    same : {a b : ℕ} → Some a ≡ Some b → a ≡ b
    same e = cc

    by_page : (o : Option Page) → page_at s.pages page ≡ o → Some class ≡ option_map (λ (p : Page). p.class) o → n ≡ blocks_on (page_at s.pages page)
    by_page None there h = absurd (cc)
    by_page (Some p) there h =
        let is_page = whole.pages page p (slice_get-get_or s.pages page None (page_within s.pages page p there) ∙ ap Some there) in
        e ∙ ap blocks_in (same h) ∙ sym is_page.blocks ∙ ap blocks_on (sym there)

pub placed : (address k offset s : ℕ) → k ≡ address / 2048 → offset ≡ address % 2048 → offset ≡ (offset / s) * s → address ≡ 2048 * k + (offset / s) * s
placed address k offset s ek eo e = omega (arith, e)

pub allocated_place : (s : Store) (address : ℕ) → IsStore s → is_allocated s address ≡ true → IsPlace s address
unfolding is_allocated size_at blocks_in
allocated_place s address whole h =
    let f = allocated_in-page (page_at s.pages (address / 2048)) (address % 2048) h in
    let p = page_is s address f.page whole f.is in
    let size : size_in (page_at s.pages (address / 2048)) ≡ size_of f.page.class = ap size_in f.is in
    let i = (address % 2048) / size_of f.page.class in
    let below : i < length f.page.allocated = flag_within f.page.allocated i f.flag in
    let low : 4 ≤ size_of f.page.class = size_low f.page.class p.class in
    let count : i < 2048 / size_of f.page.class = subst (λ n. i < n) p.blocks below in
    record {
      page = page_within s.pages (address / 2048) f.page f.is;
      size = subst (λ n. 4 ≤ n) (sym size) low;
      index = i;
      place = placed address (address / 2048) (address % 2048) (size_of f.page.class) refl refl f.whole ∙ ap (λ n. 2048 * (address / 2048) + i * n) (sym size);
      whole = subst (λ n. (i + 1) * n ≤ 2048) (sym size) (count_in (size_of f.page.class) (2048 / size_of f.page.class) i refl low count);
    }

-- a page in use has its words
page_words : (s : Store) (address : ℕ) (p : Page) → IsStore s → page_at s.pages (address / 2048) ≡ Some p → 2048 * (address / 2048) + 2048 ≤ length s.words
page_words s address p whole e = whole.words (address / 2048) p (slice_get-get_or s.pages (address / 2048) None (page_within s.pages (address / 2048) p e) ∙ ap Some e)

pub inside : (s : Store) (address : ℕ) → IsStore s → is_allocated s address ≡ true → address + size_at s address ≤ length s.words
unfolding is_allocated
inside s address whole h =
    let b = allocated_place s address whole h in
    let f = allocated_in-page (page_at s.pages (address / 2048)) (address % 2048) h in
    let w = page_words s address f.page whole f.is in
    omega (arith, b.place, b.whole, w)

-- places of one page
steps : (i j s : ℕ) → i < j → (i + 1) * s ≤ j * s
steps i j s h = grind arith

three : (i j : ℕ) → (i < j) ⊎ ((i ≡ j) ⊎ (j < i))
three i j = grind arith

in_page : (p i j s a b : ℕ) → a ≡ 2048 * p + i * s → b ≡ 2048 * p + j * s → (a ≡ b → ⊥) → (a + s ≤ b) ⊎ (b + s ≤ a)
in_page p i j s a b ha hb ne = elim (three i j) [
  | inl l ↦ inl (omega (arith, steps i j s l))
  | inr r ↦ elim r [
    | inl e ↦ absurd (ne (ha ∙ ap (λ n. 2048 * p + n * s) e ∙ sym hb))
    | inr g ↦ inr (omega (arith, steps j i s g))
  ]
]

in_order : (p q i s a b : ℕ) → a ≡ 2048 * p + i * s → (i + 1) * s ≤ 2048 → q ≡ b / 2048 → p < q → a + s ≤ b
in_order p q i s a b ha whole hq lt = omega arith

same_page : (s : Store) (a b : ℕ) → IsPlace s a → IsPlace s b → (a ≡ b → ⊥) → a / 2048 ≡ b / 2048 → (a + size_at s a ≤ b) ⊎ (b + size_at s b ≤ a)
unfolding size_at
same_page s a b ha hb ne e =
    let z : size_at s a ≡ size_at s b = ap (λ k. size_in (page_at s.pages k)) e in
    let there : b ≡ 2048 * (a / 2048) + hb.index * size_at s a = hb.place ∙ ap (λ k. 2048 * k + hb.index * size_in (page_at s.pages k)) (sym e) in
    let found : (a + size_at s a ≤ b) ⊎ (b + size_at s a ≤ a) = in_page (a / 2048) ha.index hb.index (size_at s a) a b ha.place there ne in
    subst (λ n. (a + size_at s a ≤ b) ⊎ (b + n ≤ a)) z found

pub apart : (s : Store) (a b : ℕ) → IsPlace s a → IsPlace s b → (a ≡ b → ⊥) → (a + size_at s a ≤ b) ⊎ (b + size_at s b ≤ a)
apart s a b ha hb ne = elim (three (a / 2048) (b / 2048)) [
  | inl l ↦ inl (in_order (a / 2048) (b / 2048) ha.index (size_at s a) a b ha.place ha.whole refl l)
  | inr r ↦ elim r [
    | inl e ↦ same_page s a b ha hb ne e
    | inr g ↦ inr (in_order (b / 2048) (a / 2048) hb.index (size_at s b) b a hb.place hb.whole refl g)
  ]
]
