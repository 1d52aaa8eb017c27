-- Whether blocks of an object are allocated, place by place and page by page.
use Rattle.std.proofs.Common.{◌≡◌, ◌≢◌, ℕ, ◌+◌, ◌/◌, ◌<◌, ◌≤◌, ◌⊎◌, inl, inr, true, Option, Some, None, length, ap, ◌∙◌, sym, subst, refl, arith}
use Rattle.std.specs.Prelude.{IfSome, IsSomeAnd, slice_get, option_map}
use Rattle.std.proofs.lemmas.Option.{same_Some, slice_get_within}
use Rattle.size_classes.specs.Sizes.{blocks_in}
use Rattle.heap_model.specs.Pages.{Page, page_at}
use Rattle.heap_model.specs.Store.{Store, IsStore, record_of, address_of}
use Rattle.heap_model.proofs.Store.Allocated.{allocated_block, page_within, is_page, store_pages}
use Rattle.nodes.specs.Copies.{HasBlock, HasNoBlockOn, HasNoBlockAt}

-- at none of the first places of a page
abbrev pub HasNoneBefore : Store → ℕ → ℕ → ℕ → Type 0
HasNoneBefore s id page count = (j : ℕ) → j < count → HasNoBlockAt s id page j

below_more : (k n : ℕ) → k < n + 1 → (k < n) ⊎ (k ≡ n)
below_more k n h = grind arith

pub none_more : (s : Store) (id page count : ℕ) → HasNoneBefore s id page count → HasNoBlockAt s id page count → HasNoneBefore s id page (count + 1)
none_more s id page count before here j l = elim (below_more j count l) [
  | inl h ↦ before j h
  | inr e ↦ subst (HasNoBlockAt s id page) (sym e) here
]

-- at none of the first pages
abbrev pub HasNoneBelow : Store → ℕ → ℕ → Type 0
HasNoneBelow s id count = (page : ℕ) → page < count → HasNoBlockOn s id page

pub none_further : (s : Store) (id count : ℕ) → HasNoneBelow s id count → HasNoBlockOn s id count → HasNoneBelow s id (count + 1)
none_further s id count below here page l = elim (below_more page count l) [
  | inl h ↦ below page h
  | inr e ↦ subst (HasNoBlockOn s id) (sym e) here
]

-- a free page has no allocated block
pub none_free : (s : Store) (id page : ℕ) → option_map (λ (p : Page). p.class) (page_at s.pages page) ≡ None → HasNoBlockOn s id page
none_free s id page none b e h =
    let t = allocated_block s b h in
    let is : page_at s.pages page ≡ Some t.0 = subst (λ n. page_at s.pages n ≡ Some t.0) e t.2.page in
    absurd (let no : Some t.0.class ≡ None = sym (ap (option_map (λ (p : Page). p.class)) is) ∙ none in cc)

-- no place of the page has one
pub none_there : (s : Store) → IsStore s → (id page class : ℕ) → option_map (λ (p : Page). p.class) (page_at s.pages page) ≡ Some class → HasNoneBefore s id page (blocks_in class) → HasNoBlockOn s id page
none_there s whole id page class is before b e h =
    let t = allocated_block s b h in
    let there : page_at s.pages page ≡ Some t.0 = subst (λ n. page_at s.pages n ≡ Some t.0) e t.2.page in
    let same : t.0.class ≡ class = same_Some t.0.class class (sym (ap (option_map (λ (p : Page). p.class)) there) ∙ is) in
    let blocks : length t.0.allocated ≡ blocks_in class = (is_page s page t.0 (store_pages s whole) there).blocks ∙ ap blocks_in same in
    let within : t.1 < blocks_in class = subst (λ n. t.1 < n) blocks (slice_get_within t.0.allocated t.1 true t.2.allocated) in
    let other = before t.1 within (subst (λ o. IsSomeAnd o (λ p. slice_get p.allocated t.1 ≡ Some true)) (sym there) t.2.allocated) in
    let here : (record_of s (address_of t.0.class page t.1)).identity ≢ id = subst (λ o. IfSome o (λ p. (record_of s (address_of p.class page t.1)).identity ≢ id)) there other in
    subst (λ a. (record_of s a).identity ≢ id) (sym (t.2.address ∙ ap (λ n. address_of t.0.class n t.1) e)) here

-- no page has one
pub none_allocated_so : (s : Store) (id count : ℕ) → length s.pages ≤ count → HasNoneBelow s id count → HasBlock s id → ⊥
none_allocated_so s id count all below h =
    let t = allocated_block s h.0 h.1 in
    below (h.0 / 2048) (omega (arith, page_within s.pages (h.0 / 2048) t.0 t.2.page, all)) h.0 refl h.1 h.2

-- an allocated block that isn't the object's
pub none_here : (s : Store) (id page index b : ℕ) → IfSome (page_at s.pages page) (λ p. b ≡ address_of p.class page index) → (record_of s b).identity ≢ id → HasNoBlockAt s id page index
none_here s id page index b same other some = by_page (page_at s.pages page) same
  where
    by_page : (o : Option Page) → IfSome o (λ p. b ≡ address_of p.class page index) → IfSome o (λ p. (record_of s (address_of p.class page index)).identity ≢ id)
    by_page None same = tt
    by_page (Some p) same = subst (λ a. (record_of s a).identity ≢ id) same other
