-- A page is marked as evacuating.
use Rattle.std.proofs.Common.{◌≡◌, ℕ, ◌*◌, ◌%◌, ◌<◌, true, false, List, Option, Some, None, length, set, ap, ◌∙◌, sym, subst, refl}
use Rattle.std.specs.Prelude.{IfSome, IsSomeAnd}
use Rattle.std.proofs.lemmas.Option.{slice_get-get_or}
use Rattle.heap_model.specs.Pages.{Page, IsPage, page_at}
use Rattle.heap_model.specs.Store.{Store, IsStore, size_in, allocated_in}
use Rattle.heap_model.specs.Action.{KeepsBlocks}
use Rattle.pages.specs.declared.page.PageRow.{PageRow}
use Rattle.pages.specs.Index.{row_at}
use Rattle.pages.specs.Together.{joined, page_by}
use Rattle.pages.proofs.Telling.{page_is}
use Rattle.nodes.proofs.Joining.{below_by}
use Rattle.nodes.proofs.Freeing.{page_within, allocated_change, node_change, store_change}

module _ (s : Store) (whole : IsStore s) (k : ℕ) (p : Page) (there : page_at s.pages k ≡ Some p) (is_target : p.is_target ≡ false) where
  within : k < length s.pages
  within = page_within s.pages k p there

  pub keeps : KeepsBlocks s (record { pages = set s.pages k (Some (record p { evacuating = true })); words = s.words })
  keeps = record {
    allocated = λ b. allocated_change s k (Some (record p { evacuating = true })) within s.words b (λ e. ap (λ o. allocated_in o (b % 2048)) (sym there));
    nodes = λ b h. node_change s k (Some (record p { evacuating = true })) within b (λ e. ap size_in (sym there));
  }

  pub left_store : IsStore (record { pages = set s.pages k (Some (record p { evacuating = true })); words = s.words })
  left_store =
      let w = whole.pages k p (slice_get-get_or s.pages k None within ∙ ap Some there) in
      store_change s k (Some (record p { evacuating = true })) within whole (λ q e. subst IsPage (same_page e) (record { class = w.class; blocks = w.blocks; marks = is_target }))
      (λ _ _. whole.words k p (slice_get-get_or s.pages k None within ∙ ap Some there))
    where
      same_page : {a b : Page} → Some a ≡ Some b → a ≡ b
      same_page e = cc

-- the same, of a value t as which the fields s are seen
module _ (s t : Store) (is : s ≡ t) (whole : IsStore s) (k : ℕ) (is_target : IsSomeAnd (page_at t.pages k) (λ p. p.is_target ≡ false)) (new : List (Option Page))
    (given : IfSome (page_at s.pages k) (λ p. new ≡ set s.pages k (Some (record p { evacuating = true })))) where
  by_page : (o : Option Page) → page_at s.pages k ≡ o → IsSomeAnd o (λ p. p.is_target ≡ false) → IfSome o (λ p. new ≡ set s.pages k (Some (record p { evacuating = true })))
      → KeepsBlocks s (record { pages = new; words = s.words }) × IsStore (record { pages = new; words = s.words })
  by_page None e r g = absurd r
  by_page (Some p) e r g = (
    subst (λ l. KeepsBlocks s (record { pages = l; words = s.words })) (sym g) (keeps s whole k p e r),
    subst (λ l. IsStore (record { pages = l; words = s.words })) (sym g) (left_store s whole k p e r),
  )

  both : KeepsBlocks s (record { pages = new; words = s.words }) × IsStore (record { pages = new; words = s.words })
  both = by_page (page_at s.pages k) refl (subst (λ (x : Store). IsSomeAnd (page_at x.pages k) (λ p. p.is_target ≡ false)) (sym is) is_target) given

  pub keeps_by : KeepsBlocks t (record { pages = new; words = s.words })
  keeps_by = subst (λ (x : Store). KeepsBlocks x (record { pages = new; words = s.words })) is both.0

  pub left_store_by : IsStore (record { pages = new; words = s.words })
  left_store_by = both.1

-- its record isn't a target either
pub target_page_by : (rows : List (Option PageRow)) (words : List ℕ) (t : Store) → joined rows words ≡ t → (page : ℕ) → page < length t.pages → IsSomeAnd (page_at t.pages page) (λ p. p.is_target ≡ false) → IsSomeAnd (row_at rows page) (λ r. r.is_target ≡ false)
target_page_by rows words t is page below h =
    by_row (row_at rows page)
    (subst (λ o. IsSomeAnd o (λ p. p.is_target ≡ false)) (page_is rows words page None (below_by rows words t is page below)) (subst (λ (x : Store). IsSomeAnd (page_at x.pages page) (λ p. p.is_target ≡ false)) (sym is) h))
  where
    by_row : (o : Option PageRow) → IsSomeAnd (page_by words (2048 * page) o) (λ p. p.is_target ≡ false) → IsSomeAnd o (λ r. r.is_target ≡ false)
    by_row None h = h
    by_row (Some r) h = h
