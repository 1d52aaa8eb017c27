-- Free pages alone.
use Rattle.std.proofs.Common.{◌≡◌, ℕ, ◌*◌, ◌/◌, ◌%◌, ◌<◌, ◌≤◌, true, false, List, [], Option, Some, None, length, get_or, replicate, ap, ◌∙◌, sym, subst, arith}
use Rattle.std.specs.Prelude.{slice_get}
use Rattle.std.proofs.lemmas.List.{length-replicate, get_or-replicate, same_lists}
use Rattle.std.proofs.lemmas.Option.{get_or_from_slice_get, none-some}
use Rattle.heap_model.specs.Pages.{Page}
use Rattle.heap_model.specs.Store.{Store, IsStore, is_allocated, allocated_in}
use Rattle.heap_model.proofs.Opening.{page_none}
use Rattle.pages.specs.declared.page.PageRow.{PageRow}
use Rattle.pages.specs.Together.{joined, page_by, pages_in}
use Rattle.pages.proofs.Indexing.{row_none}
use Rattle.pages.proofs.Telling.{length-pages, page_is}
use Rattle.pages.proofs.Writing.{fresh_together}
use Rattle.nodes.specs.Joined.{AreBlockRecords}

free_pages : (n : ℕ) → pages_in (replicate n None) [] ≡ replicate n None
free_pages n =
    let rows : List (Option PageRow) = replicate n None in
    let words : List ℕ = [] in
    let count : length rows ≡ n = length-replicate {A = Option PageRow} n None in
    same_lists (pages_in rows words) (replicate n None) (length-pages rows words ∙ count ∙ sym (length-replicate {A = Option Page} n None))
    (λ k d h. let below : k < length rows = omega (arith, h, length-pages rows words) in
    page_is rows words k d below ∙ ap (page_by words (2048 * k)) (row_none n k) ∙ sym (get_or-replicate {A = Option Page} n k None d (omega (arith, below, count))))

module _ (n : ℕ) (few : n ≤ 1048576) (rows : List (Option PageRow)) (words : List ℕ) (rows_are : rows ≡ replicate n None) (words_are : words ≡ []) where
  both : (P : List (Option PageRow) → List ℕ → Type 0) → P (replicate n None) [] → P rows words
  both P p = subst (λ r. P r words) (sym rows_are) (subst (P (replicate n None)) (sym words_are) p)

  pub fresh_is : joined rows words ≡ record { pages = replicate n None; words = [] }
  fresh_is = both (λ r w. joined r w ≡ record { pages = replicate n None; words = [] }) (ap (λ (g : List (Option Page)). let s : Store = record { pages = g; words = [] } in s) (free_pages n))

  free_store : (s : Store) → s.pages ≡ replicate n None → IsStore s
  free_store s p =
      let count : length s.pages ≡ n = ap (λ (g : List (Option Page)). length g) p ∙ length-replicate {A = Option Page} n None in
      let unused : (k : ℕ) (q : Page) → slice_get s.pages k ≡ Some (Some q) → ⊥ =
      λ k q e. none-some q (sym (page_none n k) ∙ ap (λ (g : List (Option Page)). get_or g k None) (sym p) ∙ get_or_from_slice_get s.pages k (Some q) None e) in
      record {
        pages = λ k q e. absurd (unused k q e);
        words = λ k q e. absurd (unused k q e);
        few = omega (arith, count, few);
      }

  none_allocated : (b : ℕ) → is_allocated (joined (replicate n None) []) b ≡ false
  unfolding is_allocated
  none_allocated b = ap (λ o. allocated_in o (b % 2048)) (ap (λ (g : List (Option Page)). get_or g (b / 2048) None) (free_pages n) ∙ page_none n (b / 2048))

  pub fresh_nodes : AreBlockRecords rows words
  fresh_nodes = both AreBlockRecords (record { whole = free_store (joined (replicate n None) []) (free_pages n); together = fresh_together n; headers = λ b allocated. absurd (let none = none_allocated b in let z : true ≡ false = sym allocated ∙ none in cc) })

  pub fresh_count : length rows ≡ n
  fresh_count = ap (λ (l : List (Option PageRow)). length l) rows_are ∙ length-replicate {A = Option PageRow} n None
