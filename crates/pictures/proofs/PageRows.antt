-- The rows of pages, page after page.
use Rattle.std.proofs.Common.{◌≡◌, ℕ, ◌+◌, List, [], ◌++◌, Option, refl, ap, ◌∙◌, sym, add-one, append-nil, append_assoc}
use Rattle.heap_model.specs.Pages.{Page}
use Rattle.pictures.specs.Tables.{page_row, page_rows}

module _ (pages : List (Option Page)) (head : List ℕ) where
  none : [] ≡ page_rows pages 0
  unfolding page_rows
  none = refl

  next : (n : ℕ) → page_rows pages (n + 1) ≡ page_rows pages n ++ page_row pages n
  unfolding page_rows
  next n = rw add-one refl

  pub no_rows : head ≡ head ++ page_rows pages 0
  no_rows = sym (append-nil head) ∙ ap (λ t. head ++ t) none

  pub one_row : (text more : List ℕ) (n : ℕ) → text ≡ head ++ page_rows pages n → more ≡ page_row pages n → text ++ more ≡ head ++ page_rows pages (n + 1)
  one_row text more n so is = ap (λ t. t ++ more) so ∙ append_assoc head (page_rows pages n) more ∙ ap (λ t. head ++ (page_rows pages n ++ t)) is ∙ ap (λ t. head ++ t) (sym (next n))
