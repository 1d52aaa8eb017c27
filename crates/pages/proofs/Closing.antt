-- A page gets a record, and is closed as a page of that record.
use Rattle.std.proofs.Common.{◌≡◌, ◌≢◌, ℕ, ◌+◌, ◌*◌, ◌<◌, ◌≤◌, Bool, true, false, cond, eqb, List, length, set, Option, Some, None, ◌∙◌, sym, subst, arith, inl, inr}
use Rattle.std.specs.Prelude.{IfSome}
use Rattle.std.proofs.lemmas.Bool.{cases_eq}
use Rattle.std.proofs.lemmas.List.{length-set, get_or-set_same, get_or-set_other, set-set}
use Rattle.size_classes.specs.declared.class.TheConstants.{CLASSES}
use Rattle.pages.specs.declared.page.PageRow.{PageRow}
use Rattle.pages.specs.FreeList.{IsFreeList}
use Rattle.pages.specs.Index.{row_at, row_closed}
use Rattle.pages.specs.Sweeping.{Looks, LooksAndCloses}
use Rattle.pages.specs.Together.{joined, Together}
use Rattle.pages.proofs.Reading.{closed_by}

module _ (rows : List (Option PageRow)) (words : List ℕ) (k : ℕ) (r : PageRow) (below : k < length rows) (t : Together (set rows k (Some r)) words) where
  abbrev mid : List (Option PageRow)
  mid = set rows k (Some r)

  abbrev after : List (Option PageRow)
  after = set rows k (row_closed (Some r))

  mid_there : row_at mid k ≡ Some r
  mid_there = get_or-set_same rows k (Some r) None below

  after_there : row_at after k ≡ row_closed (Some r)
  after_there = get_or-set_same rows k (row_closed (Some r)) None below

  same_other : (j : ℕ) → j ≢ k → row_at mid j ≡ row_at after j
  same_other j ne = get_or-set_other rows k j (Some r) None ne ∙ sym (get_or-set_other rows k j (row_closed (Some r)) None ne)

  closed_some : (P : PageRow → Type 0) → P (record r { evacuating = false; is_target = false }) → (b : Bool) → IfSome (cond b None (Some (record r { evacuating = false; is_target = false }))) P
  closed_some P h true = tt
  closed_some P h false = h

  each_row : (P : ℕ → PageRow → Type 0) → ((j : ℕ) → IfSome (row_at mid j) (P j)) → (P k r → P k (record r { evacuating = false; is_target = false })) → (j : ℕ) → IfSome (row_at after j) (P j)
  each_row P holds still j = elim (cases_eq j k) [
    | inl e ↦ subst (λ n. IfSome (row_at after n) (P n)) (sym e) (subst (λ o. IfSome o (P k)) (sym after_there) (closed_some (P k) (still (subst (λ o. IfSome o (P k)) mid_there (holds k))) (eqb r.allocated 0)))
    | inr ne ↦ subst (λ o. IfSome o (P j)) (same_other j ne) (holds j)
  ]

  pub closed_together : Together after words
  closed_together = record {
    present = each_row (λ j _. 2048 * j + 2048 ≤ length words) t.present (λ h. h);
    within = omega (arith, t.within, length-set rows k (Some r), length-set rows k (row_closed (Some r)));
    classes = each_row (λ _ x. x.class < CLASSES) t.classes (λ h. h);
    each = each_row (λ j x. IsFreeList words (2048 * j) x.class x.first x.allocated) t.each (λ h. h);
  }

  pub looks_and_closes : (colour : Bool) (from count : ℕ) (before : List ℕ) (new : List (Option PageRow)) → new ≡ after
      → Looks colour k from (joined rows before) count (joined mid words) → LooksAndCloses colour k from count rows new before words
  looks_and_closes colour from count before new is looks = record {
    mid = mid;
    looks = looks;
    together = t;
    len = length-set rows k (Some r);
    closes = closed_by mid words t k (omega (arith, below, length-set rows k (Some r))) (Some r) new (sym mid_there) (is ∙ sym (set-set rows k (Some r) (row_closed (Some r))));
  }
