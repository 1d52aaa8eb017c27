-- The records of a page say the same as the page.
use Rattle.std.proofs.Common.{◌≡◌, ℕ, ◌*◌, ◌<◌, ◌≤◌, Bool, true, false, cond, eqb, List, length, set, Option, Some, None, ap, ◌∙◌, sym, refl, subst, arith, inl, inr}
use Rattle.std.specs.Prelude.{count_by, IfSome, IsSomeAnd, IsTrue, is_some, slice_get}
use Rattle.std.proofs.lemmas.Bool.{cases_eq, ne_eqb}
use Rattle.std.proofs.lemmas.List.{get_or_past, set-get_or}
use Rattle.std.proofs.lemmas.Option.{slice_get_within, same_Some}
use Rattle.size_classes.specs.declared.class.TheConstants.{CLASSES}
use Rattle.size_classes.specs.Sizes.{size_of, blocks_in}
use Rattle.heap_model.specs.Pages.{Page, page_at, free_on}
use Rattle.heap_model.specs.Action.{allocated_on, closed, is_choosable, IsNext}
use Rattle.pages.specs.declared.page.PageRow.{PageRow}
use Rattle.pages.specs.declared.view.PageView.{PageView}
use Rattle.pages.specs.FreeList.{flags_of, IsFreeList}
use Rattle.pages.specs.Index.{row_at, row_free_on, row_choosable, row_closed}
use Rattle.pages.specs.Places.{NoneAllocated, FindsAllocated, CanBeTarget}
use Rattle.pages.specs.Together.{page_by, pages_in, Together}
use Rattle.pages.specs.View.{view_of}
use Rattle.pages.proofs.Threading.{runs_count, blocks_most}
use Rattle.pages.proofs.Flags.{length-flags, count_less}
use Rattle.pages.proofs.Telling.{page_is, length-pages, counts_add, free_on_page, pages_set, page_read}

-- the blocks that the record counts are the allocated ones of its page, and few
module _ (rows : List (Option PageRow)) (words : List ℕ) (t : Together rows words) (k : ℕ) (below : k < length rows) where
  abbrev flags : PageRow → List Bool
  flags r = flags_of words (2048 * k) r.class

  here : page_at (pages_in rows words) k ≡ page_by words (2048 * k) (row_at rows k)
  here = page_is rows words k None below

  pub allocated_count : (r : PageRow) → row_at rows k ≡ Some r → (r.allocated ≡ count_by (λ b. b) (flags r)) × (r.allocated ≤ 512)
  allocated_count r there =
      let c = subst (λ o. IfSome o (λ r. IsFreeList words (2048 * k) r.class r.first r.allocated)) there (t.each k) in
      let known : r.class < CLASSES = subst (λ o. IfSome o (λ r. r.class < CLASSES)) there (t.classes k) in
      let n = runs_count words (2048 * k) (size_of r.class) c.free (flags r) r.first c.runs in
      let all = counts_add (flags r) in
      let long = length-flags words (2048 * k) (size_of r.class) (blocks_in r.class) in
      (omega (arith, n, all, long, c.counted), let m = blocks_most r.class known in omega (arith, c.counted, m))

  -- what is a matter of the record alone
  pub told : {B : Type 0} (f : Option PageRow → B) (g : Option Page → B) → (o : Option PageRow) → o ≡ row_at rows k → f o ≡ g (page_by words (2048 * k) o) → f o ≡ g (page_at (pages_in rows words) k)
  told f g o is same = same ∙ ap (λ o. g (page_by words (2048 * k) o)) is ∙ ap g (sym here)

  pub allocated_told : (r : PageRow) → Some r ≡ row_at rows k → r.allocated ≡ allocated_on (page_at (pages_in rows words) k)
  allocated_told r is = (allocated_count r (sym is)).0 ∙ ap (λ o. allocated_on (page_by words (2048 * k) o)) is ∙ ap allocated_on (sym here)

  pub view_told : (r : PageRow) → Some r ≡ row_at rows k → (let v : PageView = record { class = r.class; allocated = r.allocated; evacuating = r.evacuating; is_target = r.is_target } in Some v) ≡ view_of (page_at (pages_in rows words) k)
  view_told r is =
      ap (λ n. let v : PageView = record { class = r.class; allocated = n; evacuating = r.evacuating; is_target = r.is_target } in Some v) (allocated_count r (sym is)).0
      ∙ ap (λ o. view_of (page_by words (2048 * k) o)) is ∙ ap view_of (sym here)

  pub none_told : {B : Type 0} (g : Option Page → B) (o : Option PageRow) → o ≡ row_at rows k → o ≡ None → g (page_at (pages_in rows words) k) ≡ g None
  none_told g o is none = ap g here ∙ ap (λ o. g (page_by words (2048 * k) o)) (sym is ∙ none)

  choosable_by : (class : ℕ) (o : Option PageRow) → row_choosable class o ≡ is_choosable class (page_by words (2048 * k) o)
  choosable_by class None = refl
  choosable_by class (Some r) = refl

  pub choosable_told : (class : ℕ) (o : Option PageRow) → o ≡ row_at rows k → row_choosable class o ≡ is_choosable class (page_at (pages_in rows words) k)
  choosable_told class o is = told (row_choosable class) (is_choosable class) o is (choosable_by class o)

  pub free_on_told : (class : ℕ) (o : Option PageRow) → o ≡ row_at rows k → row_free_on class o ≡ free_on class (page_at (pages_in rows words) k)
  free_on_told class o is = ap (row_free_on class) is ∙ free_on_page class words (2048 * k) (row_at rows k) (t.each k) ∙ ap (free_on class) (sym here)

  -- A flag is read.
  pub flag_told : (r : PageRow) (i : ℕ) (b : Bool) → Some r ≡ row_at rows k → slice_get (flags r) i ≡ Some b → (IsTrue b → IsSomeAnd (page_at (pages_in rows words) k) (λ p. slice_get p.allocated i ≡ Some true)) × (IsSomeAnd (page_at (pages_in rows words) k) (λ p. slice_get p.allocated i ≡ Some true) → IsTrue b)
  flag_told r i b is f =
      let read = page_read rows words k r below (sym is) in (
        (λ h. subst (λ o. IsSomeAnd o (λ p. slice_get p.allocated i ≡ Some true)) (sym read) (f ∙ ap Some h)),
        (λ h. let g : slice_get (flags r) i ≡ Some true = subst (λ o. IsSomeAnd o (λ p. slice_get p.allocated i ≡ Some true)) read h in same_Some b true (sym f ∙ g)),
      )

  -- a place that the page doesn't have
  pub no_flag_told : (r : PageRow) (i : ℕ) → Some r ≡ row_at rows k → blocks_in r.class ≤ i → IsSomeAnd (page_at (pages_in rows words) k) (λ p. slice_get p.allocated i ≡ Some true) → ⊥
  no_flag_told r i is past h =
      let read = page_read rows words k r below (sym is) in
      let g : slice_get (flags r) i ≡ Some true = subst (λ o. IsSomeAnd o (λ p. slice_get p.allocated i ≡ Some true)) read h in
      let w = slice_get_within (flags r) i true g in
      let long = length-flags words (2048 * k) (size_of r.class) (blocks_in r.class) in
      absurd (omega (arith, w, long, past))

  pub no_page_told : (P : Page → Type 0) (o : Option PageRow) → o ≡ row_at rows k → o ≡ None → IsSomeAnd (page_at (pages_in rows words) k) P → ⊥
  no_page_told P o is none h = absurd (subst (λ o. IsSomeAnd o P) (none_told (λ o. o) o is none) h)

  -- the next allocated block, found among the flags
  pub finds_some : (r : PageRow) (from i : ℕ) → Some r ≡ row_at rows k → from ≤ i → slice_get (flags r) i ≡ Some true → ((j : ℕ) → from ≤ j → j < i → slice_get (flags r) j ≡ Some false) → FindsAllocated (page_at (pages_in rows words) k) from (Some i)
  finds_some r from i is le allocated first =
      subst (λ o. IsSomeAnd o (λ p. IsNext p from i)) (sym (page_read rows words k r below (sym is))) (record { from = le; allocated = allocated; first = first })

  pub finds_none : (r : PageRow) (from : ℕ) → Some r ≡ row_at rows k → ((j : ℕ) → from ≤ j → j < blocks_in r.class → slice_get (flags r) j ≡ Some false) → FindsAllocated (page_at (pages_in rows words) k) from None
  finds_none r from is none =
      subst (NoneAllocated from) (sym (page_read rows words k r below (sym is))) (λ j le h.
      let w = slice_get_within (flags r) j true h in
      let long = length-flags words (2048 * k) (size_of r.class) (blocks_in r.class) in
      let g : Some false ≡ Some true = sym (none j le (omega (arith, w, long))) ∙ h in cc)

  pub finds_by : (r : PageRow) (from : ℕ) → Some r ≡ row_at rows k → (o : Option ℕ) → IfSome o (λ i. (from ≤ i) × (slice_get (flags r) i ≡ Some true) × ((j : ℕ) → from ≤ j → j < i → slice_get (flags r) j ≡ Some false))
      → (is_some o ≡ false → (j : ℕ) → from ≤ j → j < blocks_in r.class → slice_get (flags r) j ≡ Some false) → FindsAllocated (page_at (pages_in rows words) k) from o
  finds_by r from is None some none = finds_none r from is (none refl)
  finds_by r from is (Some i) some none = finds_some r from i is some.0 some.1 some.2

  pub found_within : (r : PageRow) (from : ℕ) → Some r ≡ row_at rows k → (o : Option ℕ) → IfSome o (λ i. (from ≤ i) × (slice_get (flags r) i ≡ Some true) × ((j : ℕ) → from ≤ j → j < i → slice_get (flags r) j ≡ Some false)) → IfSome o (λ i. i < 512)
  found_within r from is None some = tt
  found_within r from is (Some i) some =
      let w = slice_get_within (flags r) i true some.1 in
      let long = length-flags words (2048 * k) (size_of r.class) (blocks_in r.class) in
      let known : r.class < CLASSES = subst (λ o. IfSome o (λ r. r.class < CLASSES)) (sym is) (t.classes k) in
      let m = blocks_most r.class known in
      omega (arith, w, long, m)

  pub finds_nothing : (from : ℕ) (o : Option PageRow) → o ≡ row_at rows k → o ≡ None → FindsAllocated (page_at (pages_in rows words) k) from None
  finds_nothing from o is none = subst (NoneAllocated from) (sym (none_told (λ o. o) o is none)) tt

  -- a page that can receive has a free block
  pub room_told : (r : PageRow) → Some r ≡ row_at rows k → CanBeTarget (page_at (pages_in rows words) k) → r.allocated < blocks_in r.class
  room_told r is can =
      let read = page_read rows words k r below (sym is) in
      let d = subst CanBeTarget read can in
      let c = subst (λ o. IfSome o (λ r. IsFreeList words (2048 * k) r.class r.first r.allocated)) (sym is) (t.each k) in
      let n = runs_count words (2048 * k) (size_of r.class) c.free (flags r) r.first c.runs in
      let some = count_less (flags r) d.1.0 d.1.1 in
      omega (arith, n, some, c.counted)

  -- ---- the page marked as evacuating, and closed
  pub left_by : (r : PageRow) (after : List (Option PageRow)) → Some r ≡ row_at rows k → after ≡ set rows k (Some (record r { evacuating = true }))
      → IfSome (page_at (pages_in rows words) k) (λ p. pages_in after words ≡ set (pages_in rows words) k (Some (record p { evacuating = true })))
  left_by r after is e =
      subst (λ o. IfSome o (λ p. pages_in after words ≡ set (pages_in rows words) k (Some (record p { evacuating = true })))) (sym (page_read rows words k r below (sym is)))
      (ap (λ l. pages_in l words) e ∙ marked (record r { evacuating = true }) refl)
    where
      marked : (row : PageRow) → row.class ≡ r.class → pages_in (set rows k (Some row)) words ≡ set (pages_in rows words) k (page_by words (2048 * k) (Some row))
      marked row same = pages_set rows words words k (Some row) below (λ _ _ _. refl)

  closed_page : (o : Option PageRow) → o ≡ row_at rows k → page_by words (2048 * k) (row_closed o) ≡ closed (page_by words (2048 * k) o)
  closed_page None is = refl
  closed_page (Some r) is =
      elim (cases_eq r.allocated 0) [
        | inl e ↦ ap (λ b. page_by words (2048 * k) (cond b None (Some (record r { evacuating = false; is_target = false })))) (ap (λ n. eqb n 0) e)
            ∙ sym (ap (λ b. cond b None (shut r)) (ap (λ n. eqb n 0) (sym (allocated_count r (sym is)).0 ∙ e)))
        | inr ne ↦ ap (λ b. page_by words (2048 * k) (cond b None (Some (record r { evacuating = false; is_target = false })))) (ne_eqb r.allocated 0 ne)
            ∙ sym (ap (λ b. cond b None (shut r)) (ne_eqb (count_by (λ b. b) (flags r)) 0 (λ x. ne ((allocated_count r (sym is)).0 ∙ x))))
      ]
    where
      shut : PageRow → Option Page
      shut r = let p : Page = record { class = r.class; evacuating = false; is_target = false; allocated = flags r } in Some p

  pub closed_by : (o : Option PageRow) (after : List (Option PageRow)) → o ≡ row_at rows k → after ≡ set rows k (row_closed o) → pages_in after words ≡ set (pages_in rows words) k (closed (page_at (pages_in rows words) k))
  closed_by o after is e =
      ap (λ l. pages_in l words) e ∙ pages_set rows words words k (row_closed o) below (λ _ _ _. refl)
      ∙ ap (set (pages_in rows words) k) (closed_page o is ∙ ap (λ o. closed (page_by words (2048 * k) o)) is ∙ ap closed (sym here))

  pub unchanged_by : (o : Option PageRow) → o ≡ row_at rows k → o ≡ None → rows ≡ set rows k None
  unchanged_by o is none = sym (ap (set rows k) (sym none ∙ is) ∙ set-get_or rows k None)

pub never : {A : Type 0} → IsTrue false → A
never h = absurd (cc)

-- past the last page nothing can be seen
pub past_told : {B : Type 0} (g : Option Page → B) (rows : List (Option PageRow)) (words : List ℕ) (k : ℕ) → length rows ≤ k → g (page_at (pages_in rows words) k) ≡ g None
past_told g rows words k past = ap g (get_or_past (pages_in rows words) k None (omega (arith, past, length-pages rows words)))
