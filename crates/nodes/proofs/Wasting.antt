-- The wasted words of a page, block by block.
use Rattle.std.proofs.Common.{◌≡◌, ℕ, ◌+◌, ◌-◌, ◌<◌, Bool, true, false, if◌then◌else◌, List, Option, Some, None, length, get_or, ap, ◌∙◌, sym, refl, add-one}
use Rattle.std.specs.Prelude.{IfSome, IsSomeAnd, slice_get}
use Rattle.std.proofs.lemmas.Option.{slice_get-get_or, get_or_from_slice_get}
use Rattle.size_classes.specs.Sizes.{size_of, blocks_in}
use Rattle.size_classes.specs.Parts.{cells_of, run_of}
use Rattle.heap_model.specs.Block.{BlockRecord}
use Rattle.heap_model.specs.Pages.{Page, page_at}
use Rattle.heap_model.specs.Store.{Store, record_of, address_of}
use Rattle.heap_model.specs.Units.{total}
use Rattle.pages.specs.View.{view_of}
use Rattle.pages.specs.declared.view.PageView.{PageView}
use Rattle.nodes.specs.Wasted.{words_in, wasted_in, wasted_of}
use Rattle.nodes.proofs.Freeing.{page_within}
use Rattle.nodes.proofs.Counting.{not_true, flag_within}

-- A sum goes on by the next number.
pub total_next : (f : ℕ → ℕ) (n : ℕ) → total f (n + 1) ≡ total f n + f n
unfolding total
total_next f n = rw add-one refl

-- by the cells, the part and the run that the code knows
pub words_by : (n : BlockRecord) (cells part count : ℕ) → cells ≡ cells_of n.shape → part ≡ n.part → count ≡ (run_of cells part).count → count + 4 ≡ words_in n
words_by n cells part count ec ep e = ap (λ m. m + 4) (e ∙ ap (λ m. (run_of m part).count) ec ∙ ap (λ q. (run_of (cells_of n.shape) q).count) ep)

-- a page of which something can be seen is in use, and has the class that is seen
told_class : (o : Option Page) (v : PageView) → Some v ≡ view_of o → IfSome o (λ p. p.class ≡ v.class)
told_class None v e = tt
told_class (Some p) v e = sym (ap (λ (x : PageView). x.class) (same_view e))
  where
    same_view : {a b : PageView} → Some a ≡ Some b → a ≡ b
    same_view h = cc

pub told_within : (pages : List (Option Page)) (k : ℕ) (v : PageView) → Some v ≡ view_of (page_at pages k) → k < length pages
told_within pages k v told = by_page (page_at pages k) refl told
  where
    by_page : (o : Option Page) → page_at pages k ≡ o → Some v ≡ view_of o → k < length pages
    by_page None e f = absurd (cc)
    by_page (Some p) e f = page_within pages k p e

-- the words that are wasted on page k
module _ (s : Store) (k : ℕ) where
  pub none_told : (o : Option Page) → None ≡ view_of o → 0 ≡ wasted_of s k o
  none_told None e = refl
  none_told (Some p) e = absurd (cc)

  pub none_wasted : (o : Option Page) → IfSome o (λ p. 0 ≡ total (wasted_in s k p) 0)
  unfolding total
  none_wasted None = tt
  none_wasted (Some p) = refl

  -- inside an allocated block, and a free one
  pub allocated_wasted : (i block size w : ℕ) (o : Option Page) (v : PageView) → Some v ≡ view_of o → size ≡ size_of v.class
      → IsSomeAnd o (λ p. slice_get p.allocated i ≡ Some true) → IfSome o (λ p. block ≡ address_of p.class k i) → w ≡ size - words_in (record_of s block) → IfSome o (λ p. w ≡ wasted_in s k p i)
  allocated_wasted i block size w None v told z allocated at e = tt
  allocated_wasted i block size w (Some p) v told z allocated at e =
      e ∙ ap (λ n. n - words_in (record_of s block)) (z ∙ ap size_of (sym (told_class (Some p) v told)))
      ∙ ap (λ b. size_of p.class - words_in (record_of s b)) at
      ∙ ap (λ (f : Bool). if f then size_of p.class - words_in (record_of s (address_of p.class k i)) else 0) (sym (get_or_from_slice_get p.allocated i true false allocated))

  pub free_wasted : (i : ℕ) (o : Option Page) → (IsSomeAnd o (λ p. slice_get p.allocated i ≡ Some true) → ⊥) → IfSome o (λ p. 0 ≡ wasted_in s k p i)
  free_wasted i None never = tt
  free_wasted i (Some p) never =
      let free : get_or p.allocated i false ≡ false = not_true (get_or p.allocated i false) (λ h. never (slice_get-get_or p.allocated i false (flag_within p.allocated i h) ∙ ap Some h)) in
      sym (ap (λ (f : Bool). if f then size_of p.class - words_in (record_of s (address_of p.class k i)) else 0) free)

  -- A sum goes on by the next block.
  pub more_wasted : (i was now w : ℕ) (o : Option Page) → IfSome o (λ p. was ≡ total (wasted_in s k p) i) → now ≡ was + w → IfSome o (λ p. w ≡ wasted_in s k p i)
      → IfSome o (λ p. now ≡ total (wasted_in s k p) (i + 1))
  more_wasted i was now w None before sum here = tt
  more_wasted i was now w (Some p) before sum here =
      sum ∙ ap (λ n. n + w) before ∙ ap (λ n. total (wasted_in s k p) i + n) here ∙ sym (total_next (wasted_in s k p) i)

  -- the wasted words of all blocks of its class
  pub all_wasted : (i w : ℕ) (o : Option Page) (v : PageView) → Some v ≡ view_of o → i ≡ blocks_in v.class → IfSome o (λ p. w ≡ total (wasted_in s k p) i) → w ≡ wasted_of s k o
  all_wasted i w None v told e sum = absurd (cc)
  all_wasted i w (Some p) v told e sum = sum ∙ ap (total (wasted_in s k p)) (e ∙ ap blocks_in (sym (told_class (Some p) v told)))
