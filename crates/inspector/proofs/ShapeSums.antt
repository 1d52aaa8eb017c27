-- The figures of held objects, summed block by block and page by page.
use Rattle.std.proofs.Common.{◌≡◌, ℕ, ◌+◌, ◌≤◌, ◌==◌, Bool, true, false, not, ◌&&◌, if◌then◌else◌, length, Option, Some, None, IfSome, ap, ◌∙◌, sym, subst, refl, arith, add-one}
use Rattle.std.specs.Prelude.{unwrap_or}
use Rattle.size_classes.specs.Sizes.{blocks_in}
use Rattle.graph_heap.specs.declared.command.Shape.{Shape}
use Rattle.heap_model.specs.Pages.{Page, page_at}
use Rattle.heap_model.specs.Store.{Store, size_in}
use Rattle.pages.specs.View.{view_of}
use Rattle.pages.specs.declared.view.PageView.{PageView}
use Rattle.nodes.specs.Seen.{block_view}
use Rattle.nodes.specs.declared.nodes.seeing.BlockView.{BlockView}
use Rattle.inspector.specs.declared.shapes.held.Held.{Held}
use Rattle.inspector.specs.Shapes.{nothing, both, held_by, held_in, held_at, held_on, held_of, places_on, summed}
use Rattle.inspector.specs.Counted.{IsOfBlocks, held_before}
use Rattle.inspector.proofs.Fillings.{class_told}

-- the same figures
same : (a b : Held) → a.objects ≡ b.objects → a.parts ≡ b.parts → a.words ≡ b.words → a ≡ b
same a b o p w = λ i. record { objects = o i; parts = p i; words = w i }

pub both_none : (a : Held) → both a nothing ≡ a
both_none a = same (both a nothing) a (omega arith) (omega arith) (omega arith)

both_assoc : (a b c : Held) → both a (both b c) ≡ both (both a b) c
both_assoc a b c = same (both a (both b c)) (both (both a b) c) (omega arith) (omega arith) (omega arith)

-- bounds
pub of_more : (h : Held) (m n : ℕ) → IsOfBlocks h m → m ≤ n → IsOfBlocks h n
of_more h m n w l = record { objects = w.objects; parts = omega (arith, w.parts, l); words = w.words }

of_none : (m : ℕ) → IsOfBlocks nothing m
of_none m = record { objects = omega arith; parts = omega arith; words = omega arith }

-- what was found, or nothing
pub of_found : (o : Option Held) (m : ℕ) → IfSome o (λ h. IsOfBlocks h m) → IsOfBlocks (unwrap_or o nothing) m
of_found None m w = of_none m
of_found (Some h) m w = w

of_both : (a b : Held) (m n : ℕ) → IsOfBlocks a m → IsOfBlocks b n → IsOfBlocks (both a b) (m + n)
of_both a b m n v w = record {
  objects = omega (arith, v.objects, w.objects);
  parts = omega (arith, v.parts, w.parts);
  words = omega (arith, v.words, w.words);
}

of_part : (size : ℕ) (v : BlockView) → size ≤ 256 → IsOfBlocks (held_by size v) 1
of_part size v l = by (v.part == 0)
  where
    by : (b : Bool) → IsOfBlocks (record { objects = if b then 1 else 0; parts = 1; words = size }) 1
    by true = record { objects = omega arith; parts = omega arith; words = omega (arith, l) }
    by false = record { objects = omega arith; parts = omega arith; words = omega (arith, l) }

of_block : (these : Shape → Bool) (size : ℕ) (o : Option BlockView) → size ≤ 256 → IsOfBlocks (held_in these size o) 1
of_block these size None l = of_none 1
of_block these size (Some v) l = by (not v.is_old && these v.shape)
  where
    by : (b : Bool) → IsOfBlocks (if b then held_by size v else nothing) 1
    by true = of_part size v l
    by false = of_none 1

-- sums
module _ (each : ℕ → Held) where
  pub summed_none : summed each 0 ≡ nothing
  unfolding summed
  summed_none = refl

  pub summed_next : (n : ℕ) → summed each (n + 1) ≡ both (summed each n) (each n)
  unfolding summed
  summed_next n = rw add-one refl

module _ (these : Shape → Bool) (s : Store) where
  -- Nothing is held before the first block.
  pub before_first : held_before these s 0 0 ≡ nothing
  before_first =
      ap (λ h. both h (summed (held_at these s 0) 0)) (summed_none (held_on these s)) ∙ ap (both nothing) (summed_none (held_at these s 0))
      ∙ both_none nothing

  module _ (k : ℕ) where
    -- The next block is added.
    pub before_next : (index : ℕ) → held_before these s k (index + 1) ≡ both (held_before these s k index) (held_at these s k index)
    before_next index =
        ap (both (summed (held_on these s) k)) (summed_next (held_at these s k) index)
        ∙ both_assoc (summed (held_on these s) k) (summed (held_at these s k) index) (held_at these s k index)

    -- The last block of a page is added.
    pub before_page : (index : ℕ) → index ≡ places_on (page_at s.pages k) → held_before these s k index ≡ held_before these s (k + 1) 0
    before_page index last =
        ap (λ n. both (summed (held_on these s) k) (summed (held_at these s k) n)) last
        ∙ sym (summed_next (held_on these s) k) ∙ sym (both_none (summed (held_on these s) (k + 1)))
        ∙ ap (both (summed (held_on these s) (k + 1))) (sym (summed_none (held_at these s (k + 1))))

  -- the figures of all pages
  pub before_end : (k : ℕ) → k ≡ length s.pages → held_before these s k 0 ≡ held_of these s
  before_end k last =
      ap (both (summed (held_on these s) k)) (summed_none (held_at these s k)) ∙ both_none (summed (held_on these s) k)
      ∙ ap (summed (held_on these s)) last

  module _ (k index size : ℕ) (is : size ≡ size_in (page_at s.pages k)) where
    -- a block that isn't allocated, or has an old copy
    pub none_held : None ≡ block_view s k index → held_at these s k index ≡ nothing
    none_held e = ap (held_in these (size_in (page_at s.pages k))) (sym e)

    pub old_held : (v : BlockView) → Some v ≡ block_view s k index → v.is_old ≡ true → held_at these s k index ≡ nothing
    old_held v e old =
        ap (held_in these (size_in (page_at s.pages k))) (sym e)
        ∙ ap (λ b. if not b && these v.shape then held_by (size_in (page_at s.pages k)) v else nothing) old

    -- a main copy
    pub main_held : (v : BlockView) → Some v ≡ block_view s k index → v.is_old ≡ false → held_at these s k index ≡ (if these v.shape then held_by size v else nothing)
    main_held v e main =
        ap (held_in these (size_in (page_at s.pages k))) (sym e)
        ∙ ap (λ b. if not b && these v.shape then held_by (size_in (page_at s.pages k)) v else nothing) main
        ∙ ap (λ n. if these v.shape then held_by n v else nothing) (sym is)

    pub of_before : (m : ℕ) → size ≤ 256 → IsOfBlocks (held_before these s k index) m → IsOfBlocks (held_before these s k (index + 1)) (m + 1)
    of_before m l w =
        subst (λ h. IsOfBlocks h (m + 1)) (sym (before_next k index))
        (of_both (held_before these s k index) (held_at these s k index) m 1 w (of_block these (size_in (page_at s.pages k)) (block_view s k index) (subst (λ n. n ≤ 256) is l)))

pub of_first : (these : Shape → Bool) (s : Store) (m : ℕ) → IsOfBlocks (held_before these s 0 0) m
of_first these s m = subst (λ h. IsOfBlocks h m) (sym (before_first these s)) (of_none m)

-- A sum without parts is nothing.
pub nothing_held : (h : Held) (m : ℕ) → IsOfBlocks h m → h.parts ≡ 0 → nothing ≡ h
nothing_held h m w e = same nothing h (omega (arith, w.objects, e)) (omega (arith, e)) (omega (arith, w.words, e))

-- a page of which nothing is seen has no block, and one that is seen has those of its class
pub no_places : (o : Option Page) → None ≡ view_of o → 0 ≡ places_on o
no_places None e = refl
no_places (Some p) e = absurd (cc)

pub places_seen : (o : Option Page) (v : PageView) → Some v ≡ view_of o → places_on o ≡ blocks_in v.class
places_seen None v e = absurd (cc)
places_seen (Some p) v e = ap blocks_in (class_told 0 0 p v e)
