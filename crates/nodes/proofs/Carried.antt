-- A change of blocks, with words that stayed in allocated blocks before it or after it.
use Rattle.std.proofs.Common.{◌≡◌, ℕ, true, List, Option, ap, ◌∙◌}
use Rattle.heap_model.specs.Action.{Frees, MovesBlock}
use Rattle.heap_model.specs.Block.{BlockRecord, with_forward}
use Rattle.heap_model.specs.Pages.{Page}
use Rattle.heap_model.specs.Store.{Store, IsStore, Adds, is_allocated}
use Rattle.pages.specs.Together.{KeepsAllocated}
use Rattle.nodes.proofs.Joining.{node_kept}

-- words stayed, and then a block was added or moved
module _ (pages : List (Option Page)) (words mid : List ℕ) (kept : KeepsAllocated pages words mid) (whole : IsStore (record { pages = pages; words = words })) (new : Store) where
  pub adds_then : (a : ℕ) (block : BlockRecord) → Adds (record { pages = pages; words = mid }) new a block → Adds (record { pages = pages; words = words }) new a block
  unfolding is_allocated
  adds_then a block x = record {
    free = x.free;
    allocated = x.allocated;
    here = x.here;
    others = λ b h. x.others b h ∙ node_kept pages words mid kept b h whole;
    same = x.same;
  }

  pub moves_then : (from to : ℕ) → is_allocated (record { pages = pages; words = words }) from ≡ true → MovesBlock (record { pages = pages; words = mid }) new from to → MovesBlock (record { pages = pages; words = words }) new from to
  unfolding is_allocated
  moves_then from to h x =
      let source = node_kept pages words mid kept from h whole in
      record {
        free = x.free;
        allocated = x.allocated;
        copy = x.copy ∙ ap (λ n. with_forward n to) source;
        forward = x.forward ∙ ap (λ n. with_forward n to) source;
        same = x.same;
        nodes = λ b ne h. x.nodes b ne h ∙ node_kept pages words mid kept b h whole;
      }

-- a block was freed, and the words of the others stayed
pub frees_then : (s : Store) (pages : List (Option Page)) (new : List ℕ) → KeepsAllocated pages s.words new → IsStore (record { pages = pages; words = s.words }) → (a : ℕ) → Frees s (record { pages = pages; words = s.words }) a → Frees s (record { pages = pages; words = new }) a
unfolding is_allocated
frees_then s pages new kept whole a x = record {
  gone = x.gone;
  same = x.same;
  nodes = λ b ne h. node_kept pages s.words new kept b (x.same b ne ∙ h) whole ∙ x.nodes b ne h;
}
