-- Two heaps that show the same have the same invariant.
use Rattle.std.proofs.Common.{◌≡◌, ℕ, ◌<◌, ◌≤◌, Bool, true, arith}
use Rattle.heap_model.specs.Core.{Name, PartGraph, Heap, Reach, Grows, Base, Tracing, Sweeping, Resting, Moving, Left}
use Rattle.heap_model.proofs.Core.Stays.{SaysSame}
use Rattle.heap_model.proofs.Core.Kept.{kept_reach, kept_fresh}
use Rattle.heap_model.proofs.Core.NewObject.{old_target_kept, old_root_kept}

-- Two heaps that show the same: the same blocks are allocated, with the same records. Words of blocks that aren't
-- allocated, and words behind a block's last cell, don't count.
pub record SameBlocks (h h' : Heap) : Type 0 where
  pub next : h'.next ≡ h.next
  pub roots : h'.roots ≡ h.roots
  pub root : (j : ℕ) → j < h.roots → h'.root j ≡ h.root j
  pub allocated : (x : ℕ) → h'.allocated x ≡ h.allocated x
  pub says : SaysSame h h'

pub same_base : (h h' : Heap) (g s : PartGraph) (at : Name → ℕ) → SameBlocks h h' → Base h g s at → Base h' g s at
same_base h h' g s at e b = let grows : Grows h'.roots s g = rw e.roots b.grows in grind arith

pub same_tracing : (h h' : Heap) (g s : PartGraph) (at : Name → ℕ) (done done' : ℕ → ℕ) (place : ℕ) → SameBlocks h h' → Base h g s at → ((x : ℕ) → h.allocated x ≡ true → Reach h.roots s (h.name x) → done' x ≤ done x) → Tracing h g s at done place → Tracing h' g s at done' place
same_tracing h h' g s at done done' place e b d t = record {
  null_marked = grind arith;
  marked_kept = grind arith;
  marked_main = grind arith;
  fresh_marked = grind (arith, kept_fresh);
  fresh_cell = grind (arith, kept_fresh);
  open_cell = grind (arith, old_target_kept);
  done_marked = grind (arith, old_target_kept, kept_reach);
  done_cell = grind (arith, kept_reach);
  open_root = grind (arith, old_root_kept);
  done_root_marked = grind (arith, old_root_kept);
  done_root = grind arith;
}

pub same_sweeping : (h h' : Heap) (g s : PartGraph) (at : Name → ℕ) (place : ℕ) → SameBlocks h h' → Base h g s at → Sweeping h g s at place → Sweeping h' g s at place
same_sweeping h h' g s at place e b t = grind arith

pub same_resting : (h h' : Heap) (g s : PartGraph) (at : Name → ℕ) → SameBlocks h h' → Resting h g s at → Resting h' g s at
same_resting h h' g s at e t = grind arith

pub same_moving : (h h' : Heap) (is_target : ℕ → Bool) → SameBlocks h h' → Moving h is_target → Moving h' is_target
same_moving h h' is_target e t = grind arith

pub same_left : (h h' : Heap) (left : ℕ → Bool) → SameBlocks h h' → Left h left → Left h' left
same_left h h' left e t = grind arith
