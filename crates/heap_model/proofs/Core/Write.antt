-- A root or a reference cell that is overwritten keeps the invariant.
use Rattle.std.proofs.Common.{◌≡◌, ◌⊎◌, true, ℕ, ◌<◌, arith}
use Rattle.heap_model.specs.Core.{Name, PartGraph, Heap, Kept, Grows, Base, Tracing, Sweeping, Resting}
use Rattle.heap_model.proofs.Core.Edits.{set_root, set_cell, write_root, write_target}
use Rattle.heap_model.proofs.Core.Kept.{kept_reach, kept_fresh}
use Rattle.heap_model.proofs.Core.Trace.{at_same}

-- the identity that a root names is overwritten by what is kept
pub write_root_grows : (roots : ℕ) (g s : PartGraph) (j : ℕ) (v : Name) → Grows roots s g → Kept roots s g v → Grows roots s (write_root g j v)
write_root_grows roots g s j v w k = grind arith

pub write_root_base : (h : Heap) (g s : PartGraph) (at : Name → ℕ) (j : ℕ) (v : Name) → Base h g s at → Kept h.roots s g v → Base (set_root h j (at v)) (write_root g j v) s at
write_root_base h g s at j v b k = let w = write_root_grows h.roots g s j v b.grows k in grind arith

-- a root is overwritten after what it held was recorded
pub write_root_tracing : (h : Heap) (g s : PartGraph) (at : Name → ℕ) (done : ℕ → ℕ) (place : ℕ) (j : ℕ) (v : Name) → Base h g s at → Tracing h g s at done place → j < h.roots → Kept h.roots s g v
    → h.marked (h.forward (h.root j)) ≡ true → Tracing (set_root h j (at v)) (write_root g j v) s at done place
write_root_tracing h g s at done place j v b t l k m = grind arith

pub write_root_sweeping : (h : Heap) (g s : PartGraph) (at : Name → ℕ) (place : ℕ) (j : ℕ) (v : Name) → Base h g s at → Sweeping h g s at place → Kept h.roots s g v → Sweeping (set_root h j (at v)) (write_root g j v) s at place
write_root_sweeping h g s at place j v b w k = grind arith

pub write_root_resting : (h : Heap) (g s : PartGraph) (at : Name → ℕ) (j : ℕ) (v : Name) → Resting h g s at → Resting (set_root h j (at v)) (write_root g j v) s at
write_root_resting h g s at j v r = grind arith

-- a reference cell
pub write_target_grows : (roots : ℕ) (g s : PartGraph) (n : Name) (i : ℕ) (v : Name) → Grows roots s g → Kept roots s g v → Grows roots s (write_target g n i v)
write_target_grows roots g s n i v w k = grind arith

pub write_target_base : (h : Heap) (g s : PartGraph) (at : Name → ℕ) (n : Name) (i : ℕ) (v : Name) → Base h g s at → Kept h.roots s g n → Kept h.roots s g v → Base (set_cell h (at n) i (at v)) (write_target g n i v) s at
write_target_base h g s at n i v b kn kv = let w = write_target_grows h.roots g s n i v b.grows kv in grind (arith, at_same)

exact : (h : Heap) (g s : PartGraph) (at : Name → ℕ) (n : Name) (i : ℕ) (v p : Name) (c : ℕ) → Base h g s at → Kept h.roots s g n → Kept h.roots s g p → h.cell (at p) c ≡ at (g.target p c)
    → (set_cell h (at n) i (at v)).cell (at p) c ≡ at ((write_target g n i v).target p c)
exact h g s at n i v p c b kn kp e = grind (arith, at_same)

overwritten : (h : Heap) (g s : PartGraph) (at : Name → ℕ) (n : Name) (i : ℕ) (v : Name) → h.marked (h.forward (h.cell (at n) i)) ≡ true → h.forward (h.cell (at n) i) ≡ at (g.target n i) → (p : Name) (c : ℕ)
    → (g.target p c ≡ s.target p c) ⊎ (h.marked (at (s.target p c)) ≡ true) → ((write_target g n i v).target p c ≡ s.target p c) ⊎ (h.marked (at (s.target p c)) ≡ true)
overwritten h g s at n i v m e p c o = grind arith

pub write_target_tracing : (h : Heap) (g s : PartGraph) (at : Name → ℕ) (done : ℕ → ℕ) (place : ℕ) (n : Name) (i : ℕ) (v : Name) → Base h g s at → Tracing h g s at done place → Kept h.roots s g n → i < g.width n → Kept h.roots s g v
    → h.marked (h.forward (h.cell (at n) i)) ≡ true → Tracing (set_cell h (at n) i (at v)) (write_target g n i v) s at done place
write_target_tracing h g s at done place n i v b t kn l kv m = record {
  null_marked = t.null_marked;
  marked_kept = t.marked_kept;
  marked_main = t.marked_main;
  fresh_marked = t.fresh_marked;
  fresh_cell = λ p c f k. exact h g s at n i v p c b kn (kept_fresh h.roots s g p f) (t.fresh_cell p c f k);
  open_cell = λ p c r k. let o = t.open_cell p c r k in let e = b.cell n i kn l in overwritten h g s at n i v m e p c o;
  done_marked = t.done_marked;
  done_cell = λ p c r k d. exact h g s at n i v p c b kn (kept_reach h.roots s g p r) (t.done_cell p c r k d);
  open_root = t.open_root;
  done_root_marked = t.done_root_marked;
  done_root = t.done_root;
}

pub write_target_sweeping : (h : Heap) (g s : PartGraph) (at : Name → ℕ) (place : ℕ) (n : Name) (i : ℕ) (v : Name) → Base h g s at → Sweeping h g s at place → Kept h.roots s g n → Kept h.roots s g v → Sweeping (set_cell h (at n) i (at v)) (write_target g n i v) s at place
write_target_sweeping h g s at place n i v b w kn kv = record {
  null_marked = grind arith;
  marked = grind arith;
  cell = grind (arith, at_same);
  root = grind arith;
  marked_kept = grind arith;
  marked_main = grind arith;
  looked_at = grind arith;
}

pub write_target_resting : (h : Heap) (g s : PartGraph) (at : Name → ℕ) (n : Name) (i : ℕ) (v : Name) → Resting h g s at → Resting (set_cell h (at n) i (at v)) (write_target g n i v) s at
write_target_resting h g s at n i v r = grind arith
