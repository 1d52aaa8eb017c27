-- A block that is freed, or passed, keeps the invariant; and what the sweep's end leaves.
use Rattle.std.proofs.Common.{◌≡◌, ℕ, ◌<◌, ◌≤◌, inl, inr, true, false, arith, refl}
use Rattle.heap_model.specs.Core.{Name, PartGraph, Heap, Kept, Grows, Base, Tracing, Sweeping, Resting}
use Rattle.heap_model.proofs.Core.Edits.{free, flip}
use Rattle.heap_model.proofs.Core.Kept.{kept_null, kept_reach, kept_cases, reach_root, reach_step, reach_kept, kept_again, fresh_none}

-- a block that isn't marked is freed
pub free_base : (h : Heap) (g s : PartGraph) (at : Name → ℕ) (place x : ℕ) → Base h g s at → Sweeping h g s at place → h.marked x ≡ false → Base (free h x) g s at
free_base h g s at place x b w u = grind arith

pub free_sweeping : (h : Heap) (g s : PartGraph) (at : Name → ℕ) (place x : ℕ) → Base h g s at → Sweeping h g s at place → h.marked x ≡ false → Sweeping (free h x) g s at place
free_sweeping h g s at place x b w u = grind arith

-- the sweeper goes on past blocks that are marked or not allocated
pub sweep_on : (h : Heap) (g s : PartGraph) (at : Name → ℕ) (place more : ℕ) → Sweeping h g s at place → ((x : ℕ) → h.allocated x ≡ true → place ≤ x → x < more → h.marked x ≡ true) → Sweeping h g s at more
sweep_on h g s at place more w m = grind arith

-- the sweep's end
pub swept : (h : Heap) (g s : PartGraph) (at : Name → ℕ) (place : ℕ) → Base h g s at → Sweeping h g s at place → ((x : ℕ) → h.allocated x ≡ true → x < place) → Resting h g s at
swept h g s at place b w m = grind arith

-- what is allocated is exactly what is kept
pub allocated_kept : (h : Heap) (g s : PartGraph) (at : Name → ℕ) → Base h g s at → Resting h g s at → (n : Name) → Kept h.roots s g n → (x : ℕ) × (h.allocated x ≡ true) × (h.forward x ≡ x) × (h.name x ≡ n)
allocated_kept h g s at b r n k = (at n, b.allocated n k, b.main n k, b.name n k)

-- a cycle begins
grows_again : (h : Heap) (g s : PartGraph) (at : Name → ℕ) → Base h g s at → Grows h.roots g g
grows_again h g s at b = record {
  next = omega arith;
  width = λ n l. refl;
  count = λ k l. refl;
  reached = λ n r. let k = reach_kept h.roots s g b.grows n r in let e = b.allocated n k in let f = b.name n k in grind arith;
  kept_root = λ j l. kept_reach h.roots g g _ (reach_root h.roots g j l);
  kept_target = λ n i k l. elim (kept_cases h.roots g g n k) [ inl r ↦ kept_reach h.roots g g _ (reach_step h.roots g n i r l) | inr f ↦ absurd (fresh_none g n f) ];
}

pub begin_base : (h : Heap) (g s : PartGraph) (at : Name → ℕ) → Base h g s at → Base (flip h) g g at
begin_base h g s at b = let w = grows_again h g s at b in let again = kept_again h.roots s g b.grows in grind (arith, again)

pub begin_tracing : (h : Heap) (g s : PartGraph) (at : Name → ℕ) → Base h g s at → Tracing (flip h) g g at (λ x. 0) 0
begin_tracing h g s at b = let null = kept_null h.roots g g in grind (arith, fresh_none)
