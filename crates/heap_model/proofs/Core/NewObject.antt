-- A new object keeps the invariant: what is kept then, and what the heap says of it.
use Rattle.std.proofs.Common.{◌≡◌, ℕ, ◌<◌, ◌≤◌, ◌≢◌, inl, inr, Bool, true, false, arith, ◌==◌, if◌then◌else◌}
use Rattle.heap_model.specs.Core.{Name, null, PartGraph, Heap, Reach, FreshBy, KeptBy, Fresh, Kept, Grows, Base, Tracing, Sweeping, Resting, Moving, Left}
use Rattle.heap_model.proofs.Core.NewParts.{Parts, AreParts, link_name, made, Makes, made_at}
use Rattle.heap_model.proofs.Core.Kept.{kept_null, kept_reach, kept_fresh, reach_root, reach_step}

pub kept_more : (roots : ℕ) (s g : PartGraph) (ps : Parts) (n : Name) → Kept roots s g n → Kept roots s (made g ps) n
unfolding KeptBy FreshBy
kept_more roots s g ps n k = elim k [ inl r ↦ inl r | inr f ↦ inr (grind arith) ]

pub kept_part : (roots : ℕ) (s g : PartGraph) (ps : Parts) (p : ℕ) → s.next ≤ g.next → p < ps.count → Kept roots s (made g ps) (record { identity = g.next; part = p })
unfolding KeptBy FreshBy
kept_part roots s g ps p l k = inr (grind arith)

kept_link : (roots : ℕ) (s g : PartGraph) (ps : Parts) (q : ℕ) → s.next ≤ g.next → q < ps.count → Kept roots s (made g ps) (link_name g.next q)
kept_link roots s g ps q l k = elim (q == 0) as (λ b. Kept roots s (made g ps) (if b then null else record { identity = g.next; part = q })) [ true ↦ kept_null roots s (made g ps) | false ↦ kept_part roots s g ps q l k ]

-- what is kept afterwards was kept before, or is a part of the new object
kept_old : (roots : ℕ) (s g : PartGraph) (ps : Parts) (n : Name) → Kept roots s (made g ps) n → n.identity ≢ g.next → Kept roots s g n
unfolding KeptBy FreshBy
kept_old roots s g ps n k e = elim k [ inl r ↦ inl r | inr f ↦ inr (grind arith) ]

kept_new : (roots : ℕ) (s g : PartGraph) (ps : Parts) (n : Name) → Grows roots s g → Kept roots s (made g ps) n → n.identity ≡ g.next → n.part < ps.count
unfolding KeptBy FreshBy
kept_new roots s g ps n w k e = elim k [ inl r ↦ (let l = w.reached n r in let m = w.next in absurd (omega arith)) | inr f ↦ grind arith ]

pub kept_below : (h : Heap) (g s : PartGraph) (at : Name → ℕ) (n : Name) → Base h g s at → Kept h.roots s g n → n.identity < g.next
kept_below h g s at n b k = let e = b.allocated n k in let f = b.name n k in grind arith

pub made_grows : (h : Heap) (g s : PartGraph) (at : Name → ℕ) (ps : Parts) → Base h g s at → AreParts ps → Grows h.roots s (made g ps)
made_grows h g s at ps b w = record {
  next = grind arith;
  width = λ n l. grind arith;
  count = λ k l. let c = b.grows.count k l in grind arith;
  reached = b.grows.reached;
  kept_root = λ j l. kept_more h.roots s g ps _ (b.grows.kept_root j l);
  kept_target = λ n i k l. grind (arith, kept_old, kept_new, kept_link, kept_more);
}

pub made_base : (h : Heap) (g s : PartGraph) (at : Name → ℕ) (ps : Parts) (a : ℕ → ℕ) (h' : Heap) → Base h g s at → AreParts ps → Makes h ps a h' → Base h' (made g ps) s (made_at at h.next a)
made_base h g s at ps a h' b w m = let grows = made_grows h g s at ps b w in let stays = m.stays in let parts = m.parts in record {
  grows = rw m.roots grows;
  next = grind arith;
  null_allocated = grind arith;
  null_forward = grind arith;
  null_name = grind arith;
  null_at = grind arith;
  null_width = grind arith;
  null_words = grind arith;
  null_shape = grind arith;
  below = grind arith;
  allocated = λ n k. grind (arith, kept_old, kept_new, kept_below);
  main = λ n k. grind (arith, kept_old, kept_new, kept_below);
  name = λ n k. grind (arith, kept_old, kept_new, kept_below);
  width = λ n k. grind (arith, kept_old, kept_new, kept_below);
  words = λ n k. grind (arith, kept_old, kept_new, kept_below);
  shape = λ n k. grind (arith, kept_old, kept_new, kept_below);
  cell_allocated = λ n i k l. grind (arith, kept_old, kept_new, kept_below);
  cell = λ n i k l. grind (arith, kept_old, kept_new, kept_below);
  root_allocated = grind arith;
  root = grind (arith, kept_below);
  only = grind (arith, kept_old);
}

fresh_old : (s g : PartGraph) (ps : Parts) (n : Name) → Fresh s (made g ps) n → n.identity ≢ g.next → Fresh s g n
unfolding FreshBy
fresh_old s g ps n f e = grind arith

fresh_new : (s g : PartGraph) (ps : Parts) (n : Name) → Fresh s (made g ps) n → n.identity ≡ g.next → n.part < ps.count
unfolding FreshBy
fresh_new s g ps n f e = grind arith

pub reach_below : (roots : ℕ) (s g : PartGraph) (n : Name) → Grows roots s g → Reach roots s n → n.identity < g.next
reach_below roots s g n w r = let l = w.reached n r in let m = w.next in omega arith

old_below : (roots : ℕ) (s g : PartGraph) (n : Name) (i : ℕ) → Grows roots s g → Reach roots s n → i < g.width n → (s.target n i).identity < g.next
old_below roots s g n i w r l = let e = w.width n (w.reached n r) in reach_below roots s g _ w (reach_step roots s n i r (rw (← e) l))

pub old_target_kept : (roots : ℕ) (s g : PartGraph) (n : Name) (i : ℕ) → Grows roots s g → Reach roots s n → i < g.width n → Kept roots s g (s.target n i)
old_target_kept roots s g n i w r l = let e = w.width n (w.reached n r) in kept_reach roots s g _ (reach_step roots s n i r (rw (← e) l))

pub old_root_kept : (roots : ℕ) (s g : PartGraph) (j : ℕ) → j < roots → Kept roots s g (s.root j)
old_root_kept roots s g j l = kept_reach roots s g _ (reach_root roots s j l)

pub made_tracing : (h : Heap) (g s : PartGraph) (at : Name → ℕ) (ps : Parts) (a : ℕ → ℕ) (h' : Heap) (done : ℕ → ℕ) (place : ℕ) → Base h g s at → AreParts ps → Makes h ps a h' → Tracing h g s at done place → Tracing h' (made g ps) s (made_at at h.next a) done place
made_tracing h g s at ps a h' done place b w m t = let stays = m.stays in let parts = m.parts in record {
  null_marked = grind arith;
  marked_kept = grind (arith, kept_more, kept_part);
  marked_main = grind arith;
  fresh_marked = grind (arith, fresh_old, fresh_new, kept_fresh, kept_below);
  fresh_cell = λ n i f l. grind (arith, fresh_old, fresh_new, kept_fresh, kept_below);
  open_cell = λ n i r l. grind (arith, reach_below, old_below, old_target_kept, kept_reach, kept_below);
  done_marked = λ n i r l d. grind (arith, reach_below, old_below, old_target_kept, kept_reach, kept_below);
  done_cell = λ n i r l d. grind (arith, reach_below, old_below, old_target_kept, kept_reach, kept_below);
  open_root = λ j l. grind (arith, old_root_kept, kept_below);
  done_root_marked = λ j l p. grind (arith, old_root_kept, kept_below);
  done_root = λ j l p. grind (arith, old_root_kept, kept_below);
}

pub made_sweeping : (h : Heap) (g s : PartGraph) (at : Name → ℕ) (ps : Parts) (a : ℕ → ℕ) (h' : Heap) (place : ℕ) → Base h g s at → AreParts ps → Makes h ps a h' → Sweeping h g s at place → Sweeping h' (made g ps) s (made_at at h.next a) place
made_sweeping h g s at ps a h' place b w m t = let stays = m.stays in let parts = m.parts in record {
  null_marked = grind arith;
  marked = λ n k. grind (arith, kept_old, kept_new, kept_below);
  cell = λ n i k l. grind (arith, kept_old, kept_new, kept_below);
  root = λ j l. grind (arith, kept_below);
  marked_kept = grind (arith, kept_more, kept_part);
  marked_main = grind arith;
  looked_at = grind arith;
}

pub made_resting : (h : Heap) (g s : PartGraph) (at : Name → ℕ) (ps : Parts) (a : ℕ → ℕ) (h' : Heap) → Base h g s at → AreParts ps → Makes h ps a h' → Resting h g s at → Resting h' (made g ps) s (made_at at h.next a)
made_resting h g s at ps a h' b w m t = let stays = m.stays in let parts = m.parts in record {
  marked = grind arith;
  kept = grind (arith, kept_more, kept_part);
  forward = grind (arith, kept_below);
}

pub made_moving : (h : Heap) (ps : Parts) (a : ℕ → ℕ) (h' : Heap) (is_target : ℕ → Bool) → Makes h ps a h' → Moving h is_target → Moving h' is_target
made_moving h ps a h' is_target m o = let stays = m.stays in let parts = m.parts in record { old = grind arith }

pub made_left : (h : Heap) (ps : Parts) (a : ℕ → ℕ) (h' : Heap) (left : ℕ → Bool) → Makes h ps a h' → Left h left → Left h' left
made_left h ps a h' left m o = let stays = m.stays in let parts = m.parts in record { old = grind arith }
