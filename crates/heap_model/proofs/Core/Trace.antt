-- Shading and scanning keep the invariant; and facts for the case that nothing is grey.
use Rattle.std.proofs.Common.{◌≡◌, ℕ, ◌+◌, ◌<◌, ◌≤◌, inl, inr, true, arith, sym, ap, subst, ◌∙◌}
use Rattle.heap_model.specs.Core.{Name, PartGraph, Heap, Reach, Kept, Base, Tracing, Sweeping}
use Rattle.heap_model.proofs.Core.Edits.{put, shade, set_root, set_cell}
use Rattle.heap_model.proofs.Core.Kept.{kept_reach, kept_fresh, kept_cases, reach_null, reach_root, reach_step, reach_induction}

-- nothing is grey
pub record Traced (h : Heap) (g s : PartGraph) (done : ℕ → ℕ) (place : ℕ) : Type 0 where
  pub roots : h.roots ≤ place
  pub cells : (x i : ℕ) → h.allocated x ≡ true → h.marked x ≡ true → Reach h.roots s (h.name x) → i < h.width x → i < done x

-- shading a main copy of what is kept
pub shade_base : (h : Heap) (g s : PartGraph) (at : Name → ℕ) (x : ℕ) → Base h g s at → Base (shade h x) g s at
shade_base h g s at x b = grind arith

pub shade_tracing : (h : Heap) (g s : PartGraph) (at : Name → ℕ) (done : ℕ → ℕ) (place : ℕ) (n : Name) → Base h g s at → Tracing h g s at done place → Kept h.roots s g n → Tracing (shade h (at n)) g s at done place
shade_tracing h g s at done place n b t k = grind arith

-- a root is scanned
pub scan_root_base : (h : Heap) (g s : PartGraph) (at : Name → ℕ) (place : ℕ) → Base h g s at → place < h.roots → Base (set_root h place (h.forward (h.root place))) g s at
scan_root_base h g s at place b l = grind arith

pub scan_root : (h : Heap) (g s : PartGraph) (at : Name → ℕ) (done : ℕ → ℕ) (place : ℕ) → Base h g s at → Tracing h g s at done place → place < h.roots → Tracing (shade (set_root h place (h.forward (h.root place))) (h.forward (h.root place))) g s at done (place + 1)
scan_root h g s at done place b t l = grind arith

-- a cell is scanned
pub at_same : (h : Heap) (g s : PartGraph) (at : Name → ℕ) (m n : Name) → Base h g s at → Kept h.roots s g m → Kept h.roots s g n → at m ≡ at n → m ≡ n
at_same h g s at m n b km kn e = sym (b.name m km) ∙ ap h.name e ∙ b.name n kn

pub scan_cell_base : (h : Heap) (g s : PartGraph) (at : Name → ℕ) (n : Name) (i : ℕ) → Base h g s at → Kept h.roots s g n → i < g.width n → Base (set_cell h (at n) i (h.forward (h.cell (at n) i))) g s at
scan_cell_base h g s at n i b k l = grind (arith, at_same)

pub scan_cell : (h : Heap) (g s : PartGraph) (at : Name → ℕ) (done : ℕ → ℕ) (place : ℕ) (n : Name) → Base h g s at → Tracing h g s at done place → Kept h.roots s g n → done (at n) < g.width n → h.marked (at n) ≡ true
    → Tracing (shade (set_cell h (at n) (done (at n)) (h.forward (h.cell (at n) (done (at n))))) (h.forward (h.cell (at n) (done (at n))))) g s at (put done (at n) (done (at n) + 1)) place
scan_cell h g s at done place n b t k l m = grind (arith, at_same, kept_reach, kept_fresh)

-- the same, by the block and its next cell
pub scan_block_base : (h : Heap) (g s : PartGraph) (at : Name → ℕ) (x c : ℕ) (n : Name) → Base h g s at → Kept h.roots s g n → x ≡ at n → c < h.width x → Base (set_cell h x c (h.forward (h.cell x c))) g s at
scan_block_base h g s at x c n b k e l = let w : c < g.width n = (let v = b.width n k in let u = ap h.width e in omega arith) in rw e (scan_cell_base h g s at n c b k w)

pub scan_block : (h : Heap) (g s : PartGraph) (at : Name → ℕ) (done : ℕ → ℕ) (place : ℕ) (x c : ℕ) (n : Name) → Base h g s at → Tracing h g s at done place → Kept h.roots s g n → x ≡ at n → c ≡ done (at n) → c < h.width x → h.marked x ≡ true
    → Tracing (shade (set_cell h x c (h.forward (h.cell x c))) (h.forward (h.cell x c))) g s at (put done x (c + 1)) place
scan_block h g s at done place x c n b t k e d l m =
    let w : done (at n) < g.width n = (let v = b.width n k in let u = ap h.width e in omega arith) in
    let m' : h.marked (at n) ≡ true = rw (← e) m in
    rw (e, d) (scan_cell h g s at done place n b t k w m')

-- nothing is grey: what is kept is marked, and nothing names an old copy
reach_marked_step : (h : Heap) (g s : PartGraph) (at : Name → ℕ) (done : ℕ → ℕ) (place : ℕ) → Base h g s at → Tracing h g s at done place → Traced h g s done place → (n : Name) (i : ℕ) → Reach h.roots s n → h.marked (at n) ≡ true → i < s.width n → h.marked (at (s.target n i)) ≡ true
reach_marked_step h g s at done place b t d n i r m l =
    let k = kept_reach h.roots s g n r in
    let below = b.grows.reached n r in
    let w : g.width n ≡ s.width n = b.grows.width n below in
    let r' : Reach h.roots s (h.name (at n)) = subst (λ z. Reach h.roots s z) (sym (b.name n k)) r in
    let lw : i < h.width (at n) = rw (b.width n k, w) l in
    t.done_marked n i r (rw w l) (d.cells (at n) i (b.allocated n k) m r' lw)

reach_marked : (h : Heap) (g s : PartGraph) (at : Name → ℕ) (done : ℕ → ℕ) (place : ℕ) → Base h g s at → Tracing h g s at done place → Traced h g s done place → (n : Name) → Reach h.roots s n → (Reach h.roots s n) × (h.marked (at n) ≡ true)
reach_marked h g s at done place b t d = reach_induction h.roots s (λ n. (Reach h.roots s n) × (h.marked (at n) ≡ true))
    (reach_null h.roots s, ap h.marked b.null_at ∙ t.null_marked)
    (λ j l. (reach_root h.roots s j l, let p = d.roots in t.done_root_marked j l (omega arith)))
    (λ n i r l. (reach_step h.roots s n i r.0 l, reach_marked_step h g s at done place b t d n i r.0 r.1 l))

kept_marked : (h : Heap) (g s : PartGraph) (at : Name → ℕ) (done : ℕ → ℕ) (place : ℕ) → Base h g s at → Tracing h g s at done place → Traced h g s done place → (n : Name) → Kept h.roots s g n → h.marked (at n) ≡ true
kept_marked h g s at done place b t d n k = elim (kept_cases h.roots s g n k) [ inl r ↦ (reach_marked h g s at done place b t d n r).1 | inr f ↦ t.fresh_marked n f ]

kept_cell : (h : Heap) (g s : PartGraph) (at : Name → ℕ) (done : ℕ → ℕ) (place : ℕ) → Base h g s at → Tracing h g s at done place → Traced h g s done place → (n : Name) (i : ℕ) → Kept h.roots s g n → i < g.width n → h.cell (at n) i ≡ at (g.target n i)
kept_cell h g s at done place b t d n i k l =
    let lw : i < h.width (at n) = rw (b.width n k) l in
    elim (kept_cases h.roots s g n k) [
      | inl r ↦ t.done_cell n i r l (d.cells (at n) i (b.allocated n k) (reach_marked h g s at done place b t d n r).1 (subst (λ z. Reach h.roots s z) (sym (b.name n k)) r) lw)
      | inr f ↦ t.fresh_cell n i f l
    ]

pub traced : (h : Heap) (g s : PartGraph) (at : Name → ℕ) (done : ℕ → ℕ) (place : ℕ) → Base h g s at → Tracing h g s at done place → Traced h g s done place → Sweeping h g s at 0
traced h g s at done place b t d = record {
  null_marked = t.null_marked;
  marked = kept_marked h g s at done place b t d;
  cell = kept_cell h g s at done place b t d;
  root = λ j l. let p = d.roots in t.done_root j l (omega arith);
  marked_kept = t.marked_kept;
  marked_main = t.marked_main;
  looked_at = λ x k l. absurd (omega arith);
}
