-- Mutators keep the invariant: a record of an overwritten reference, one write, and new objects.
use Rattle.std.proofs.Common.{◌≡◌, ℕ, ◌<◌, Bool, true, false, arith, refl, ap, subst, sym, ◌∙◌}
use Rattle.heap_model.specs.Core.{Name, PartGraph, Heap, Reach, Kept, Base, Tracing}
use Rattle.heap_model.specs.Agree.{IsMain}
use Rattle.heap_model.specs.Collector.{Progress, In_idle, In_roots, In_marking, In_sweep, In_moves, Collector, done_by, done_of, Greys, PhaseInvariant, Coherent}
use Rattle.heap_model.proofs.Core.NewParts.{Parts, AreParts, made, Makes, made_at}
use Rattle.heap_model.proofs.Core.Edits.{set_root, set_cell, write_root, write_target}
use Rattle.heap_model.proofs.Collector.Acts.{shaded}
use Rattle.heap_model.proofs.Core.Trace.{shade_base, shade_tracing}
use Rattle.heap_model.proofs.Core.Write.{write_root_base, write_root_tracing, write_root_sweeping, write_root_resting, write_target_base, write_target_tracing, write_target_sweeping, write_target_resting}
use Rattle.heap_model.proofs.Collector.Coherence.{shaded_done, shaded_greys, tracing_same, tracing_less, stage_at}
use Rattle.heap_model.proofs.Core.NewObject.{made_base, made_tracing, made_sweeping, made_resting, made_moving, made_left, kept_part}

-- In roots and marking, what a command overwrites in a root or in a reference cell is shaded first.
abbrev pub is_tracing : Progress → Bool
is_tracing In_idle = false
is_tracing (In_roots place) = true
is_tracing In_marking = true
is_tracing (In_sweep place) = false
is_tracing In_moves = false

-- in a phase p whose stage holds
pub staged : (m : Collector) (at : Name → ℕ) (g s : PartGraph) (p : Progress) → m.phase ≡ p → Base m.heap g s at → PhaseInvariant m g s at p → Coherent m g s
staged m at g s p e b st = record { at = at; base = b; stage = subst (λ z. PhaseInvariant m g s at z) (sym e) st }

-- the main copy of what is kept is where the ghost says
pub main_at : (m : Collector) (g s : PartGraph) (c : Coherent m g s) (x : ℕ) (n : Name) → Kept m.heap.roots s g n → IsMain m.heap x n → x ≡ c.at n
main_at m g s c x n k i = let kx : Kept m.heap.roots s g (m.heap.name x) = subst (λ z. Kept m.heap.roots s g z) (sym i.name) k in c.base.only x i.allocated i.forward kx ∙ ap c.at i.name

-- the main copy of what is kept is shaded
shade_stage : (m : Collector) (g s : PartGraph) (at : Name → ℕ) (place x : ℕ) (n : Name) → Base m.heap g s at → Tracing m.heap g s at (done_of m) place → Greys m → Kept m.heap.roots s g n → x ≡ at n
    → Tracing (shaded m x).heap g s at (done_of (shaded m x)) place × Greys (shaded m x)
shade_stage m g s at place x n b t w k e =
    let t1 : Tracing (shaded m x).heap g s at (done_of m) place = rw e (shade_tracing m.heap g s at (done_of m) place n b t k) in
    let allocated : m.heap.allocated x ≡ true = ap m.heap.allocated e ∙ b.allocated n k in
    (tracing_same (shaded m x).heap g s at (done_of m) (done_of (shaded m x)) place (shade_base m.heap g s at x b) (shaded_done m x) t1, shaded_greys m x w allocated)

pub shades : (m : Collector) (g s : PartGraph) (x : ℕ) (n : Name) → Coherent m g s → is_tracing m.phase ≡ true → Kept m.heap.roots s g n → IsMain m.heap x n → Coherent (shaded m x) g s
shades m g s x n c r k i = by_phase m.phase refl
  where
    b' : Base (shaded m x).heap g s c.at
    b' = shade_base m.heap g s c.at x c.base

    e : x ≡ c.at n
    e = main_at m g s c x n k i

    by_phase : (p : Progress) → m.phase ≡ p → Coherent (shaded m x) g s
    by_phase In_idle q = absurd (let z : false ≡ true = subst (λ z. is_tracing z ≡ true) q r in cc)
    by_phase (In_roots place) q = let st = stage_at m g s c (In_roots place) q in staged (shaded m x) c.at g s (In_roots place) q b' (shade_stage m g s c.at place x n c.base st.0 st.1 k e)
    by_phase In_marking q = let st = stage_at m g s c In_marking q in staged (shaded m x) c.at g s In_marking q b' (shade_stage m g s c.at m.heap.roots x n c.base st.0 st.1 k e)
    by_phase (In_sweep place) q = absurd (let z : false ≡ true = subst (λ z. is_tracing z ≡ true) q r in cc)
    by_phase In_moves q = absurd (let z : false ≡ true = subst (λ z. is_tracing z ≡ true) q r in cc)

greys_root : (m : Collector) (j y : ℕ) → Greys m → Greys (record m { heap = set_root m.heap j y })
greys_root m j y w = record { allocated = w.allocated; marked = w.marked; scanning_allocated = w.scanning_allocated; scanning_marked = w.scanning_marked; scanning_apart = w.scanning_apart; column = w.column; once = w.once }

greys_cell : (m : Collector) (x i y : ℕ) → Greys m → Greys (record m { heap = set_cell m.heap x i y })
greys_cell m x i y w = record { allocated = w.allocated; marked = w.marked; scanning_allocated = w.scanning_allocated; scanning_marked = w.scanning_marked; scanning_apart = w.scanning_apart; column = w.column; once = w.once }

-- a root is written, after what it held was recorded
pub puts_root : (m : Collector) (g s : PartGraph) (j y : ℕ) (v : Name) → Coherent m g s → j < m.heap.roots → (is_tracing m.phase ≡ true → m.heap.marked (m.heap.forward (m.heap.root j)) ≡ true)
    → Kept m.heap.roots s g v → IsMain m.heap y v → Coherent (record m { heap = set_root m.heap j y }) (write_root g j v) s
puts_root m g s j y v c l r k i = subst (λ z. Coherent (record m { heap = set_root m.heap j z }) (write_root g j v) s) (sym (main_at m g s c y v k i)) (by_phase m.phase refl)
  where
    m' : Collector
    m' = record m { heap = set_root m.heap j (c.at v) }

    b' : Base m'.heap (write_root g j v) s c.at
    b' = write_root_base m.heap g s c.at j v c.base k

    by_phase : (p : Progress) → m.phase ≡ p → Coherent m' (write_root g j v) s
    by_phase In_idle e = staged m' c.at (write_root g j v) s In_idle e b' (write_root_resting m.heap g s c.at j v (stage_at m g s c In_idle e))
    by_phase (In_roots place) e =
        let st = stage_at m g s c (In_roots place) e in
        let r' : m.heap.marked (m.heap.forward (m.heap.root j)) ≡ true = r (ap is_tracing e) in
        staged m' c.at (write_root g j v) s (In_roots place) e b' (write_root_tracing m.heap g s c.at (done_of m) place j v c.base st.0 l k r', greys_root m j (c.at v) st.1)
    by_phase In_marking e =
        let st = stage_at m g s c In_marking e in
        let r' : m.heap.marked (m.heap.forward (m.heap.root j)) ≡ true = r (ap is_tracing e) in
        staged m' c.at (write_root g j v) s In_marking e b' (write_root_tracing m.heap g s c.at (done_of m) m.heap.roots j v c.base st.0 l k r', greys_root m j (c.at v) st.1)
    by_phase (In_sweep place) e = staged m' c.at (write_root g j v) s (In_sweep place) e b' (write_root_sweeping m.heap g s c.at place j v c.base (stage_at m g s c (In_sweep place) e) k)
    by_phase In_moves e = let st = stage_at m g s c In_moves e in staged m' c.at (write_root g j v) s In_moves e b' (write_root_resting m.heap g s c.at j v st.0, record { old = st.1.old }, record { old = st.2.old })

-- a reference cell is written, after what it held was recorded
cell_kept : (m : Collector) (g s : PartGraph) (n : Name) (i : ℕ) (v : Name) (c : Coherent m g s) → Kept m.heap.roots s g n → i < g.width n → (is_tracing m.phase ≡ true → m.heap.marked (m.heap.forward (m.heap.cell (c.at n) i)) ≡ true)
    → Kept m.heap.roots s g v → Coherent (record m { heap = set_cell m.heap (c.at n) i (c.at v) }) (write_target g n i v) s
cell_kept m g s n i v c kn l r k = by_phase m.phase refl
  where
    m' : Collector
    m' = record m { heap = set_cell m.heap (c.at n) i (c.at v) }

    b' : Base m'.heap (write_target g n i v) s c.at
    b' = write_target_base m.heap g s c.at n i v c.base kn k

    by_phase : (p : Progress) → m.phase ≡ p → Coherent m' (write_target g n i v) s
    by_phase In_idle e = staged m' c.at (write_target g n i v) s In_idle e b' (write_target_resting m.heap g s c.at n i v (stage_at m g s c In_idle e))
    by_phase (In_roots place) e =
        let st = stage_at m g s c (In_roots place) e in
        let r' : m.heap.marked (m.heap.forward (m.heap.cell (c.at n) i)) ≡ true = r (ap is_tracing e) in
        staged m' c.at (write_target g n i v) s (In_roots place) e b' (write_target_tracing m.heap g s c.at (done_of m) place n i v c.base st.0 kn l k r', greys_cell m (c.at n) i (c.at v) st.1)
    by_phase In_marking e =
        let st = stage_at m g s c In_marking e in
        let r' : m.heap.marked (m.heap.forward (m.heap.cell (c.at n) i)) ≡ true = r (ap is_tracing e) in
        staged m' c.at (write_target g n i v) s In_marking e b' (write_target_tracing m.heap g s c.at (done_of m) m.heap.roots n i v c.base st.0 kn l k r', greys_cell m (c.at n) i (c.at v) st.1)
    by_phase (In_sweep place) e = staged m' c.at (write_target g n i v) s (In_sweep place) e b' (write_target_sweeping m.heap g s c.at place n i v c.base (stage_at m g s c (In_sweep place) e) kn k)
    by_phase In_moves e = let st = stage_at m g s c In_moves e in staged m' c.at (write_target g n i v) s In_moves e b' (write_target_resting m.heap g s c.at n i v st.0, record { old = st.1.old }, record { old = st.2.old })

pub puts_cell : (m : Collector) (g s : PartGraph) (x : ℕ) (n : Name) (i y : ℕ) (v : Name) → Coherent m g s → Kept m.heap.roots s g n → IsMain m.heap x n → i < g.width n
    → (is_tracing m.phase ≡ true → m.heap.marked (m.heap.forward (m.heap.cell x i)) ≡ true) → Kept m.heap.roots s g v → IsMain m.heap y v → Coherent (record m { heap = set_cell m.heap x i y }) (write_target g n i v) s
puts_cell m g s x n i y v c kn ix l r kv iy =
    let ex = main_at m g s c x n kn ix in
    subst (λ z. Coherent (record m { heap = set_cell m.heap z i y }) (write_target g n i v) s) (sym ex)
    (subst (λ z. Coherent (record m { heap = set_cell m.heap (c.at n) i z }) (write_target g n i v) s) (sym (main_at m g s c y v kv iy))
    (cell_kept m g s n i v c kn l (λ t. subst (λ z. m.heap.marked (m.heap.forward (m.heap.cell z i)) ≡ true) ex (r t)) kv))

-- the parts of a new object are made
pub made_done : (m : Collector) (h' : Heap) (ps : Parts) (a : ℕ → ℕ) (x : ℕ) → Makes m.heap ps a h' → m.heap.allocated x ≡ true → done_of (record m { heap = h' }) x ≡ done_of m x
unfolding done_by
made_done m h' ps a x w l = let e = w.stays.says.marked x l in let f = w.stays.says.width x l in grind arith

made_greys : (m : Collector) (h' : Heap) (ps : Parts) (a : ℕ → ℕ) → Makes m.heap ps a h' → Greys m → Greys (record m { heap = h' })
made_greys m h' ps a w q = record {
  allocated = grind arith;
  marked = grind arith;
  scanning_allocated = grind arith;
  scanning_marked = grind arith;
  scanning_apart = q.scanning_apart;
  column = grind arith;
  once = q.once;
}

made_old : (h h' : Heap) (g s : PartGraph) (at : Name → ℕ) (ps : Parts) (a : ℕ → ℕ) (x : ℕ) → Base h g s at → Makes h ps a h' → h'.allocated x ≡ true → Reach h'.roots s (h'.name x) → h.allocated x ≡ true
made_old h h' g s at ps a x b w l r =
    let r' : Reach h.roots s (h'.name x) = subst (λ z. Reach z s (h'.name x)) w.roots r in
    let below = b.grows.reached (h'.name x) r' in
    let up = b.grows.next in
    let o = w.others x l in
    grind arith

made_stage : (m : Collector) (h' : Heap) (g s : PartGraph) (at : Name → ℕ) (ps : Parts) (a : ℕ → ℕ) (place : ℕ) → Base m.heap g s at → AreParts ps → Makes m.heap ps a h' → Tracing m.heap g s at (done_of m) place → Greys m
    → Tracing h' (made g ps) s (made_at at m.heap.next a) (done_of (record m { heap = h' })) place × Greys (record m { heap = h' })
made_stage m h' g s at ps a place b p w t q =
    let b' = made_base m.heap g s at ps a h' b p w in
    let t' = made_tracing m.heap g s at ps a h' (done_of m) place b p w t in (
      tracing_less h' (made g ps) s (made_at at m.heap.next a) (done_of m) (done_of (record m { heap = h' })) place b' (λ x l r. let o = made_old m.heap h' g s at ps a x b w l r in let e = made_done m h' ps a x w o in omega arith) t',
      made_greys m h' ps a w q,
    )

pub news : (m : Collector) (h' : Heap) (g s : PartGraph) (ps : Parts) (a : ℕ → ℕ) → Coherent m g s → AreParts ps → Makes m.heap ps a h' → Coherent (record m { heap = h' }) (made g ps) s
news m h' g s ps a c p w = by_phase m.phase refl
  where
    b' : Base h' (made g ps) s (made_at c.at m.heap.next a)
    b' = made_base m.heap g s c.at ps a h' c.base p w

    by_phase : (q : Progress) → m.phase ≡ q → Coherent (record m { heap = h' }) (made g ps) s
    by_phase In_idle e = staged (record m { heap = h' }) (made_at c.at m.heap.next a) (made g ps) s In_idle e b' (made_resting m.heap g s c.at ps a h' c.base p w (stage_at m g s c In_idle e))
    by_phase (In_roots place) e = let st = stage_at m g s c (In_roots place) e in staged (record m { heap = h' }) (made_at c.at m.heap.next a) (made g ps) s (In_roots place) e b' (made_stage m h' g s c.at ps a place c.base p w st.0 st.1)
    by_phase In_marking e = let st = stage_at m g s c In_marking e in staged (record m { heap = h' }) (made_at c.at m.heap.next a) (made g ps) s In_marking e b'
        (let r = made_stage m h' g s c.at ps a m.heap.roots c.base p w st.0 st.1 in (subst (λ z. Tracing h' (made g ps) s (made_at c.at m.heap.next a) (done_of (record m { heap = h' })) z) (sym w.roots) r.0, r.1))
    by_phase (In_sweep place) e = staged (record m { heap = h' }) (made_at c.at m.heap.next a) (made g ps) s (In_sweep place) e b' (made_sweeping m.heap g s c.at ps a h' place c.base p w (stage_at m g s c (In_sweep place) e))
    by_phase In_moves e = let st = stage_at m g s c In_moves e in staged (record m { heap = h' }) (made_at c.at m.heap.next a) (made g ps) s In_moves e b' (made_resting m.heap g s c.at ps a h' c.base p w st.0, made_moving m.heap ps a h' m.is_target w st.1, made_left m.heap ps a h' m.left w st.2)

-- the first part of a new object is kept
pub new_kept : (m : Collector) (g s : PartGraph) (ps : Parts) (c : Coherent m g s) → AreParts ps → Kept m.heap.roots s (made g ps) (record { identity = g.next; part = 0 })
new_kept m g s ps c p = kept_part m.heap.roots s g ps 0 c.base.grows.next p.some
