-- The grey parts, and their scanned cells: through each step of the collector over references.
use Rattle.std.proofs.Common.{◌≡◌, ℕ, ◌+◌, ◌<◌, ◌≤◌, Bool, true, false, List, [], ◌∷◌, ◌++◌, arith, refl, ap, subst, sym, ◌∙◌, ◌==◌, ◌||◌, if◌then◌else◌}
use Rattle.heap_model.specs.Core.{Name, PartGraph, Heap, Reach, Base, Tracing, Sweeping, Moving, Left}
use Rattle.heap_model.specs.Collector.{Progress, In_idle, In_roots, In_marking, In_sweep, In_moves, Collector, contains, Once, done_by, done_of, Greys, PhaseInvariant, Coherent}
use Rattle.heap_model.proofs.Core.Edits.{put, shade, set_root, set_cell, free, flip, move, moved}
use Rattle.heap_model.proofs.Collector.Acts.{shaded, root_scanned, cell_scanned, Acts, Scans_root, Ends_roots, Scans_header, Scans_cell, Ends_marking, Keeps, Frees, Ends_sweep, Ends_sweep_to_move, Moves_block, Goes_past, Ends_moves, begun}
use Rattle.heap_model.proofs.Core.Trace.{shade_base, scan_root_base, scan_root, scan_block_base, scan_block, traced}
use Rattle.heap_model.proofs.Core.Sweep.{free_base, free_sweeping, sweep_on, swept, begin_base, begin_tracing}
use Rattle.heap_model.proofs.Core.Move.{move_base, move_resting, move_moving, move_left}
use Rattle.heap_model.proofs.Core.Same.{SameBlocks, same_base, same_tracing, same_sweeping, same_resting, same_moving, same_left}

same_heap : (h : Heap) → SameBlocks h h
same_heap h = grind arith

-- fewer cells count as scanned
pub tracing_less : (h : Heap) (g s : PartGraph) (at : Name → ℕ) (done done' : ℕ → ℕ) (place : ℕ) → Base h g s at → ((x : ℕ) → h.allocated x ≡ true → Reach h.roots s (h.name x) → done' x ≤ done x) → Tracing h g s at done place → Tracing h g s at done' place
tracing_less h g s at done done' place b l t = same_tracing h h g s at done done' place (same_heap h) b l t

pub contains-here : (xs : List ℕ) (x y : ℕ) → contains (x ∷ xs) y ≡ ((x == y) || contains xs y)
unfolding contains
contains-here xs x y = refl

pub contains-middle : (front back : List ℕ) (x y : ℕ) → contains (front ++ x ∷ back) y ≡ ((x == y) || contains (front ++ back) y)
unfolding contains
contains-middle [] back x y = refl
contains-middle (z ∷ front) back x y = let e = contains-middle front back x y in rw e (swapped (z == y) (x == y) (contains (front ++ back) y))
  where
    swapped : (a b c : Bool) → (a || (b || c)) ≡ (b || (a || c))
    swapped true true c = refl
    swapped true false c = refl
    swapped false true c = refl
    swapped false false c = refl

pub contains-shaded : (marked : Bool) (xs : List ℕ) (x y : ℕ) → contains (if marked then xs else x ∷ xs) y ≡ (if marked then contains xs y else ((x == y) || contains xs y))
contains-shaded true xs x y = refl
contains-shaded false xs x y = contains-here xs x y

once-here : (xs : List ℕ) (x : ℕ) → Once xs → contains xs x ≡ false → Once (x ∷ xs)
unfolding Once
once-here xs x o n = (n, o)

-- a block that is taken out stands nowhere else
neither : (z x : ℕ) (c d : Bool) → ((x == z) || d) ≡ false → c ≡ false → (((z == x) || c) ≡ false) × (d ≡ false)
neither z x c d h e = (grind arith, grind arith)

pub once_middle : (front back : List ℕ) (x : ℕ) → Once (front ++ x ∷ back) → (contains (front ++ back) x ≡ false) × Once (front ++ back)
unfolding Once
once_middle [] back x o = o
once_middle (z ∷ front) back x o =
    let r = once_middle front back x o.1 in
    let n = neither z x (contains (front ++ back) x) (contains (front ++ back) z) (sym (contains-middle front back x z) ∙ o.0) r.0 in
    (contains-here (front ++ back) z x ∙ n.0, (n.1, r.1))

once_shaded : (marked : Bool) (xs : List ℕ) (x : ℕ) → Once xs → (marked ≡ false → contains xs x ≡ false) → Once (if marked then xs else x ∷ xs)
once_shaded true xs x o n = o
once_shaded false xs x o n = once-here xs x o (n refl)

-- a block that is shaded has no cell scanned, as before
pub shaded_done : (m : Collector) (x y : ℕ) → done_of (shaded m x) y ≡ done_of m y
unfolding done_by
shaded_done m x y = let e = contains-shaded (m.heap.marked x) m.grey x y in grind arith

pub shaded_greys : (m : Collector) (x : ℕ) → Greys m → m.heap.allocated x ≡ true → Greys (shaded m x)
shaded_greys m x w l = let e = contains-shaded (m.heap.marked x) m.grey x in record {
  allocated = λ y c. let f = e y in grind arith;
  marked = λ y c. let f = e y in grind arith;
  scanning_allocated = w.scanning_allocated;
  scanning_marked = grind arith;
  scanning_apart = let f = e m.scanning in grind arith;
  column = w.column;
  once = once_shaded (m.heap.marked x) m.grey x w.once (λ u. let c = w.marked x in grind arith);
}

pub tracing_same : (h : Heap) (g s : PartGraph) (at : Name → ℕ) (done done' : ℕ → ℕ) (place : ℕ) → Base h g s at → ((x : ℕ) → done' x ≡ done x) → Tracing h g s at done place → Tracing h g s at done' place
tracing_same h g s at done done' place b e t = tracing_less h g s at done done' place b (λ x l r. let f = e x in omega arith) t

-- a block that is allocated, or null, stays
allocated_shaded_root : (h : Heap) (g s : PartGraph) (at : Name → ℕ) (place : ℕ) → Base h g s at → place < h.roots → h.allocated (h.forward (h.root place)) ≡ true
allocated_shaded_root h g s at place b l = let k = b.grows.kept_root place l in grind arith

acts_root : (m : Collector) (g s : PartGraph) (at : Name → ℕ) (place : ℕ) → Base m.heap g s at → Tracing m.heap g s at (done_of m) place → Greys m → place < m.heap.roots → Coherent (root_scanned m place) g s
acts_root m g s at place b t w l =
    let x = m.heap.forward (m.heap.root place) in
    let m1 : Collector = record m { heap = set_root m.heap place x; phase = In_roots (place + 1) } in
    let b1 = scan_root_base m.heap g s at place b l in
    let b2 = shade_base m1.heap g s at x b1 in
    let t2 = scan_root m.heap g s at (done_of m) place b t l in
    let w1 : Greys m1 = grind arith in
    record {
      at = at;
      base = b2;
      stage = (tracing_same (shade m1.heap x) g s at (done_of m) (done_of (shaded m1 x)) (place + 1) b2 (shaded_done m1 x) t2, shaded_greys m1 x w1 (allocated_shaded_root m.heap g s at place b l));
    }

acts_ends_roots : (m : Collector) (g s : PartGraph) (at : Name → ℕ) (place : ℕ) → Base m.heap g s at → Tracing m.heap g s at (done_of m) place → Greys m → m.heap.roots ≤ place → Coherent (record m { phase = In_marking }) g s
acts_ends_roots m g s at place b t w l = record { at = at; base = b; stage = (grind arith, grind arith) }

-- a block is taken for scanning
pub header_done : (m : Collector) (front back : List ℕ) (x y : ℕ) → Greys m → m.column ≡ m.heap.width m.scanning → m.grey ≡ front ++ x ∷ back → contains (front ++ back) x ≡ false → done_of (record m { grey = front ++ back; scanning = x; column = 0 }) y ≡ done_of m y
unfolding done_by
header_done m front back x y w f e n =
    let c : contains m.grey y ≡ ((x == y) || contains (front ++ back) y) = ap (λ z. contains z y) e ∙ contains-middle front back x y in
    let d = w.scanning_apart in
    grind arith

acts_header : (m : Collector) (g s : PartGraph) (at : Name → ℕ) (front back : List ℕ) (x : ℕ) → Base m.heap g s at → Tracing m.heap g s at (done_of m) m.heap.roots → Greys m → m.column ≡ m.heap.width m.scanning → m.grey ≡ front ++ x ∷ back
    → (Tracing m.heap g s at (done_of (record m { grey = front ++ back; scanning = x; column = 0 })) m.heap.roots) × Greys (record m { grey = front ++ back; scanning = x; column = 0 })
acts_header m g s at front back x b t w f e =
    let o = once_middle front back x (subst Once e w.once) in
    let n = o.0 in
    let c : (y : ℕ) → contains m.grey y ≡ ((x == y) || contains (front ++ back) y) = λ y. ap (λ z. contains z y) e ∙ contains-middle front back x y in
    let cx = c x in (
      tracing_same m.heap g s at (done_of m) _ m.heap.roots b (λ y. header_done m front back x y w f e n) t,
      record {
        allocated = λ y k. let cy = c y in grind arith;
        marked = λ y k. let cy = c y in grind arith;
        scanning_allocated = grind arith;
        scanning_marked = grind arith;
        scanning_apart = n;
        column = omega arith;
        once = o.1;
      },
    )

-- a cell is scanned
pub cell_done : (m : Collector) (x y : ℕ) → Greys m → m.column < m.heap.width m.scanning → done_of (cell_scanned m) y ≡ put (done_of m) m.scanning (done_of m m.scanning + 1) y
unfolding done_by
cell_done m x y w l =
    let z = m.heap.forward (m.heap.cell m.scanning m.column) in
    let e = contains-shaded (m.heap.marked z) m.grey z y in
    let d = w.scanning_apart in
    let f = w.scanning_marked in
    grind arith

pub scanning_done : (m : Collector) → Greys m → done_of m m.scanning ≡ m.column
unfolding done_by
scanning_done m w = let d = w.scanning_apart in let f = w.scanning_marked in grind arith

acts_cell : (m : Collector) (g s : PartGraph) (at : Name → ℕ) → Base m.heap g s at → Tracing m.heap g s at (done_of m) m.heap.roots → Greys m → m.column < m.heap.width m.scanning
    → Base (cell_scanned m).heap g s at × Tracing (cell_scanned m).heap g s at (done_of (cell_scanned m)) m.heap.roots × Greys (cell_scanned m)
acts_cell m g s at b t w l =
    let x = m.scanning in
    let f = m.heap.forward (m.heap.cell x m.column) in
    let n = m.heap.name x in
    let k = t.marked_kept x w.scanning_allocated w.scanning_marked in
    let e : x ≡ at n = t.marked_main x w.scanning_allocated w.scanning_marked in
    let d : done_of m x ≡ m.column = scanning_done m w in
    let d' : m.column ≡ done_of m (at n) = sym d ∙ ap (done_of m) e in
    let h1 = set_cell m.heap x m.column f in
    let b1 = scan_block_base m.heap g s at x m.column n b k e l in
    let b2 = shade_base h1 g s at f b1 in
    let t2 = scan_block m.heap g s at (done_of m) m.heap.roots x m.column n b t k e d' l w.scanning_marked in
    let m1 : Collector = record m { heap = h1; column = m.column + 1 } in
    let w1 : Greys m1 = record { allocated = w.allocated; marked = w.marked; scanning_allocated = w.scanning_allocated; scanning_marked = w.scanning_marked; scanning_apart = w.scanning_apart; column = omega arith; once = w.once } in
    let allocated : m.heap.allocated f ≡ true = (let i : m.column < g.width n = (let v = b.width n k in let u = ap m.heap.width e in omega arith) in let kt = b.grows.kept_target n m.column k i in let ct = b.cell n m.column k i in let cc1 : m.heap.cell x m.column ≡ m.heap.cell (at n) m.column = ap (λ z. m.heap.cell z m.column) e in ap m.heap.allocated (ap m.heap.forward cc1 ∙ ct) ∙ b.allocated (g.target n m.column) kt) in
    let same : (y : ℕ) → done_of (cell_scanned m) y ≡ put (done_of m) x (m.column + 1) y = λ y. cell_done m x y w l ∙ ap (λ z. put (done_of m) x (z + 1) y) d in
    (b2, tracing_same (shade h1 f) g s at (put (done_of m) x (m.column + 1)) (done_of (cell_scanned m)) m.heap.roots b2 same t2, shaded_greys m1 f w1 allocated)

-- nothing is left to scan
all_done : (m : Collector) (x i : ℕ) → m.column ≡ m.heap.width m.scanning → m.grey ≡ [] → m.heap.marked x ≡ true → i < m.heap.width x → i < done_of m x
unfolding done_by contains
all_done m x i e n marked l = let c : contains m.grey x ≡ false = ap (λ z. contains z x) n in grind arith

acts_traced : (m : Collector) (g s : PartGraph) (at : Name → ℕ) → Base m.heap g s at → Tracing m.heap g s at (done_of m) m.heap.roots → m.column ≡ m.heap.width m.scanning → m.grey ≡ [] → Sweeping m.heap g s at 0
acts_traced m g s at b t e n = traced m.heap g s at (done_of m) m.heap.roots b t (record { roots = omega arith; cells = λ x i allocated marked r l. all_done m x i e n marked l })

pub stage_at : (m : Collector) (g s : PartGraph) (c : Coherent m g s) (p : Progress) → m.phase ≡ p → PhaseInvariant m g s c.at p
stage_at m g s c p e = subst (λ z. PhaseInvariant m g s c.at z) e c.stage

swept_moving : (h : Heap) (g s : PartGraph) (at : Name → ℕ) (place : ℕ) (is_target : ℕ → Bool) → Base h g s at → Sweeping h g s at place → ((x : ℕ) → h.allocated x ≡ true → x < place) → Moving h is_target
swept_moving h g s at place is_target b w all = record { old = λ x l. let a = all x l in grind arith }

swept_left : (h : Heap) (g s : PartGraph) (at : Name → ℕ) (place : ℕ) (left : ℕ → Bool) → Base h g s at → Sweeping h g s at place → ((x : ℕ) → h.allocated x ≡ true → x < place) → Left h left
swept_left h g s at place left b w all = record { old = λ x l. let a = all x l in grind arith }

pub left_main : (h : Heap) (left : ℕ → Bool) (x : ℕ) → Left h left → h.allocated x ≡ true → left x ≡ false → h.forward x ≡ x
left_main h left x w l n = let o = w.old x l in grind arith

-- each action keeps the graph that the heap represents
pub acts : (m m' : Collector) (g s : PartGraph) → Acts m m' → Coherent m g s → Coherent m' g s
acts m m' g s (Scans_root place e l) c = let st = stage_at m g s c (In_roots place) e in acts_root m g s c.at place c.base st.0 st.1 l
acts m m' g s (Ends_roots place e l) c = let st = stage_at m g s c (In_roots place) e in acts_ends_roots m g s c.at place c.base st.0 st.1 l
acts m m' g s (Scans_header front back x e f n) c =
    let st = stage_at m g s c In_marking e in
    record { at = c.at; base = c.base; stage = subst (λ z. PhaseInvariant (record m { grey = front ++ back; scanning = x; column = 0 }) g s c.at z) (sym e) (acts_header m g s c.at front back x c.base st.0 st.1 f n) }
acts m m' g s (Scans_cell e l) c =
    let st = stage_at m g s c In_marking e in
    let r = acts_cell m g s c.at c.base st.0 st.1 l in
    record { at = c.at; base = r.0; stage = subst (λ z. PhaseInvariant (cell_scanned m) g s c.at z) (sym e) (r.1, r.2) }
acts m m' g s (Ends_marking e f n) c = let st = stage_at m g s c In_marking e in record { at = c.at; base = c.base; stage = acts_traced m g s c.at c.base st.0 f n }
acts m m' g s (Keeps place more e k) c = let st = stage_at m g s c (In_sweep place) e in record { at = c.at; base = c.base; stage = sweep_on m.heap g s c.at place more st k }
acts m m' g s (Frees place x e u) c =
    let st = stage_at m g s c (In_sweep place) e in
    record { at = c.at; base = free_base m.heap g s c.at place x c.base st u; stage = subst (λ z. PhaseInvariant (record m { heap = free m.heap x }) g s c.at z) (sym e) (free_sweeping m.heap g s c.at place x c.base st u) }
acts m m' g s (Ends_sweep place e a) c = let st = stage_at m g s c (In_sweep place) e in record { at = c.at; base = c.base; stage = swept m.heap g s c.at place c.base st a }
acts m m' g s (Ends_sweep_to_move place is_target left e a) c = let st = stage_at m g s c (In_sweep place) e in record { at = c.at; base = c.base; stage = (swept m.heap g s c.at place c.base st a, swept_moving m.heap g s c.at place is_target c.base st a, swept_left m.heap g s c.at place left c.base st a) }
acts m m' g s (Goes_past left e on) c =
    let st = stage_at m g s c In_moves e in
    record { at = c.at; base = c.base; stage = subst (λ z. PhaseInvariant (record m { left = left }) g s c.at z) (sym e) (st.0, st.1, record { old = λ x l. let o = st.2.old x l in let u = on x in grind arith }) }
acts m m' g s (Moves_block x y is_target left e allocated here some evacuating f r up past on) c =
    let st = stage_at m g s c In_moves e in
    let main = left_main m.heap m.left x st.2 allocated here in
    record {
      at = moved c.at x y;
      base = move_base m.heap g s c.at m.is_target x y c.base st.0 st.1 allocated main some evacuating f;
      stage = subst (λ z. PhaseInvariant (record m { heap = move m.heap x y; is_target = is_target; left = left }) g s (moved c.at x y) z) (sym e)
          (move_resting m.heap g s c.at m.is_target x y c.base st.0 st.1 allocated main some evacuating f, move_moving m.heap m.is_target x y st.1 allocated main evacuating f is_target r up, move_left m.heap m.left x y st.2 allocated f left past on);
    }
acts m m' g s (Ends_moves e) c = let st = stage_at m g s c In_moves e in record { at = c.at; base = c.base; stage = st.0 }

-- a cycle begins
begun_done : (m : Collector) (x : ℕ) → done_of (begun m) x ≡ 0
unfolding done_by contains
begun_done m x = grind arith

begun_greys : (m : Collector) → m.heap.allocated 0 ≡ true → Greys (begun m)
unfolding contains Once
begun_greys m h = record { allocated = grind arith; marked = grind arith; scanning_allocated = h; scanning_marked = grind arith; scanning_apart = refl; column = omega arith; once = tt }

pub begins : (m : Collector) (g s : PartGraph) → Coherent m g s → Coherent (begun m) g g
begins m g s c =
    let b = begin_base m.heap g s c.at c.base in
    record { at = c.at; base = b; stage = (tracing_same (flip m.heap) g g c.at (λ x. 0) (done_of (begun m)) 0 b (begun_done m) (begin_tracing m.heap g s c.at c.base), begun_greys m c.base.null_allocated) }

-- what doesn't show doesn't count
pub same_done : (m : Collector) (h' : Heap) (x : ℕ) → SameBlocks m.heap h' → m.heap.allocated x ≡ true → done_of (record m { heap = h' }) x ≡ done_of m x
unfolding done_by
same_done m h' x e l = let p = e.says.marked x l in let q = e.says.width x l in grind arith

same_greys : (m : Collector) (h' : Heap) → SameBlocks m.heap h' → Greys m → Greys (record m { heap = h' })
same_greys m h' e w = record { allocated = grind arith; marked = grind arith; scanning_allocated = grind arith; scanning_marked = grind arith; scanning_apart = w.scanning_apart; column = grind arith; once = w.once }

same_stage : (m : Collector) (h' : Heap) (g s : PartGraph) (at : Name → ℕ) (p : Progress) → SameBlocks m.heap h' → Base m.heap g s at → PhaseInvariant m g s at p → PhaseInvariant (record m { heap = h' }) g s at p
same_stage m h' g s at In_idle e b t = same_resting m.heap h' g s at e t
same_stage m h' g s at (In_roots place) e b t = (same_tracing m.heap h' g s at (done_of m) _ place e b (λ x l r. let d = same_done m h' x e l in omega arith) t.0, same_greys m h' e t.1)
same_stage m h' g s at In_marking e b t = (subst (λ z. Tracing h' g s at (done_of (record m { heap = h' })) z) (sym e.roots) (same_tracing m.heap h' g s at (done_of m) _ m.heap.roots e b (λ x l r. let d = same_done m h' x e l in omega arith) t.0), same_greys m h' e t.1)
same_stage m h' g s at (In_sweep place) e b t = same_sweeping m.heap h' g s at place e b t
same_stage m h' g s at In_moves e b t = (same_resting m.heap h' g s at e t.0, same_moving m.heap h' m.is_target e t.1, same_left m.heap h' m.left e t.2)

pub same_coherent : (m : Collector) (h' : Heap) (g s : PartGraph) → SameBlocks m.heap h' → Coherent m g s → Coherent (record m { heap = h' }) g s
same_coherent m h' g s e c = record { at = c.at; base = same_base m.heap h' g s c.at e c.base; stage = same_stage m h' g s c.at m.phase e c.base c.stage }

-- a grey part stands anywhere among the others
once-middle : (front back : List ℕ) (x : ℕ) → contains (front ++ back) x ≡ false → Once (front ++ back) → Once (front ++ x ∷ back)
unfolding Once
once-middle [] back x n o = (n, o)
once-middle (z ∷ front) back x n o =
    let a = neither x z (contains (front ++ back) z) (contains (front ++ back) x) (sym (contains-here (front ++ back) z x) ∙ n) o.0 in
    (contains-middle front back x z ∙ a.0, once-middle front back x a.1 o.1)

module _ (m : Collector) (front back : List ℕ) (x : ℕ) (is : m.grey ≡ x ∷ (front ++ back)) where
  pub placed_contains : (y : ℕ) → contains (front ++ x ∷ back) y ≡ contains m.grey y
  placed_contains y = contains-middle front back x y ∙ sym (contains-here (front ++ back) x y) ∙ ap (λ z. contains z y) (sym is)

  pub placed_done : (y : ℕ) → done_of (record m { grey = front ++ x ∷ back }) y ≡ done_of m y
  unfolding done_by
  placed_done y = ap (λ b. if m.heap.marked y then (if b then 0 else (if y == m.scanning then m.column else m.heap.width y)) else 0) (placed_contains y)

  placed_once : Once m.grey → Once (front ++ x ∷ back)
  unfolding Once
  placed_once w = let o : Once (x ∷ (front ++ back)) = subst Once is w in once-middle front back x o.0 o.1

  placed_greys : Greys m → Greys (record m { grey = front ++ x ∷ back })
  placed_greys w = record {
    allocated = λ y e. w.allocated y (sym (placed_contains y) ∙ e);
    marked = λ y e. w.marked y (sym (placed_contains y) ∙ e);
    scanning_allocated = w.scanning_allocated;
    scanning_marked = w.scanning_marked;
    scanning_apart = placed_contains m.scanning ∙ w.scanning_apart;
    column = w.column;
    once = placed_once w.once;
  }

  module _ (g s : PartGraph) where
    placed_stage : (at : Name → ℕ) (p : Progress) → Base m.heap g s at → PhaseInvariant m g s at p → PhaseInvariant (record m { grey = front ++ x ∷ back }) g s at p
    placed_stage at In_idle b t = t
    placed_stage at (In_roots place) b t = (tracing_same m.heap g s at (done_of m) (done_of (record m { grey = front ++ x ∷ back })) place b placed_done t.0, placed_greys t.1)
    placed_stage at In_marking b t = (tracing_same m.heap g s at (done_of m) (done_of (record m { grey = front ++ x ∷ back })) m.heap.roots b placed_done t.0, placed_greys t.1)
    placed_stage at (In_sweep place) b t = t
    placed_stage at In_moves b t = t

    pub placed_coherent : Coherent m g s → Coherent (record m { grey = front ++ x ∷ back }) g s
    placed_coherent c = record { at = c.at; base = c.base; stage = placed_stage c.at m.phase c.base c.stage }
