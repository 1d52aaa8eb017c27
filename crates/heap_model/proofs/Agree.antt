-- The invariant implies agreement; and graph heaps with which one heap agrees can't be told apart.
use Rattle.std.proofs.Common.{◌≡◌, ℕ, ◌<◌, true, arith, ap, subst, sym, ◌∙◌}
use Rattle.heap_model.specs.Core.{Name, PartGraph, Heap, Reach, Kept, Base}
use Rattle.heap_model.specs.Agree.{Reads, Shows}
use Rattle.heap_model.proofs.Core.Kept.{reach_null, reach_root, reach_step, reach_kept, reach_induction}

-- the heap agrees with a part graph: roots read as its roots, and what can be reached is shown
pub record AgreesByParts (h : Heap) (g : PartGraph) : Type 0 where
  pub next : h.next ≡ g.next
  pub root : (j : ℕ) → j < h.roots → Reads h (h.root j) (g.root j)
  pub shows : (n : Name) → Reach h.roots g n → Shows h g n

-- two graphs between which no caller can tell
pub record Alike (roots : ℕ) (f g : PartGraph) : Type 0 where
  pub next : f.next ≡ g.next
  pub root : (j : ℕ) → j < roots → f.root j ≡ g.root j
  pub width : (n : Name) → Reach roots f n → f.width n ≡ g.width n
  pub words : (n : Name) → Reach roots f n → f.words n ≡ g.words n
  pub shape : (n : Name) → Reach roots f n → f.shape n ≡ g.shape n
  pub target : (n : Name) (i : ℕ) → Reach roots f n → i < f.width n → f.target n i ≡ g.target n i

base_reads : (h : Heap) (g s : PartGraph) (at : Name → ℕ) → Base h g s at → (x : ℕ) (n : Name) → h.allocated x ≡ true → h.forward x ≡ at n → Kept h.roots s g n → Reads h x n
base_reads h g s at b x n e f k = grind arith

-- the invariant implies the plain statement
pub agreed : (h : Heap) (g s : PartGraph) (at : Name → ℕ) → Base h g s at → AgreesByParts h g
agreed h g s at b = record {
  next = b.next;
  root = λ j l. base_reads h g s at b _ _ (b.root_allocated j l) (b.root j l) (b.grows.kept_root j l);
  shows = λ n r. let k = reach_kept h.roots s g b.grows n r in record {
    place = at n;
    main = record { allocated = b.allocated n k; forward = b.main n k; name = b.name n k };
    only = λ x m. let e = m.name in let kx : Kept h.roots s g (h.name x) = subst (λ z. Kept h.roots s g z) (sym e) k in b.only x m.allocated m.forward kx ∙ ap at e;
    width = b.width n k;
    words = b.words n k;
    shape = b.shape n k;
    cells = λ i l. base_reads h g s at b _ _ (b.cell_allocated n i k l) (b.cell n i k l) (b.grows.kept_target n i k l);
  };
}

pub reads_same : (h : Heap) (x : ℕ) (m n : Name) → Reads h x m → Reads h x n → m ≡ n
reads_same h x m n p q = sym p.main.name ∙ q.main.name

shows_same : (h : Heap) (f g : PartGraph) (n : Name) (i : ℕ) → Shows h f n → Shows h g n → i < f.width n → (f.width n ≡ g.width n) × (f.target n i ≡ g.target n i)
shows_same h f g n i p q l =
    let e : p.place ≡ q.place = q.only p.place p.main in
    let w : f.width n ≡ g.width n = sym p.width ∙ ap h.width e ∙ q.width in
    (w, reads_same h (h.cell q.place i) _ _ (subst (λ z. Reads h (h.cell z i) (f.target n i)) e (p.cells i l)) (q.cells i (rw (← w) l)))

-- two graphs with which a heap agrees have the same reach, and the same in it
pub alike_reach : (h : Heap) (f g : PartGraph) → AgreesByParts h f → AgreesByParts h g → (n : Name) → Reach h.roots f n → (Reach h.roots f n) × (Reach h.roots g n)
alike_reach h f g p q = reach_induction h.roots f (λ n. (Reach h.roots f n) × (Reach h.roots g n))
    (reach_null h.roots f, reach_null h.roots g)
    (λ j l. let e = reads_same h _ _ _ (q.root j l) (p.root j l) in (reach_root h.roots f j l, subst (λ z. Reach h.roots g z) e (reach_root h.roots g j l)))
    (λ n i r l. let e = shows_same h f g n i (p.shows n r.0) (q.shows n r.1) l in (reach_step h.roots f n i r.0 l, subst (λ z. Reach h.roots g z) (sym e.1) (reach_step h.roots g n i r.1 (rw (← e.0) l))))

pub alike : (h : Heap) (f g : PartGraph) → AgreesByParts h f → AgreesByParts h g → Alike h.roots f g
alike h f g p q = record {
  next = sym p.next ∙ q.next;
  root = λ j l. reads_same h _ _ _ (p.root j l) (q.root j l);
  width = λ n r. let a = p.shows n r in let c = q.shows n (alike_reach h f g p q n r).1 in sym a.width ∙ ap h.width (c.only a.place a.main) ∙ c.width;
  words = λ n r. let a = p.shows n r in let c = q.shows n (alike_reach h f g p q n r).1 in sym a.words ∙ ap h.words (c.only a.place a.main) ∙ c.words;
  shape = λ n r. let a = p.shows n r in let c = q.shows n (alike_reach h f g p q n r).1 in sym a.shape ∙ ap h.shape (c.only a.place a.main) ∙ c.shape;
  target = λ n i r l. (shows_same h f g n i (p.shows n r) (q.shows n (alike_reach h f g p q n r).1) l).1;
}
