-- The parts of a new object, one more at a time, each written into the spine that refers to it.
use Rattle.std.proofs.Common.{◌≡◌, ◌≢◌, ℕ, ◌+◌, ◌<◌, ◌⊎◌, inl, inr, Bool, true, false, List, arith, refl, ap, sym, subst, ◌∙◌, ◌==◌, ◌&&◌, if◌then◌else◌, nat_lt}
use Rattle.graph_heap.specs.declared.command.Shape.{Shape}
use Rattle.heap_model.specs.Core.{Name, Heap}
use Rattle.heap_model.proofs.Core.NewParts.{Parts, AreParts, Stand, Makes}
use Rattle.heap_model.proofs.Core.Stays.{Stays}
use Rattle.heap_model.proofs.Core.Edits.{set_cell}

-- one block is made at y, with no cell written
abbrev pub block_made : Heap → ℕ → Name → Shape → ℕ → List ℕ → Heap
block_made h y n shape width words = record h {
  allocated = λ x. if x == y then true else h.allocated x;
  forward = λ x. if x == y then y else h.forward x;
  name = λ x. if x == y then n else h.name x;
  width = λ x. if x == y then width else h.width x;
  cell = λ x i. if x == y then 0 else h.cell x i;
  words = λ x. if x == y then words else h.words x;
  shape = λ x. if x == y then shape else h.shape x;
  marked = λ x. if x == y then true else h.marked x;
}

-- each part except part 0 is named by one cell, of an earlier part, and each cell names a later part or null
pub record AreLinked (ps : Parts) (spine spine_cell : ℕ → ℕ) : Type 0 where
  pub there : (k : ℕ) → 0 < k → k < ps.count → (spine k < k) × (spine_cell k < ps.width (spine k)) × (ps.link (spine k) (spine_cell k) ≡ k)
  pub back : (p i : ℕ) → p < ps.count → i < ps.width p → 0 < ps.link p i → (spine (ps.link p i) ≡ p) × (spine_cell (ps.link p i) ≡ i) × (p < ps.link p i)

-- what a cell holds when k parts stand: the reference of one of them, or null
abbrev pub linked_to : (ℕ → ℕ) → ℕ → ℕ → ℕ
linked_to a k q = if nat_lt q k then (if q == 0 then 0 else a q) else 0

-- parts 0 to k - 1 stand, and their cells hold the references of those of them that they name
pub record MakesFirst (h : Heap) (ps : Parts) (a : ℕ → ℕ) (k : ℕ) (h' : Heap) : Type 0 where
  pub next : h'.next ≡ h.next
  pub roots : h'.roots ≡ h.roots
  pub root : (j : ℕ) → j < h.roots → h'.root j ≡ h.root j
  pub free : (p : ℕ) → p < k → h.allocated (a p) ≡ false
  pub stays : Stays h h'
  pub parts : Stand h' ps a k h.next
  pub apart : (p q : ℕ) → p < k → q < k → a p ≡ a q → p ≡ q
  pub cell : (p i : ℕ) → p < k → i < ps.width p → h'.cell (a p) i ≡ linked_to a k (ps.link p i)
  pub part : ℕ → ℕ
  pub others : (x : ℕ) → h'.allocated x ≡ true → (h.allocated x ≡ true) ⊎ ((part x < k) × (x ≡ a (part x)))

-- nothing is made yet
pub first_none : (h : Heap) (ps : Parts) (a : ℕ → ℕ) → MakesFirst h ps a 0 h
first_none h ps a = record {
  next = refl;
  roots = refl;
  root = λ j l. refl;
  free = λ p l. absurd (omega arith);
  stays = grind arith;
  parts = grind arith;
  apart = λ p q l m e. absurd (omega arith);
  cell = λ p i l w. absurd (omega arith);
  part = λ x. 0;
  others = λ x l. inl l;
}

-- one part more, if the cells are given
first_next : (h : Heap) (ps : Parts) (a : ℕ → ℕ) (k : ℕ) (h' : Heap) (y : ℕ) (cell : ℕ → ℕ → ℕ) → MakesFirst h ps a k h' → h'.allocated y ≡ false → a k ≡ y
    → ((x i : ℕ) → h.allocated x ≡ true → cell x i ≡ h'.cell x i) → ((p i : ℕ) → p < k + 1 → i < ps.width p → cell (a p) i ≡ linked_to a (k + 1) (ps.link p i))
    → MakesFirst h ps a (k + 1) (record (block_made h' y (record { identity = h.next; part = k }) ps.shape (ps.width k) (ps.words k)) { cell = cell })
first_next h ps a k h' y cell m free e kept told = record {
  next = m.next;
  roots = m.roots;
  root = m.root;
  free = grind arith;
  stays = let s = m.stays in grind arith;
  parts = let s = m.stays in let o = m.parts in grind arith;
  apart = grind arith;
  cell = told;
  part = λ x. if x == y then k else m.part x;
  others = λ x l. let o = m.others x in grind arith;
}

-- part 0
pub first_root : (h : Heap) (ps : Parts) (a : ℕ → ℕ) (spine spine_cell : ℕ → ℕ) (k : ℕ) (h' : Heap) (y : ℕ) → AreLinked ps spine spine_cell → k ≡ 0 → k < ps.count → MakesFirst h ps a k h' → h'.allocated y ≡ false → a k ≡ y
    → MakesFirst h ps a (k + 1) (block_made h' y (record { identity = h.next; part = k }) ps.shape (ps.width k) (ps.words k))
first_root h ps a spine spine_cell k h' y w none few m free e =
    first_next h ps a k h' y (λ x i. if x == y then 0 else h'.cell x i) m free e (λ x i l. let s = m.stays in grind arith) (λ p i l b. let q = w.back p i in grind arith)

last_or : (p k : ℕ) → p < k + 1 → (p ≡ k) ⊎ (p < k)
last_or p k l = grind arith

lt_trans : (a b c : ℕ) → a < b → b < c → a < c
lt_trans a b c l m = omega arith

unheld : (b : Bool) → b ≡ true → b ≡ false → ⊥
unheld b e f = cc

ap2 : (f : ℕ → ℕ → ℕ) {a b c d : ℕ} → a ≡ b → c ≡ d → f a c ≡ f b d
ap2 f e g = λ i. f (e i) (g i)

-- a cell of the part that is made
cell_last : (a : ℕ → ℕ) (k here spine y i c old link : ℕ) → here ≡ y → spine ≢ y → (0 < link → k < link) → (if (here == spine) && (i == c) then y else (if here == y then 0 else old)) ≡ linked_to a (k + 1) link
cell_last a k here spine y i c old link e ne later = grind arith

-- a cell of an earlier part
cell_first : (a : ℕ → ℕ) (k here spine y i c old link : ℕ) → 0 < k → a k ≡ y → here ≢ y → old ≡ linked_to a k link → (here ≡ spine → i ≡ c → link ≡ k) → (link ≡ k → (here ≡ spine) × (i ≡ c))
    → (if (here == spine) && (i == c) then y else (if here == y then 0 else old)) ≡ linked_to a (k + 1) link
cell_first a k here spine y i c old link some e ne was there back = by_link (link == k) refl
  where
    by_link : (b : Bool) → (link == k) ≡ b → (if (here == spine) && (i == c) then y else (if here == y then 0 else old)) ≡ linked_to a (k + 1) link
    by_link true t = let l : link ≡ k = grind arith in let q = back l in let q0 = q.0 in let q1 = q.1 in let z : a link ≡ y = ap a l ∙ e in grind arith
    by_link false t = let l : link ≢ k = grind arith in let n : ((here == spine) && (i == c)) ≡ false = other l in let f : (here == y) ≡ false = grind arith in rw (n, f) (was ∙ same l)
      where
        other : link ≢ k → ((here == spine) && (i == c)) ≡ false
        other l = grind arith

        same : link ≢ k → linked_to a k link ≡ linked_to a (k + 1) link
        same l = grind arith

-- one part more, and the cell that names it
pub first_more : (h : Heap) (ps : Parts) (a : ℕ → ℕ) (spine spine_cell : ℕ → ℕ) (k : ℕ) (h' : Heap) (y : ℕ) → AreLinked ps spine spine_cell → 0 < k → k < ps.count → MakesFirst h ps a k h' → h'.allocated y ≡ false → a k ≡ y
    → MakesFirst h ps a (k + 1) (set_cell (block_made h' y (record { identity = h.next; part = k }) ps.shape (ps.width k) (ps.words k)) (a (spine k)) (spine_cell k) y)
first_more h ps a spine spine_cell k h' y w some few m free e =
    let t = w.there k some few in
    let stands = m.parts.allocated (spine k) t.0 in
    let was_free = m.free (spine k) t.0 in
    first_next h ps a k h' y (λ z i. if (z == a (spine k)) && (i == spine_cell k) then y else (if z == y then 0 else h'.cell z i)) m free e
    (λ x i l. let s = m.stays in grind arith)
    (λ p i l b. elim (last_or p k l) [
      | inl z ↦ cell_last a k (a p) (a (spine k)) y i (spine_cell k) (h'.cell (a p) i) (ps.link p i) (ap a z ∙ e) (λ x. unheld (h'.allocated y) (subst (λ r. h'.allocated r ≡ true) x stands) free)
          (λ n. subst (λ r. r < ps.link p i) z (w.back p i (subst (λ r. r < ps.count) (sym z) few) b n).2)
      | inr z ↦ cell_first a k (a p) (a (spine k)) y i (spine_cell k) (h'.cell (a p) i) (ps.link p i) some e (λ x. unheld (h'.allocated y) (subst (λ r. h'.allocated r ≡ true) x (m.parts.allocated p z)) free)
          (m.cell p i z b)
          (λ x f. ap2 ps.link (m.apart p (spine k) z t.0 x) f ∙ t.2)
          (λ x. let n : 0 < ps.link p i = subst (λ r. 0 < r) (sym x) some in let r = w.back p i (lt_trans p k ps.count z few) b n in (ap a (sym r.0 ∙ ap spine x), sym r.1 ∙ ap spine_cell x))
    ])

-- all parts, and all links
pub first_all : (h : Heap) (ps : Parts) (a : ℕ → ℕ) (h' : Heap) → AreParts ps → MakesFirst h ps a ps.count h' → Makes h ps a (record h' { next = h.next + 1 })
first_all h ps a h' w m = record {
  next = refl;
  roots = m.roots;
  root = m.root;
  free = m.free;
  stays = let s = m.stays in grind arith;
  parts = let o = m.parts in grind arith;
  cell = λ p i k n. let c = m.cell p i k n in let l = w.link p i k n in grind arith;
  part = m.part;
  others = m.others;
}
