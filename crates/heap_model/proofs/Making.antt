-- The parts of a new object, as they are made one after the other.
use Rattle.std.proofs.Common.{◌≡◌, ◌≢◌, ℕ, ◌+◌, ◌-◌, ◌*◌, ◌<◌, ◌≤◌, ◌⊎◌, inl, inr, Bool, true, false, [], length, get_or, replicate, drop, take, min, refl, ap, subst, sym, ◌∙◌, arith, ◌==◌, ◌&&◌, if◌then◌else◌, nat_le, nat_lt}
use Rattle.std.proofs.lemmas.List.{length-replicate, drop-replicate, take-replicate, take_all}
use Rattle.std.proofs.Math.Nat.{eq-zero-or-pos}
use Rattle.graph_heap.specs.declared.command.Shape.{Shape}
use Rattle.graph_heap.specs.declared.command.Shape.TheVariants.{Plain, RefArray, WordArray}
use Rattle.graph_heap.specs.Shape.{ref_cells, word_cells, fits}
use Rattle.graph_heap.specs.Graph.{Object, new_object}
use Rattle.size_classes.specs.Parts.{PartContents, cells_of, pieces_of, spines_of, parts_in, part_cells, run_of, first_by, count_by, spine_of, spine_cell_of}
use Rattle.size_classes.proofs.Cutting.{Pieces, Spines, pieces_are, spines_are, referrers_are, holds}
use Rattle.heap_model.specs.Header.{Header}
use Rattle.heap_model.specs.Block.{BlockRecord, new_record}
use Rattle.heap_model.specs.Store.{Store, Adds, is_allocated, record_of}
use Rattle.heap_model.specs.Core.{Name, null, Heap}
use Rattle.heap_model.specs.Cut.{count_of, width_by, width_in, width_of, words_by, words_of}
use Rattle.heap_model.proofs.Cut.Reaching.{spine_in, spine_cell_in, spine_below}
use Rattle.heap_model.specs.State.{HeapState, seen, width_at, same_colour}
use Rattle.heap_model.specs.Agreement.{IsWhole}
use Rattle.heap_model.specs.Making.{made, Making, Nothing_made, Part_made, MakesObject}
use Rattle.heap_model.proofs.Core.Same.{SameBlocks}
use Rattle.heap_model.proofs.Core.NewParts.{Parts, Makes, link_by, parts_of}
use Rattle.heap_model.proofs.Core.Edits.{set_cell}
use Rattle.heap_model.proofs.Cut.Changes.{no_refs, parts_are}
use Rattle.heap_model.proofs.Core.LinkedParts.{AreLinked, MakesFirst, block_made, first_none, first_root, first_more, first_all}
use Rattle.heap_model.proofs.Agreements.Written.{whole_cell, width_le}
use Rattle.heap_model.proofs.State.{behind, allocated_put, cell_seen}

-- a heap that shows the same blocks has the same parts made
pub first_same : (h : Heap) (ps : Parts) (a : ℕ → ℕ) (k : ℕ) (h1 h2 : Heap) → MakesFirst h ps a k h1 → SameBlocks h1 h2 → MakesFirst h ps a k h2
first_same h ps a k h1 h2 m e = record {
  next = e.next ∙ m.next;
  roots = e.roots ∙ m.roots;
  root = λ j b. grind arith;
  free = m.free;
  stays = let s = m.stays in grind arith;
  parts = let o = m.parts in grind arith;
  apart = m.apart;
  cell = λ p i b d. let u = m.parts.allocated p b in let w = m.parts.width p b in e.says.cell (a p) i u (omega arith) ∙ m.cell p i b d;
  part = m.part;
  others = λ x b. m.others x (sym (e.allocated x) ∙ b);
}

-- a block is added
add_field : {A : Type 0} (none v : A) (f : BlockRecord → A) (old new : Store) (a : ℕ) (n : BlockRecord) → Adds old new a n → f n ≡ v → (x : ℕ) → (if x == a + 1 then true else (if x == 0 then true else is_allocated old (x - 1))) ≡ true
    → (if x == 0 then none else f (record_of new (x - 1))) ≡ (if x == a + 1 then v else (if x == 0 then none else f (record_of old (x - 1))))
add_field none v f old new a n w e x l = by_here (x == a + 1) refl l
  where
    by_null : (t : Bool) → (x == 0) ≡ t → (if t then true else is_allocated old (x - 1)) ≡ true → (if t then none else f (record_of new (x - 1))) ≡ (if t then none else f (record_of old (x - 1)))
    by_null true q l = refl
    by_null false q l = ap f (w.others (x - 1) l)

    by_here : (t : Bool) → (x == a + 1) ≡ t → (if t then true else (if x == 0 then true else is_allocated old (x - 1))) ≡ true → (if x == 0 then none else f (record_of new (x - 1))) ≡ (if t then v else (if x == 0 then none else f (record_of old (x - 1))))
    by_here true q l = let same : x ≡ a + 1 = grind arith in ap (λ z. if z == 0 then none else f (record_of new (z - 1))) same ∙ behind none (λ z. f (record_of new z)) a ∙ ap f w.here ∙ e
    by_here false q l = by_null (x == 0) refl l

colour_same : (c : Bool) → same_colour c c ≡ true
colour_same true = refl
colour_same false = refl

-- all words of a new part are zero
take-replicate_min : (n m : ℕ) → take n (replicate {A = ℕ} m 0) ≡ replicate (min n m) 0
take-replicate_min n m = by_size (nat_le n m) refl
  where
    by_size : (b : Bool) → nat_le n m ≡ b → take n (replicate {A = ℕ} m 0) ≡ replicate (min n m) 0
    by_size true e = let l : n ≤ m = grind arith in let q : min n m ≡ n = omega arith in take-replicate n m 0 l ∙ ap (λ z. replicate z 0) (sym q)
    by_size false e = let l : m ≤ n = grind arith in let q : min n m ≡ m = omega arith in take_all n (replicate m 0) (let z = length-replicate {A = ℕ} m 0 in omega arith) ∙ ap (λ z. replicate z 0) (sym q)

-- an object that is cut has cells of one kind
one_kind : (shape : Shape) → fits shape ≡ true → (ref_cells shape ≡ 0) ⊎ ((word_cells shape ≡ 0) ⊎ (cells_of shape ≤ 252))
one_kind (Plain refs words) f = inr (inr (grind arith))
one_kind (RefArray n) f = inr (inl refl)
one_kind (WordArray n) f = inl refl

share_left : (r w f : ℕ) → (r ≡ 0) ⊎ ((w ≡ 0) ⊎ ((f ≡ 0) × (r + w ≤ 252))) → min 252 (r + w - f) - min (min 252 (r + w - f)) (r - f) ≡ min 252 (w - f)
share_left r w f k = grind arith

alone : (n k s p : ℕ) → Pieces n k → Spines k s → n ≤ 252 → p < s + k → 252 * (p - s) ≡ 0
alone n k s p a b l m = grind arith

one_of : (r w p : ℕ) → (r ≡ 0) ⊎ ((w ≡ 0) ⊎ (r + w ≤ 252)) → p < parts_in (r + w) → (r ≡ 0) ⊎ ((w ≡ 0) ⊎ ((252 * (p - spines_of (r + w)) ≡ 0) × (r + w ≤ 252)))
one_of r w p (inl e) l = inl e
one_of r w p (inr (inl e)) l = inr (inl e)
one_of r w p (inr (inr e)) l = inr (inr (alone (r + w) (pieces_of (r + w)) (spines_of (r + w)) p (pieces_are (r + w)) (spines_are (r + w)) e l, e))

nothing_left : (n m : ℕ) → n ≡ m → n - m ≡ 0
nothing_left n m e = omega arith

new_words : (r w p : ℕ) → (r ≡ 0) ⊎ ((w ≡ 0) ⊎ (r + w ≤ 252)) → p < parts_in (r + w) → drop (width_by (run_of (r + w) p) r) (replicate {A = ℕ} (run_of (r + w) p).count 0) ≡ words_by (run_of (r + w) p) (replicate w 0)
new_words r w p k l = drop-replicate (width_by (run_of (r + w) p) r) ((run_of (r + w) p).count) 0 ∙ by_spine (nat_lt p (spines_of (r + w))) (count_by (r + w) (pieces_of (r + w)) (spines_of (r + w)) p) (first_by (spines_of (r + w)) p) (λ e. (as_piece p (spines_of (r + w)) (pieces_of (r + w)) (r + w) e))
  where
    as_piece : (p s k n : ℕ) → nat_lt p s ≡ false → (count_by n k s p ≡ min 252 (n - 252 * (p - s))) × (first_by s p ≡ 252 * (p - s))
    as_piece p s k n e = (grind arith, grind arith)

    by_spine : (t : Bool) (count first : ℕ) → (t ≡ false → (count ≡ min 252 (r + w - 252 * (p - spines_of (r + w)))) × (first ≡ 252 * (p - spines_of (r + w)))) → replicate {A = ℕ} (count - (if t then count else min count (r - first))) 0 ≡ (if t then [] else take 252 (drop first (replicate w 0)))
    by_spine true count first e = ap (λ z. replicate {A = ℕ} z 0) (nothing_left count count refl)
    by_spine false count first e =
        let q = e refl in
        let f = 252 * (p - spines_of (r + w)) in
        rw (q.0, q.1) (ap (λ z. replicate {A = ℕ} z 0) (share_left r w f (one_of r w p k l)) ∙ sym (ap (take 252) (drop-replicate f w 0) ∙ take-replicate_min 252 (w - f)))

part_words_new : (shape : Shape) (p : ℕ) → fits shape ≡ true → p < parts_in (cells_of shape) → drop (width_in (ref_cells shape) (word_cells shape) p) (replicate {A = ℕ} (part_cells (cells_of shape) p) 0) ≡ words_of (new_object shape) p
unfolding words_of width_in
part_words_new shape p f l =
    let a = length-replicate {A = ℕ} (ref_cells shape) 0 in
    let b = length-replicate {A = ℕ} (word_cells shape) 0 in
    rw (a, b) (new_words (ref_cells shape) (word_cells shape) p (one_kind shape f) l)

part_width_new : (shape : Shape) (p : ℕ) → width_in (ref_cells shape) (word_cells shape) p ≡ width_of (new_object shape) p
part_width_new shape p = let a = length-replicate {A = ℕ} (ref_cells shape) 0 in let b = length-replicate {A = ℕ} (word_cells shape) 0 in rw (a, b) refl

pub add_seen : (h : HeapState) (s t : Store) (a p : ℕ) (shape : Shape) → fits shape ≡ true → p < parts_in (cells_of shape) → Adds s t a (new_record a (record { shape = shape; part = p; colour = h.mark_parity }) h.next)
    → SameBlocks (block_made (seen (record h { store = s })) (a + 1) (record { identity = h.next; part = p }) shape ((parts_of shape).width p) ((parts_of shape).words p)) (seen (record h { store = t }))
add_seen h s t a p shape f l w =
    let n = new_record a (record { shape = shape; part = p; colour = h.mark_parity }) h.next in
    record {
      next = refl;
      roots = refl;
      root = λ j m. refl;
      allocated = allocated_put s t a true w.allocated w.same;
      says = record {
        forward = λ x m. add_field 0 (a + 1) (λ z. z.forward + 1) s t a n w refl x m;
        name = λ x m. let g = λ (z : BlockRecord). let y : Name = record { identity = z.identity; part = z.part } in y in add_field null (record { identity = h.next; part = p }) g s t a n w refl x m;
        width = λ x m. add_field 0 (width_of (new_object shape) p) width_at s t a n w (part_width_new shape p) x m;
        words = λ x m. let g = λ (z : BlockRecord). drop (width_at z) z.cells in add_field [] (words_of (new_object shape) p) g s t a n w (part_words_new shape p f l) x m;
        shape = λ x m. add_field (Plain 0 0) shape (λ z. z.shape) s t a n w refl x m;
        marked = λ x m. add_field true true (λ z. same_colour h.mark_parity z.colour) s t a n w (colour_same h.mark_parity) x m;
        cell = λ x i m b. add_field 0 0 (λ z. get_or z.cells i 0) s t a n w (no_refs (part_cells (cells_of shape) p) i) x m;
      };
    }

-- the blocks stay whole
pub whole_add : (s t : Store) (a : ℕ) (header : Header) (id : ℕ) → Adds s t a (new_record a header id) → IsWhole s → IsWhole t
whole_add s t a header id w k b l = by_here (b == a) refl
  where
    n : BlockRecord
    n = new_record a header id

    by_here : (t0 : Bool) → (b == a) ≡ t0 → length (record_of t b).cells ≡ part_cells (cells_of (record_of t b).shape) (record_of t b).part
    by_here true e =
        let same : b ≡ a = grind arith in
        let q : record_of t b ≡ n = ap (record_of t) same ∙ w.here in
        subst (λ (z : BlockRecord). length z.cells ≡ part_cells (cells_of z.shape) z.part) (sym q) (length-replicate {A = ℕ} (part_cells (cells_of header.shape) header.part) 0)
    by_here false e =
        let ne : b ≢ a = grind arith in
        let l' : is_allocated s b ≡ true = sym (w.same b ne) ∙ l in
        subst (λ (z : BlockRecord). length z.cells ≡ part_cells (cells_of z.shape) z.part) (sym (w.others b l')) (k b l')

pub making_whole : (old : Store) (shape : Shape) (colour : Bool) (id : ℕ) (at : ℕ → ℕ) (k : ℕ) (new : Store) → Making old (made shape colour id) at k new → IsWhole old → IsWhole new
making_whole old shape colour id at k new Nothing_made w = w
making_whole old shape colour id at k new (Part_made part s t u m a none some) w =
    let x = whole_add s t (at part) _ id a (making_whole old shape colour id at part s m w) in
    elim (eq-zero-or-pos part) [ inl e ↦ subst IsWhole (sym (none e)) x | inr l ↦ whole_cell t u _ _ _ (some l) x ]

-- the address of part p, as a reference
abbrev pub reference : (ℕ → ℕ) → ℕ → ℕ
reference at p = at p + 1

parts_count : (shape : Shape) → (parts_of shape).count ≡ parts_in (cells_of shape)
unfolding count_of
parts_count shape = let u = length-replicate {A = ℕ} (ref_cells shape) 0 in let v = length-replicate {A = ℕ} (word_cells shape) 0 in rw (u, v) refl

link_some : (r : PartContents) (i : ℕ) → 0 < link_by r i → (r.spine ≡ true) × (i < r.count) × (r.first + i ≡ link_by r i)
link_some r i l = (grind arith, grind arith, grind arith)

link_is : (r : PartContents) (i x : ℕ) → r.spine ≡ true → i < r.count → r.first + i ≡ x → link_by r i ≡ x
link_is r i x e l q = grind arith

among : (s p : ℕ) → nat_lt p s ≡ true → p < s
among s p e = grind arith

sooner : (s p : ℕ) → p < s → nat_lt p s ≡ true
sooner s p e = grind arith

-- the links of a new object
linked_there : (o : Object) (k : ℕ) → 0 < k → k < count_of o → link_by (run_of (length o.refs + length o.words) (spine_in o k)) (spine_cell_in o k) ≡ k
unfolding count_of
linked_there o k l m =
    let n = length o.refs + length o.words in
    let q = referrers_are n (pieces_of n) (spines_of n) (pieces_are n) (spines_are n) k l m in
    link_is (run_of n (spine_of n k)) (spine_cell_of n k) k (sooner _ _ q.0) q.2 q.3

linked_back : (n p i : ℕ) → 0 < link_by (run_of n p) i → (spine_of n (link_by (run_of n p) i) ≡ p) × (spine_cell_of n (link_by (run_of n p) i) ≡ i) × (p < link_by (run_of n p) i)
linked_back n p i l =
    let q = link_some (run_of n p) i l in
    let w = holds n (pieces_of n) (spines_of n) (pieces_are n) (spines_are n) p i (among _ _ q.0) q.1 in
    subst (λ z. (spine_of n z ≡ p) × (spine_cell_of n z ≡ i) × (p < z)) q.2 (w.2, w.3, w.0)

pub parts_linked : (shape : Shape) → AreLinked (parts_of shape) (spine_of (cells_of shape)) (spine_cell_of (cells_of shape))
parts_linked shape =
    let o = new_object shape in
    let u = length-replicate {A = ℕ} (ref_cells shape) 0 in
    let v = length-replicate {A = ℕ} (word_cells shape) 0 in
    let sum : length o.refs + length o.words ≡ cells_of shape = (let x : (a b c d : ℕ) → a ≡ c → b ≡ d → a + b ≡ c + d = λ a b c d e f. omega arith in x _ _ _ _ u v) in
    subst (λ z. AreLinked (parts_of shape) (spine_of z) (spine_cell_of z)) sum (record {
      there = λ k l m. let q = spine_below o k m l in (q.1, q.0, linked_there o k l m);
      back = λ p i l m n. linked_back (length o.refs + length o.words) p i n;
    })

other_cells : (h1 h2 : Heap) (c1 c2 : ℕ → ℕ → ℕ) → SameBlocks h1 h2 → ((z k : ℕ) → h1.allocated z ≡ true → k < h1.width z → c2 z k ≡ c1 z k) → SameBlocks (record h1 { cell = c1 }) (record h2 { cell = c2 })
other_cells h1 h2 c1 c2 e same = grind arith

same_set : (h1 h2 : Heap) (x i y : ℕ) → SameBlocks h1 h2 → SameBlocks (set_cell h1 x i y) (set_cell h2 x i y)
same_set h1 h2 x i y e = other_cells h1 h2 _ _ e (λ z k b d. ap (λ v. if (z == x) && (k == i) then y else v) (e.says.cell z k b d))

pub making_first : (h : HeapState) (shape : Shape) (at : ℕ → ℕ) (k : ℕ) (new : Store) → fits shape ≡ true → IsWhole h.store → k ≤ parts_in (cells_of shape)
    → Making h.store (made shape h.mark_parity h.next) at k new → MakesFirst (seen h) (parts_of shape) (reference at) k (seen (record h { store = new }))
making_first h shape at k new f whole few Nothing_made = first_none (seen h) (parts_of shape) (reference at)
making_first h shape at k new f whole few (Part_made part s t u m a none some) =
    let ps = parts_of shape in
    let n = cells_of shape in
    let hs : HeapState = record h { store = s } in
    let ht : HeapState = record h { store = t } in
    let below : part < parts_in n = omega arith in
    let fewer : part < ps.count = subst (λ z. part < z) (sym (parts_count shape)) below in
    let before = making_first h shape at part s f whole (omega arith) m in
    let free : (seen hs).allocated (at part + 1) ≡ false = behind true (λ z. is_allocated s z) (at part) ∙ a.free in
    let added = add_seen h s t (at part) part shape f below a in
    elim (eq-zero-or-pos part) [
      | inl e ↦
          subst (λ z. MakesFirst (seen h) ps (reference at) (part + 1) (seen (record h { store = z }))) (sym (none e))
          (first_same (seen h) ps (reference at) (part + 1) _ (seen ht)
          (first_root (seen h) ps (reference at) (spine_of n) (spine_cell_of n) part (seen hs) (at part + 1) (parts_linked shape) e fewer before free refl) added)
      | inr l ↦
          let q = spine_of n part in
          let c = spine_cell_of n part in
          let w = (parts_linked shape).there part l fewer in
          let allocated : is_allocated s (at q) ≡ true = sym (behind true (λ z. is_allocated s z) (at q)) ∙ before.parts.allocated q w.0 in
          let kept : record_of t (at q) ≡ record_of s (at q) = a.others (at q) allocated in
          let wide : width_at (record_of s (at q)) ≡ ps.width q = sym (behind 0 (λ z. width_at (record_of s z)) (at q)) ∙ before.parts.width q w.0 in
          let is_shape : (record_of s (at q)).shape ≡ shape = sym (behind _ (λ z. (record_of s z).shape) (at q)) ∙ before.parts.shape q w.0 in
          let within_s : c < width_at (record_of s (at q)) = subst (λ z. c < z) (sym wide) w.1 in
          let inside_s : c < length (record_of s (at q)).cells = under c (width_at (record_of s (at q))) _ _ within_s (width_le (ref_cells (record_of s (at q)).shape) (word_cells (record_of s (at q)).shape) (record_of s (at q)).part) (making_whole h.store shape h.mark_parity h.next at part s m whole (at q) allocated) in
          let within : c < width_at (record_of t (at q)) = subst (λ (z : BlockRecord). c < width_at z) (sym kept) within_s in
          let inside : c < length (record_of t (at q)).cells = subst (λ (z : BlockRecord). c < length z.cells) (sym kept) inside_s in
          let written = cell_seen ht u (at q) c (at part + 1) (some l) inside within in
          let step = first_more (seen h) ps (reference at) (spine_of n) (spine_cell_of n) part (seen hs) (at part + 1) (parts_linked shape) l fewer before free refl in
          first_same (seen h) ps (reference at) (part + 1) _ (seen (record h { store = u })) (first_same (seen h) ps (reference at) (part + 1) _ _ step (same_set _ (seen ht) (at q + 1) c (at part + 1) added)) written
    ]
  where
    under : (c width cells count : ℕ) → c < width → width ≤ count → cells ≡ count → c < cells
    under c width cells count l m e = omega arith

-- all parts of an object are made
pub makes_object : (h : HeapState) (shape : Shape) (at : ℕ → ℕ) (new : Store) → fits shape ≡ true → IsWhole h.store → MakesObject h.store shape h.mark_parity h.next at new
    → Makes (seen h) (parts_of shape) (reference at) (seen (record h { store = new; next = h.next + 1 }))
makes_object h shape at new f whole m =
    let first = making_first h shape at (parts_in (cells_of shape)) new f whole (omega arith) m in
    first_all (seen h) (parts_of shape) (reference at) (seen (record h { store = new })) (parts_are shape)
    (subst (λ z. MakesFirst (seen h) (parts_of shape) (reference at) z (seen (record h { store = new }))) (sym (parts_count shape)) first)
