-- A reference cell, or a word cell, of an object that was found.
use Rattle.std.proofs.Common.{◌≡◌, ◌≢◌, ℕ, ◌+◌, ◌-◌, ◌/◌, ◌%◌, ◌<◌, ◌≤◌, Bool, true, false, cond, length, get_or, Result, Ok, Err, ap, ◌∙◌, sym, subst, arith, refl}
use Rattle.std.specs.Prelude.{nat_lt, min, if◌then◌else◌}
use Rattle.std.proofs.lemmas.Bool.{ltb-true, lt-ltb}
use Rattle.graph_heap.specs.declared.command.Shape.{Shape}
use Rattle.graph_heap.specs.declared.command.Shape.TheVariants as shapes
use Rattle.graph_heap.specs.declared.command.Refusal.{Refusal}
use Rattle.graph_heap.specs.declared.command.Refusal.TheVariants as refusals
use Rattle.graph_heap.specs.Shape.{fits, ref_cells, word_cells, takes_refs, takes_words}
use Rattle.graph_heap.specs.Graph.{Graph, Object, object_of}
use Rattle.graph_heap.specs.Effect.{◌>>=◌, object_at, ref_at, ref_cell, word_at, word_cell}
use Rattle.size_classes.specs.Parts.{cells_of, pieces_of, spines_of, parts_in, first_by, count_by, part_cells, part_in, column_in, spine_of, spine_cell_of}
use Rattle.size_classes.proofs.Cutting.{pieces_are, spines_are, cell_stands}
use Rattle.heap_model.specs.Store.{record_of}
use Rattle.heap_model.specs.Cut.{count_of, width_in}
use Rattle.heap_model.specs.State.{HeapState, width_at}
use Rattle.heap_model.specs.Agreement.{Agrees, IsWhole}
use Rattle.heap_model.specs.Reading.{IsMainCopy, Refers, spine_at, block_of}
use Rattle.heap_model.proofs.Readings.Hops.{root_to_spine, spine_to_part, part_reached}
use Rattle.heap_model.proofs.Readings.Shown.{copy_main, shape_shown}
use Rattle.heap_model.proofs.Agreements.Written.{cells_sum}
use Rattle.heap_model.proofs.Cut.Reaching.{part_below, word_below}
use Rattle.arraylets.specs.declared.position.CellPosition.{CellPosition}
use Rattle.arraylets.specs.CellPosition.{ref_position, word_position}
use Rattle.machine.specs.declared.plan.Found.{Found}
use Rattle.machine.specs.declared.plan.Kind.{Kind}
use Rattle.machine.specs.declared.plan.Kind.TheVariants as kinds
use Rattle.machine.specs.Reading.{IsFound, FindsRef, FindsWord, position_in, FindsCell}

-- each cell of a kind stands within its part
column_within : (n i : ℕ) → i < n → column_in i < part_cells n (part_in n i)
unfolding part_in column_in
column_within n i l = (cell_stands n (pieces_of n) (spines_of n) (pieces_are n) (spines_are n) i l).2

-- in a plain object all references stand before the words
plain_by : (k s refs words i : ℕ) → s ≡ 0 → refs + words ≤ 252 → i < words
    → (if nat_lt (s + i / 252) s then count_by (refs + words) k s (s + i / 252) else min (count_by (refs + words) k s (s + i / 252)) (refs - first_by s (s + i / 252))) + i % 252 < count_by (refs + words) k s (s + i / 252)
plain_by k s refs words i e few l = grind arith

no_spine : (refs words : ℕ) → refs + words ≤ 252 → spines_of (refs + words) ≡ 0
no_spine refs words few = grind arith

plain_within : (refs words i : ℕ) → refs + words ≤ 252 → i < words → width_in refs words (part_in (refs + words) i) + column_in i < part_cells (refs + words) (part_in (refs + words) i)
unfolding width_in part_in column_in
plain_within refs words i few l = plain_by (pieces_of (refs + words)) (spines_of (refs + words)) refs words i (no_spine refs words few) few l

-- in an array of words no cell of a piece is a reference
no_refs_by : (spine : Bool) (count first : ℕ) → spine ≡ false → (if spine then count else min count (0 - first)) ≡ 0
no_refs_by true count first e = absurd (cc)
no_refs_by false count first e = omega arith

behind_spines : (s d : ℕ) → nat_lt (s + d) s ≡ false
behind_spines s d = grind arith

pub no_refs_in : (n i : ℕ) → width_in 0 n (part_in (0 + n) i) ≡ 0
unfolding width_in part_in
no_refs_in n i =
    let m = 0 + n in
    let p = spines_of m + i / 252 in
    no_refs_by (nat_lt p (spines_of m)) (count_by m (pieces_of m) (spines_of m) p) (first_by (spines_of m) p) (behind_spines (spines_of m) (i / 252))

sum_less : (a b c : ℕ) → a ≡ 0 → b < c → a + b < c
sum_less a b c e l = omega arith

few_cells : (refs words : ℕ) → fits (shapes.Plain refs words) ≡ true → refs + words ≤ 252
few_cells refs words fit = grind arith

pub word_within_part : (shape : Shape) (i : ℕ) → fits shape ≡ true → i < word_cells shape
    → width_in (ref_cells shape) (word_cells shape) (part_in (cells_of shape) i) + column_in i < part_cells (cells_of shape) (part_in (cells_of shape) i)
word_within_part (shapes.Plain refs words) i fit l = plain_within refs words i (few_cells refs words fit) l
word_within_part (shapes.RefArray n) i fit l = absurd (omega arith)
word_within_part (shapes.WordArray n) i fit l = sum_less _ _ _ (no_refs_in n i) (column_within (0 + n) i (omega arith))

-- the facts that a place gives
pub place_parts : {A : Type 0} (b c : Bool) (x y : A) → cond b (cond c (Ok x) (Err refusals.BadIndex)) (Err refusals.WrongKind) ≡ Ok y → (b ≡ true) × (c ≡ true) × (x ≡ y)
place_parts true true x y e = (refl, refl, (cc))
place_parts true false x y e = absurd (cc)
place_parts false c x y e = absurd (cc)

-- the same tests refuse alike
abbrev refusal_of : (A : Type 0) → Refusal → Result A Refusal
refusal_of A e = Err e

same_error : (A B : Type 0) (x e : Refusal) → refusal_of A x ≡ refusal_of A e → refusal_of B x ≡ refusal_of B e
same_error A B x e p = let q : x ≡ e = cc in ap (refusal_of B) q

refused_by : {A : Type 0} (b b' c c' : Bool) (x : ℕ) (y : A) (e : Refusal) → b ≡ b' → c ≡ c' → cond b' (cond c' (Ok y) (Err refusals.BadIndex)) (Err refusals.WrongKind) ≡ refusal_of A e
    → cond b (cond c (Ok x) (Err refusals.BadIndex)) (Err refusals.WrongKind) ≡ refusal_of ℕ e
refused_by b true c true x y e eb ec at = absurd (cc)
refused_by {A} b true c false x y e eb ec at = rw (eb, ec) (same_error A ℕ refusals.BadIndex e at)
refused_by {A} b false c c' x y e eb ec at = rw eb (same_error A ℕ refusals.WrongKind e at)

module _ (h : HeapState) (g : Graph) (a : Agrees h g) (id : ℕ) (f : Found) (w : IsFound h g id f) where
  abbrev o : Object
  o = object_of g.objects id

  sum : length o.refs + length o.words ≡ cells_of o.shape
  sum = cells_sum o (a.given id w.reaches).cells

  -- the block of a part
  module _ (p : ℕ) (below : p < count_of o) where
    pub parts_below : p < parts_in (cells_of f.shape)
    unfolding count_of
    parts_below = subst (λ n. p < parts_in n) (sum ∙ ap cells_of (sym w.shape)) below

    module _ (whole : IsWhole h.store) (some : p ≢ 0) where
      pub spine_refers : spine_of (cells_of f.shape) p ≢ 0 → Refers h.store f.block (spine_cell_of (cells_of f.shape) (spine_of (cells_of f.shape) p))
      spine_refers = subst (λ s. spine_of (cells_of s) p ≢ 0 → Refers h.store f.block (spine_cell_of (cells_of s) (spine_of (cells_of s) p))) (sym w.shape)
          (λ middle. root_to_spine h g id a w.reaches f.block w.main p (grind arith) below middle whole)

      pub part_refers : Refers h.store (spine_at h.store (cells_of f.shape) f.block p) (spine_cell_of (cells_of f.shape) p)
      part_refers = subst (λ s. Refers h.store (spine_at h.store (cells_of s) f.block p) (spine_cell_of (cells_of s) p)) (sym w.shape) (spine_to_part h g id a w.reaches f.block w.main p (grind arith) below whole)

    part_main : IsMainCopy h.store (block_of h.store (cells_of f.shape) f.block p) (record { identity = id; part = p })
    part_main = subst (λ s. IsMainCopy h.store (block_of h.store (cells_of s) f.block p) (record { identity = id; part = p })) (sym w.shape) (part_reached h g id a w.reaches p f.block below w.main)

    part_shape : (record_of h.store (block_of h.store (cells_of f.shape) f.block p)).shape ≡ o.shape
    part_shape = shape_shown h g id p (block_of h.store (cells_of f.shape) f.block p) a w.reaches below part_main

    part_length : IsWhole h.store → length (record_of h.store (block_of h.store (cells_of f.shape) f.block p)).cells ≡ part_cells (cells_of o.shape) p
    part_length whole =
        whole (block_of h.store (cells_of f.shape) f.block p) part_main.allocated
        ∙ ap (λ s. part_cells (cells_of s) (record_of h.store (block_of h.store (cells_of f.shape) f.block p)).part) part_shape
        ∙ ap (part_cells (cells_of o.shape)) part_main.part

  module _ (i : ℕ) where
    -- a cell of a kind of which the object has n, and the facts that its place gives
    record IsCell (n column : ℕ) (takes : Bool) (place : CellPosition) : Type 0 where
      taken : takes ≡ true
      below : i < n
      counted : nat_lt i n ≡ true
      part : place.part < count_of o
      main : IsMainCopy h.store (block_of h.store (cells_of f.shape) f.block place.part) (record { identity = id; part = part_in (cells_of o.shape) i })
      column_is : place.cell ≡ column
      within : column < part_cells (cells_of o.shape) (part_in (cells_of o.shape) i) → IsWhole h.store → place.cell < length (record_of h.store (block_of h.store (cells_of f.shape) f.block place.part)).cells

    module _ (takes : Shape → Bool) (cells column : Shape → ℕ) (n : ℕ) (is : n ≡ cells o.shape) (low : i < n → part_in (length o.refs + length o.words) i < count_of o) (place : CellPosition)
        (at : cond (takes f.shape) (cond (nat_lt i (cells f.shape)) (Ok (record { part = part_in (cells_of f.shape) i; cell = column f.shape })) (Err refusals.BadIndex)) (Err refusals.WrongKind) ≡ Ok place) where
      parts : (takes f.shape ≡ true) × (nat_lt i (cells f.shape) ≡ true) × (record { part = part_in (cells_of f.shape) i; cell = column f.shape } ≡ place)
      parts = place_parts (takes f.shape) (nat_lt i (cells f.shape)) (record { part = part_in (cells_of f.shape) i; cell = column f.shape }) place at

      part_is : place.part ≡ part_in (cells_of o.shape) i
      part_is = sym (ap (λ (x : CellPosition). x.part) parts.2) ∙ ap (λ s. part_in (cells_of s) i) w.shape

      cell_is : place.cell ≡ column o.shape
      cell_is = sym (ap (λ (x : CellPosition). x.cell) parts.2) ∙ ap column w.shape

      cell_low : i < n
      cell_low = subst (λ z. i < z) (ap cells w.shape ∙ sym is) (ltb-true i (cells f.shape) parts.1)

      part_low : place.part < count_of o
      part_low = subst (λ p. p < count_of o) (ap (λ n. part_in n i) sum ∙ sym part_is) (low cell_low)

      cell_within : column o.shape < part_cells (cells_of o.shape) (part_in (cells_of o.shape) i) → IsWhole h.store → place.cell < length (record_of h.store (block_of h.store (cells_of f.shape) f.block place.part)).cells
      cell_within column_low whole =
          let n = part_length place.part part_low whole in
          let q : part_cells (cells_of o.shape) place.part ≡ part_cells (cells_of o.shape) (part_in (cells_of o.shape) i) = ap (part_cells (cells_of o.shape)) part_is in
          omega (arith, n, q, cell_is, column_low)

      cell_there : IsCell n (column o.shape) (takes o.shape) place
      cell_there = record {
        taken = ap takes (sym w.shape) ∙ parts.0;
        below = cell_low;
        counted = lt-ltb i n cell_low;
        part = part_low;
        main = subst (λ p. IsMainCopy h.store (block_of h.store (cells_of f.shape) f.block place.part) (record { identity = id; part = p })) part_is (part_main place.part part_low);
        column_is = cell_is;
        within = cell_within;
      }

    -- a reference cell
    module _ (place : CellPosition) (at : ref_position f.shape i ≡ Ok place) where
      ref_there : IsCell (length o.refs) (column_in i) (takes_refs o.shape) place
      ref_there = cell_there takes_refs ref_cells (λ s. column_in i) (length o.refs) (a.given id w.reaches).cells.refs (part_below o i) place at

      ref_cell_within : IsWhole h.store → place.cell < length (record_of h.store (block_of h.store (cells_of f.shape) f.block place.part)).cells
      ref_cell_within =
          let l : i < cells_of o.shape = (let r = ref_there.below in omega (arith, r, sum)) in
          ref_there.within (column_within (cells_of o.shape) i l)

      ref_at_is : ref_at g.objects id i ≡ Ok (get_or o.refs i 0)
      ref_at_is = ap (λ z. z >>= λ o. ref_cell o i) w.object ∙ rw (ref_there.taken, ref_there.counted) refl

      found_ref : IsWhole h.store → FindsRef h g id i (Ok (record { block = block_of h.store (cells_of f.shape) f.block place.part; index = place.cell }))
      found_ref whole = (ref_at_is, (w.reaches, record { below = ref_there.below; main = copy_main h (block_of h.store (cells_of f.shape) f.block place.part) _ ref_there.main; index = ref_there.column_is; within = ref_cell_within whole }))

    -- a word cell
    module _ (place : CellPosition) (at : word_position f.shape i ≡ Ok place) where
      word_there : IsCell (length o.words) (width_in (ref_cells o.shape) (word_cells o.shape) (part_in (cells_of o.shape) i) + column_in i) (takes_words o.shape) place
      word_there = cell_there takes_words word_cells (λ s. width_in (ref_cells s) (word_cells s) (part_in (cells_of s) i) + column_in i) (length o.words) (a.given id w.reaches).cells.words (word_below o i) place at

      word_column : place.cell ≡ width_at (record_of h.store (block_of h.store (cells_of f.shape) f.block place.part)) + column_in i
      word_column =
          word_there.column_is ∙ ap (λ n. n + column_in i)
          (sym (ap (λ s. width_in (ref_cells s) (word_cells s) (record_of h.store (block_of h.store (cells_of f.shape) f.block place.part)).part) (part_shape place.part word_there.part) ∙ ap (width_in (ref_cells o.shape) (word_cells o.shape)) word_there.main.part))

      word_at_is : word_at g.objects id i ≡ Ok (get_or o.words i 0)
      word_at_is = ap (λ z. z >>= λ o. word_cell o i) w.object ∙ rw (word_there.taken, word_there.counted) refl

      found_word : fits f.shape ≡ true → IsWhole h.store → FindsWord h g id i (Ok (record { block = block_of h.store (cells_of f.shape) f.block place.part; index = place.cell }))
      found_word fit whole =
          let few = subst (λ s. fits s ≡ true) w.shape fit in
          let l : i < word_cells o.shape = subst (λ z. i < z) (a.given id w.reaches).cells.words word_there.below in
          (word_at_is, (w.reaches, record { below = word_there.below; main = copy_main h (block_of h.store (cells_of f.shape) f.block place.part) _ word_there.main; index = word_column; within = word_there.within (word_within_part o.shape i few l) whole }))

    -- if there is no place, the graph heap refuses the command for the same reason
    ref_refused : (e : Refusal) → ref_position f.shape i ≡ Err e → ref_at g.objects id i ≡ Err e
    ref_refused e at =
        let n : length o.refs ≡ ref_cells f.shape = (a.given id w.reaches).cells.refs ∙ ap ref_cells (sym w.shape) in
        ap (λ z. z >>= λ o. ref_cell o i) w.object
        ∙ refused_by (takes_refs o.shape) (takes_refs f.shape) (nat_lt i (length o.refs)) (nat_lt i (ref_cells f.shape)) (get_or o.refs i 0) _ e (ap takes_refs (sym w.shape)) (ap (nat_lt i) n) at

    word_refused : (e : Refusal) → word_position f.shape i ≡ Err e → word_at g.objects id i ≡ Err e
    word_refused e at =
        let n : length o.words ≡ word_cells f.shape = (a.given id w.reaches).cells.words ∙ ap word_cells (sym w.shape) in
        ap (λ z. z >>= λ o. word_cell o i) w.object
        ∙ refused_by (takes_words o.shape) (takes_words f.shape) (nat_lt i (length o.words)) (nat_lt i (word_cells f.shape)) (get_or o.words i 0) _ e (ap takes_words (sym w.shape)) (ap (nat_lt i) n) at

    -- a cell of either kind
    pub cell_below : (kind : Kind) (place : CellPosition) → position_in kind f.shape i ≡ Ok place → place.part < count_of o
    cell_below kinds.Ref place at = (ref_there place at).part
    cell_below kinds.Word place at = (word_there place at).part

    pub found_cell : (kind : Kind) (place : CellPosition) → position_in kind f.shape i ≡ Ok place → fits f.shape ≡ true → IsWhole h.store
        → FindsCell h g kind id i (Ok (record { block = block_of h.store (cells_of f.shape) f.block place.part; index = place.cell }))
    found_cell kinds.Ref place at fit whole = found_ref place at whole
    found_cell kinds.Word place at fit whole = found_word place at fit whole

    pub cell_refused : (kind : Kind) (e : Refusal) → position_in kind f.shape i ≡ Err e → FindsCell h g kind id i (Err e)
    cell_refused kinds.Ref e at = ref_refused e at
    cell_refused kinds.Word e at = word_refused e at

-- a missing object has no cell
pub no_cell : (h : HeapState) (g : Graph) (kind : Kind) (id i : ℕ) (e : Refusal) → object_at g.objects id ≡ Err e → FindsCell h g kind id i (Err e)
no_cell h g kinds.Ref id i e none = ap (λ z. z >>= λ o. ref_cell o i) none
no_cell h g kinds.Word id i e none = ap (λ z. z >>= λ o. word_cell o i) none
