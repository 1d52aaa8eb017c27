-- A cell of an object is written: what its two lists are then.
use Rattle.std.proofs.Common.{◌≡◌, ◌≢◌, ℕ, ◌+◌, ◌-◌, ◌/◌, ◌%◌, ◌<◌, ◌≤◌, Bool, true, false, set, get_or, ap, ◌∙◌, sym, subst, refl, inl, inr, arith, get_or-set_other, ◌==◌, if◌then◌else◌}
use Rattle.std.specs.Prelude.{nat_lt, min}
use Rattle.std.proofs.lemmas.Bool.{cases_eq}
use Rattle.std.proofs.lemmas.List.{get_or-set_same}
use Rattle.graph_heap.specs.declared.command.Shape.{Shape}
use Rattle.graph_heap.specs.Shape.{ref_cells, word_cells}
use Rattle.size_classes.specs.Parts.{cells_of, pieces_of, spines_of, parts_in, first_by, count_by, part_in, column_in, spine_of, spine_cell_of}
use Rattle.size_classes.proofs.Cutting.{pieces_are, spines_are, referrers_are, two_steps, cell_stands}
use Rattle.heap_model.specs.Action.{Shades, Was_marked, Is_marked}
use Rattle.heap_model.specs.Block.{BlockRecord, with_cell, with_colour}
use Rattle.heap_model.specs.Change.{Records, Records_nothing, Records_main}
use Rattle.heap_model.specs.Cut.{width_in}
use Rattle.heap_model.specs.Reading.{Refers, step_to, spine_at, block_of}
use Rattle.heap_model.specs.State.{HeapState, seen, width_at}
use Rattle.heap_model.specs.Store.{Store, Writes, is_allocated, record_of}
use Rattle.heap_model.proofs.Change.Recording.{records_cells, records_allocated}
use Rattle.heap_model.proofs.State.{node_kept}
use Rattle.arraylets.specs.declared.cells.Cell.{Cell}
use Rattle.arraylets.specs.Cells.{IsCell, IsObject, IsRef, IsWord, SetsRef, SetsWord, KeepsOthers, cell_at, shape_at, part_at, piece_at, ref_place, word_place, refs_of, words_of}
use Rattle.arraylets.proofs.Lists.{row_at, row_same, row_set}

-- one cell is written, and otherwise allocated blocks keep their records, except for their colours
pub record WritesCell (s n : Store) (at : Cell) (v : ℕ) : Type 0 where
  pub cell : IsCell s at
  pub here : (record_of n at.block).cells ≡ set (record_of s at.block).cells at.index v
  pub others : (b : ℕ) → is_allocated s b ≡ true → b ≢ at.block → (record_of n b).cells ≡ (record_of s b).cells
  pub forward : (b : ℕ) → is_allocated s b ≡ true → (record_of n b).forward ≡ (record_of s b).forward
  pub shape : (b : ℕ) → is_allocated s b ≡ true → (record_of n b).shape ≡ (record_of s b).shape
  pub part : (b : ℕ) → is_allocated s b ≡ true → (record_of n b).part ≡ (record_of s b).part

pub by_write : (s n : Store) (at : Cell) (v : ℕ) → IsCell s at → Writes s n at.block (with_cell (record_of s at.block) at.index v) → WritesCell s n at v
by_write s n at v cell w =
    let block = with_cell (record_of s at.block) at.index v in
    record {
      cell = cell;
      here = ap (λ (r : BlockRecord). r.cells) w.here;
      others = λ b l ne. ap (λ (r : BlockRecord). r.cells) (w.others b l ne);
      forward = λ b l. node_kept (λ (r : BlockRecord). r.forward) s n at.block block w b l (λ e. refl);
      shape = λ b l. node_kept (λ (r : BlockRecord). r.shape) s n at.block block w b l (λ e. refl);
      part = λ b l. node_kept (λ (r : BlockRecord). r.part) s n at.block block w b l (λ e. refl);
    }

-- the barrier changes colours alone
module _ {A : Type 0} (f : BlockRecord → A) (keeps : (r : BlockRecord) (c : Bool) → f (with_colour r c) ≡ f r) where
  shades_field : (h k : HeapState) (x b : ℕ) → Shades h x k → is_allocated h.store b ≡ true → f (record_of k.store b) ≡ f (record_of h.store b)
  shades_field h k x b (Was_marked e) l = refl
  shades_field h k x b (Is_marked new front back is e w) l = node_kept f h.store new (x - 1) (with_colour (record_of h.store (x - 1)) h.mark_parity) w b l (λ e. keeps (record_of h.store (x - 1)) h.mark_parity)

  records_field : (h k : HeapState) (x b : ℕ) → Records h x k → is_allocated h.store b ≡ true → f (record_of k.store b) ≡ f (record_of h.store b)
  records_field h k x b (Records_nothing e) l = refl
  records_field h k x b (Records_main k0 e sh) l = shades_field h k ((seen h).forward x) b sh l

pub by_store : (h k : HeapState) (x : ℕ) (n : Store) (at : Cell) (v : ℕ) → IsCell h.store at → Records h x k → Writes k.store n at.block (with_cell (record_of k.store at.block) at.index v) → WritesCell h.store n at v
by_store h k x n at v cell r w =
    let block = with_cell (record_of k.store at.block) at.index v in
    let on : (b : ℕ) → is_allocated h.store b ≡ true → is_allocated k.store b ≡ true = λ b l. records_allocated h k x b r l in
    record {
      cell = cell;
      here = ap (λ (r : BlockRecord). r.cells) w.here ∙ ap (λ xs. set xs at.index v) (records_cells h k x at.block r cell.allocated);
      others = λ b l ne. ap (λ (r : BlockRecord). r.cells) (w.others b (on b l) ne) ∙ records_cells h k x b r l;
      forward = λ b l. node_kept (λ (r : BlockRecord). r.forward) k.store n at.block block w b (on b l) (λ e. refl) ∙ records_field (λ (r : BlockRecord). r.forward) (λ r c. refl) h k x b r l;
      shape = λ b l. node_kept (λ (r : BlockRecord). r.shape) k.store n at.block block w b (on b l) (λ e. refl) ∙ records_field (λ (r : BlockRecord). r.shape) (λ r c. refl) h k x b r l;
      part = λ b l. node_kept (λ (r : BlockRecord). r.part) k.store n at.block block w b (on b l) (λ e. refl) ∙ records_field (λ (r : BlockRecord). r.part) (λ r c. refl) h k x b r l;
    }

-- ---- where cells of a kind stand in their part
zero_is : (x : ℕ) → (x == 0) ≡ true → x ≡ 0
zero_is x e = grind arith

some_is : (x : ℕ) → (x == 0) ≡ false → 0 < x
some_is x e = grind arith

not_some : (x : ℕ) → 0 < x → x ≢ 0
not_some x l = omega arith

pub parts_some : (n : ℕ) → 0 < parts_in n
parts_some n = let p = (pieces_are n).some in omega arith

piece_low : (n i : ℕ) → i < n → part_in n i < parts_in n
unfolding part_in
piece_low n i l = (cell_stands n (pieces_of n) (spines_of n) (pieces_are n) (spines_are n) i l).0

piece_high : (n i : ℕ) → spines_of n ≤ part_in n i
unfolding part_in
piece_high n i = omega arith

-- Cells of the same part, at the same place in it, are the same cell.
same_cell : (n i j : ℕ) → part_in n j ≡ part_in n i → column_in j ≡ column_in i → j ≡ i
unfolding part_in column_in
same_cell n i j p c = omega (arith, p, c)

-- references stand first
wide_by : (k s refs n i : ℕ) → i < refs → i % 252 < count_by n k s (s + i / 252) → first_by s (s + i / 252) + i % 252 ≡ i
    → i % 252 < (if nat_lt (s + i / 252) s then count_by n k s (s + i / 252) else min (count_by n k s (s + i / 252)) (refs - first_by s (s + i / 252)))
wide_by k s refs n i l c f = by_spine (nat_lt (s + i / 252) s)
  where
    by_spine : (b : Bool) → i % 252 < (if b then count_by n k s (s + i / 252) else min (count_by n k s (s + i / 252)) (refs - first_by s (s + i / 252)))
    by_spine true = c
    by_spine false = let high : i % 252 < refs - first_by s (s + i / 252) = omega (arith, l, f) in least (count_by n k s (s + i / 252)) (refs - first_by s (s + i / 252)) c high
      where
        least : (a b : ℕ) → i % 252 < a → i % 252 < b → i % 252 < min a b
        least a b x y = grind arith

wide : (refs words i : ℕ) → i < refs → column_in i < width_in refs words (part_in (refs + words) i)
unfolding part_in column_in width_in
wide refs words i l =
    let n = refs + words in
    let at = cell_stands n (pieces_of n) (spines_of n) (pieces_are n) (spines_are n) i (omega (arith, l)) in
    wide_by (pieces_of n) (spines_of n) refs n i l at.2 at.3

module _ (s n : Store) (at : Cell) (v : ℕ) (w : WritesCell s n at v) where
  -- a cell that isn't the one that is written
  cell_kept : (b c : ℕ) → is_allocated s b ≡ true → (b ≡ at.block → c ≢ at.index) → get_or (record_of n b).cells c 0 ≡ get_or (record_of s b).cells c 0
  cell_kept b c l other = elim (cases_eq b at.block) [
    | inl e ↦ ap (λ z. get_or (record_of n z).cells c 0) e ∙ ap (λ xs. get_or xs c 0) w.here
        ∙ get_or-set_other (record_of s at.block).cells at.index c v 0 (other e) ∙ sym (ap (λ z. get_or (record_of s z).cells c 0) e)
    | inr ne ↦ ap (λ xs. get_or xs c 0) (w.others b l ne)
  ]

  -- the one that is written
  cell_here : get_or (record_of n at.block).cells at.index 0 ≡ v
  cell_here = ap (λ xs. get_or xs at.index 0) w.here ∙ get_or-set_same (record_of s at.block).cells at.index v 0 w.cell.within

  -- a step through a block that isn't written
  step_kept : (b c : ℕ) → Refers s b c → b ≢ at.block → step_to n b c ≡ step_to s b c
  step_kept b c r ne =
      ap (λ xs. (record_of n (get_or xs c 0 - 1)).forward) (w.others b r.allocated ne) ∙ w.forward (get_or (record_of s b).cells c 0 - 1) r.there

  width_kept : (b : ℕ) → is_allocated s b ≡ true → width_at (record_of n b) ≡ width_at (record_of s b)
  width_kept b l = ap (λ (z : Shape). width_in (ref_cells z) (word_cells z) (record_of n b).part) (w.shape b l) ∙ ap (width_in (ref_cells (record_of s b).shape) (word_cells (record_of s b).shape)) (w.part b l)

  -- an object none of whose spines is written
  module _ (o : ℕ) (is : IsObject s o) (apart : (q : ℕ) → q < spines_of (cells_of (shape_at s o)) → part_at s o q ≢ at.block) where
    abbrev cells : ℕ
    cells = cells_of (shape_at s o)

    shape_kept : shape_at n o ≡ shape_at s o
    shape_kept = w.shape o (is.main 0 (parts_some cells)).allocated

    -- the spine that refers to a part
    module _ (p : ℕ) (some : 0 < p) (low : p < parts_in cells) where
      spine_low : spine_of cells p < spines_of cells
      spine_low = (referrers_are cells (pieces_of cells) (spines_of cells) (pieces_are cells) (spines_are cells) p some low).0

      spine_is : spine_at s cells o p ≡ part_at s o (spine_of cells p)
      spine_is = by_root (spine_of cells p == 0) refl
        where
          by_root : (b : Bool) → (spine_of cells p == 0) ≡ b
              → (if b then o else step_to s o (spine_cell_of cells (spine_of cells p))) ≡ (if b then o else step_to s (spine_at s cells o (spine_of cells p)) (spine_cell_of cells (spine_of cells p)))
          by_root true e = refl
          by_root false e = elim (two_steps cells (pieces_of cells) (spines_of cells) (pieces_are cells) (spines_are cells) p some low) [
            | inl z ↦ absurd (let y = some_is (spine_of cells p) e in omega (arith, z, y))
            | inr t ↦ ap (λ q. step_to s (if q == 0 then o else step_to s o (spine_cell_of cells q)) (spine_cell_of cells (spine_of cells p))) (sym t.1)
          ]

      spine_apart : spine_at s cells o p ≢ at.block
      spine_apart e = apart (spine_of cells p) spine_low (sym spine_is ∙ e)

      root_apart : o ≢ at.block
      root_apart e = apart 0 (omega (arith, spine_low)) e

      spine_kept : spine_at n cells o p ≡ spine_at s cells o p
      spine_kept = by_root (spine_of cells p == 0) refl
        where
          by_root : (b : Bool) → (spine_of cells p == 0) ≡ b
              → (if b then o else step_to n o (spine_cell_of cells (spine_of cells p))) ≡ (if b then o else step_to s o (spine_cell_of cells (spine_of cells p)))
          by_root true e = refl
          by_root false e = step_kept o (spine_cell_of cells (spine_of cells p)) (is.spine p some low (not_some _ (some_is _ e))) root_apart

      step_on : step_to n (spine_at n cells o p) (spine_cell_of cells p) ≡ step_to s (spine_at s cells o p) (spine_cell_of cells p)
      step_on = ap (λ b. step_to n b (spine_cell_of cells p)) spine_kept ∙ step_kept (spine_at s cells o p) (spine_cell_of cells p) (is.piece p some low) spine_apart

    part_kept : (p : ℕ) → p < parts_in cells → block_of n cells o p ≡ part_at s o p
    part_kept p low = by_root (p == 0) refl
      where
        by_root : (b : Bool) → (p == 0) ≡ b → (if b then o else step_to n (spine_at n cells o p) (spine_cell_of cells p)) ≡ (if b then o else step_to s (spine_at s cells o p) (spine_cell_of cells p))
        by_root true e = refl
        by_root false e = step_on p (some_is p e) low

    module _ (i : ℕ) (low : i < cells) where
      piece_kept : piece_at n o i ≡ piece_at s o i
      piece_kept = ap (λ (z : Shape). block_of n (cells_of z) o (part_in (cells_of z) i)) shape_kept ∙ part_kept (part_in cells i) (piece_low cells i low)

      piece_allocated : is_allocated s (piece_at s o i) ≡ true
      piece_allocated = (is.main (part_in cells i) (piece_low cells i low)).allocated

      pub ref_on : cell_at n (ref_place n o i) ≡ get_or (record_of n (piece_at s o i)).cells (column_in i) 0
      ref_on = ap (λ b. get_or (record_of n b).cells (column_in i) 0) piece_kept

      pub word_on : cell_at n (word_place n o i) ≡ get_or (record_of n (piece_at s o i)).cells (width_at (record_of s (piece_at s o i)) + column_in i) 0
      word_on = ap (λ b. get_or (record_of n b).cells (width_at (record_of n b) + column_in i) 0) piece_kept ∙ ap (λ z. get_or (record_of n (piece_at s o i)).cells (z + column_in i) 0) (width_kept (piece_at s o i) piece_allocated)

      pub ref_kept : (piece_at s o i ≡ at.block → column_in i ≢ at.index) → cell_at n (ref_place n o i) ≡ cell_at s (ref_place s o i)
      ref_kept other = ref_on ∙ cell_kept (piece_at s o i) (column_in i) piece_allocated other

      pub word_kept : (piece_at s o i ≡ at.block → width_at (record_of s (piece_at s o i)) + column_in i ≢ at.index) → cell_at n (word_place n o i) ≡ cell_at s (word_place s o i)
      word_kept other = word_on ∙ cell_kept (piece_at s o i) (width_at (record_of s (piece_at s o i)) + column_in i) piece_allocated other

    pub refs_same : ((i : ℕ) → i < ref_cells (shape_at s o) → piece_at s o i ≡ at.block → column_in i ≢ at.index) → refs_of n o ≡ refs_of s o
    refs_same other =
        row_same (λ i. cell_at s (ref_place s o i)) (λ i. cell_at n (ref_place n o i)) (ref_cells (shape_at s o)) (ref_cells (shape_at n o)) (ap ref_cells shape_kept)
        (λ k l. let low : k < ref_cells (shape_at s o) = subst (λ z. k < z) (ap ref_cells shape_kept) l in ref_kept k (omega (arith, low)) (other k low))

    pub words_same : ((i : ℕ) → i < word_cells (shape_at s o) → piece_at s o i ≡ at.block → width_at (record_of s (piece_at s o i)) + column_in i ≢ at.index) → words_of n o ≡ words_of s o
    words_same other =
        row_same (λ i. cell_at s (word_place s o i)) (λ i. cell_at n (word_place n o i)) (word_cells (shape_at s o)) (word_cells (shape_at n o)) (ap word_cells shape_kept)
        (λ k l. let low : k < word_cells (shape_at s o) = subst (λ z. k < z) (ap word_cells shape_kept) l in word_kept k (omega (arith, low)) (other k low))

    pub refs_set : (i : ℕ) → i < ref_cells (shape_at s o) → at ≡ ref_place s o i → ((j : ℕ) → j < ref_cells (shape_at s o) → j ≢ i → piece_at s o j ≡ at.block → column_in j ≢ at.index) → refs_of n o ≡ set (refs_of s o) i v
    refs_set i below e other =
        row_set (λ i. cell_at s (ref_place s o i)) (λ i. cell_at n (ref_place n o i)) (ref_cells (shape_at s o)) (ref_cells (shape_at n o)) (ap ref_cells shape_kept)
        i v (subst (λ z. i < z) (sym (ap ref_cells shape_kept)) below) (ref_on i (omega (arith, below)) ∙ ap (cell_at n) (sym e) ∙ cell_here)
        (λ k l ne. let low : k < ref_cells (shape_at s o) = subst (λ z. k < z) (ap ref_cells shape_kept) l in ref_kept k (omega (arith, low)) (other k low ne))

    pub words_set : (i : ℕ) → i < word_cells (shape_at s o) → at ≡ word_place s o i → ((j : ℕ) → j < word_cells (shape_at s o) → j ≢ i → piece_at s o j ≡ at.block → width_at (record_of s (piece_at s o j)) + column_in j ≢ at.index) → words_of n o ≡ set (words_of s o) i v
    words_set i below e other =
        row_set (λ i. cell_at s (word_place s o i)) (λ i. cell_at n (word_place n o i)) (word_cells (shape_at s o)) (word_cells (shape_at n o)) (ap word_cells shape_kept)
        i v (subst (λ z. i < z) (sym (ap word_cells shape_kept)) below) (word_on i (omega (arith, below)) ∙ ap (cell_at n) (sym e) ∙ cell_here)
        (λ k l ne. let low : k < word_cells (shape_at s o) = subst (λ z. k < z) (ap word_cells shape_kept) l in word_kept k (omega (arith, low)) (other k low ne))

  -- ---- a piece of an object is written
  module _ (o i : ℕ) (is : IsObject s o) (low : i < cells_of (shape_at s o)) (block : at.block ≡ piece_at s o i) where
    abbrev size : ℕ
    size = cells_of (shape_at s o)

    -- a part that is written is the one that has the cell
    part_of : (p : ℕ) → p < parts_in size → part_at s o p ≡ at.block → p ≡ part_in size i
    part_of p l e = sym (is.main p l).part ∙ ap (λ b. (record_of s b).part) (e ∙ block) ∙ (is.main (part_in size i) (piece_low size i low)).part

    spines_apart : (q : ℕ) → q < spines_of size → part_at s o q ≢ at.block
    spines_apart q l e = let same = part_of q (omega (arith, l)) e in let high = piece_high size i in omega (arith, l, same, high)

    -- how many references the part of a cell has
    width_is : (j : ℕ) → j < size → width_at (record_of s (piece_at s o j)) ≡ width_in (ref_cells (shape_at s o)) (word_cells (shape_at s o)) (part_in size j)
    width_is j l =
        ap (λ (z : Shape). width_in (ref_cells z) (word_cells z) (record_of s (piece_at s o j)).part) (is.shape (part_in size j) (piece_low size j l))
        ∙ ap (width_in (ref_cells (shape_at s o)) (word_cells (shape_at s o))) (is.main (part_in size j) (piece_low size j l)).part

    -- and of another object no part is
    pub others_keep : KeepsOthers s o n
    others_keep other there ne =
        let away : (p : ℕ) → p < parts_in (cells_of (shape_at s other)) → part_at s other p ≢ at.block = λ p l e.
        ne (sym (there.main p l).identity ∙ ap (λ b. (record_of s b).identity) (e ∙ block) ∙ (is.main (part_in size i) (piece_low size i low)).identity) in
        let apart : (q : ℕ) → q < spines_of (cells_of (shape_at s other)) → part_at s other q ≢ at.block = λ q l. away q (omega (arith, l)) in (
          refs_same other there apart (λ j l e. absurd (away (part_in (cells_of (shape_at s other)) j) (piece_low _ j (omega (arith, l))) e)),
          words_same other there apart (λ j l e. absurd (away (part_in (cells_of (shape_at s other)) j) (piece_low _ j (omega (arith, l))) e)),
        )

  pub sets_ref : (o i : ℕ) → IsRef s o i at → SetsRef s o i v n
  sets_ref o i r =
      let size = cells_of (shape_at s o) in
      let low : i < size = omega (arith, r.below) in
      let block = ap (λ (c : Cell). c.block) r.place in
      let index : at.index ≡ column_in i = ap (λ (c : Cell). c.index) r.place in
      let apart = spines_apart o i r.there low block in
      record {
        refs = refs_set o r.there apart i r.below r.place (λ j l ne e c.
            ne (same_cell size i j (part_of o i r.there low block (part_in size j) (piece_low size j (omega (arith, l))) e) (c ∙ index)));
        words = words_same o r.there apart (λ j l e c.
            let part = part_of o i r.there low block (part_in size j) (piece_low size j (omega (arith, l))) e in
            let first = wide (ref_cells (shape_at s o)) (word_cells (shape_at s o)) i r.below in
            let width = width_is o i r.there low block j (omega (arith, l)) ∙ ap (width_in (ref_cells (shape_at s o)) (word_cells (shape_at s o))) part in
            omega (arith, first, width, c, index));
        others = others_keep o i r.there low block;
      }

  pub sets_word : (o i : ℕ) → IsWord s o i at → SetsWord s o i v n
  sets_word o i r =
      let size = cells_of (shape_at s o) in
      let low : i < size = omega (arith, r.below) in
      let block = ap (λ (c : Cell). c.block) r.place in
      let index : at.index ≡ width_at (record_of s (piece_at s o i)) + column_in i = ap (λ (c : Cell). c.index) r.place in
      let apart = spines_apart o i r.there low block in
      record {
        refs = refs_same o r.there apart (λ j l e c.
            let part = part_of o i r.there low block (part_in size j) (piece_low size j (omega (arith, l))) e in
            let first = wide (ref_cells (shape_at s o)) (word_cells (shape_at s o)) j l in
            let width = width_is o i r.there low block i low ∙ ap (width_in (ref_cells (shape_at s o)) (word_cells (shape_at s o))) (sym part) in
            omega (arith, first, width, c, index));
        words = words_set o r.there apart i r.below r.place (λ j l ne e c.
            let width : width_at (record_of s (piece_at s o j)) ≡ width_at (record_of s (piece_at s o i)) = ap (λ b. width_at (record_of s b)) (e ∙ block) in
            ne (same_cell size i j (part_of o i r.there low block (part_in size j) (piece_low size j (omega (arith, l))) e) (omega (arith, width, c, index))));
        others = others_keep o i r.there low block;
      }

-- ---- what a list has
pub ref_held : (s : Store) (o i : ℕ) (at : Cell) → IsRef s o i at → cell_at s at ≡ get_or (refs_of s o) i 0
ref_held s o i at r = ap (cell_at s) r.place ∙ row_at (λ k. cell_at s (ref_place s o k)) (ref_cells (shape_at s o)) i r.below

pub word_held : (s : Store) (o i : ℕ) (at : Cell) → IsWord s o i at → cell_at s at ≡ get_or (words_of s o) i 0
word_held s o i at r = ap (cell_at s) r.place ∙ row_at (λ k. cell_at s (word_place s o k)) (word_cells (shape_at s o)) i r.below
