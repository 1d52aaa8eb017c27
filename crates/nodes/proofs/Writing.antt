-- Reads and writes of one allocated block.
use Rattle.std.proofs.Common.{◌≡◌, ℕ, ◌+◌, ◌/◌, ◌<◌, ◌≤◌, ◌≢◌, ◌⊎◌, Bool, true, List, Option, length, drop, set, get_or, ap, ◌∙◌, sym, arith, refl, inl, inr, subst}
use Rattle.std.proofs.lemmas.List.{get_or-set_same, get_or-set_other, get_or-take, get_or-drop, length-take, length-drop}
use Rattle.graph_heap.specs.declared.command.Shape.{Shape}
use Rattle.graph_heap.specs.Shape.{ref_cells, word_cells}
use Rattle.heap_model.specs.Header.{header_in, shape_in, recoloured}
use Rattle.heap_model.specs.Block.{words_at, record_in, cell_count, with_cell, with_colour}
use Rattle.heap_model.specs.Store.{Store, IsStore, size_at, is_allocated, record_of, Writes}
use Rattle.heap_model.specs.Cut.{width_in}
use Rattle.heap_model.specs.State.{width_at}
use Rattle.size_classes.specs.Sizes.{size_of}
use Rattle.headers.proofs.Frames.{record_at-other}
use Rattle.headers.proofs.Written.{cell_written, colour_written}
use Rattle.pages.specs.declared.page.PageRow.{PageRow}
use Rattle.pages.proofs.Writing.{WritesBlock}
use Rattle.nodes.specs.Joined.{IsHeader, AreBlockRecords}
use Rattle.pages.specs.Together.{joined}
use Rattle.nodes.proofs.Headers.{recoloured_header}
use Rattle.nodes.proofs.Joining.{AllocatedBlock, allocated_block, first_allocated, writes_later, still_nodes, through}
use Rattle.nodes.proofs.Places.{allocated_place, inside, apart}

module _ (s : Store) (whole : IsStore s) (a : ℕ) (allocated : is_allocated s a ≡ true) where
  pub in_words : a + size_at s a ≤ length s.words
  in_words = inside s a whole allocated

  pub four : 4 ≤ size_at s a
  four = (allocated_place s a whole allocated).size

  -- a word of the block
  word_of_block : (k : ℕ) → k < size_at s a → get_or (words_at s.words a (size_at s a)) k 0 ≡ get_or s.words (a + k) 0
  word_of_block k l = get_or-take (size_at s a) (drop a s.words) k 0 l ∙ get_or-drop a s.words k 0

  pub forward_is : get_or s.words a 0 ≡ (record_of s a).forward
  unfolding record_of record_in
  forward_is = sym (word_of_block 0 (omega (arith, four)) ∙ ap (λ n. get_or s.words n 0) (let e : a + 0 ≡ a = omega arith in e))

  pub shape_is : shape_in (get_or s.words (a + 1) 0) ≡ (record_of s a).shape
  unfolding record_of record_in
  shape_is = ap shape_in (sym (word_of_block 1 (omega (arith, four))))

  pub part_is : (header_in (get_or s.words (a + 1) 0)).part ≡ (record_of s a).part
  unfolding record_of record_in
  part_is = ap (λ w. (header_in w).part) (sym (word_of_block 1 (omega (arith, four))))

  pub identity_is : get_or s.words (a + 2) 0 ≡ (record_of s a).identity
  unfolding record_of record_in
  identity_is = sym (word_of_block 2 (omega (arith, four)))

  -- a write in the block leaves the record of each other allocated block
  pub others_stay : (k v : ℕ) → k < size_at s a → (b : ℕ) → is_allocated s b ≡ true → b ≢ a → record_of (record s { words = set s.words (a + k) v }) b ≡ record_of s b
  unfolding record_of size_at
  others_stay k v l b other ne = record_at-other s.words (a + k) v b (size_at s b) outside
    where
      outside : (a + k < b) ⊎ (b + size_at s b ≤ a + k)
      outside = elim (apart s a b (allocated_place s a whole allocated) (allocated_place s b whole other) (λ e. ne (sym e))) [
        | inl x ↦ inl (omega (arith, x, l))
        | inr y ↦ inr (omega (arith, y))
      ]

  pub colour_is : (header_in (get_or s.words (a + 1) 0)).colour ≡ (record_of s a).colour
  unfolding record_of record_in
  colour_is = ap (λ w. (header_in w).colour) (sym (word_of_block 1 (omega (arith, four))))

  -- its colour is written
  pub writes_colour : (c : Bool) → Writes s (record s { words = set s.words (a + 1) (recoloured (get_or s.words (a + 1) 0) c) }) a (with_colour (record_of s a) c)
  unfolding record_of size_at
  writes_colour c = record {
    here = colour_written s.words a (size_at s a) four in_words c;
    others = others_stay 1 (recoloured (get_or s.words (a + 1) 0) c) (omega (arith, four));
    pages = refl;
  }

  module _ (i : ℕ) (within : i < length (record_of s a).cells) where
    -- the cell is a word of the block
    pub cell_within : 4 + i < size_at s a
    unfolding record_of record_in
    cell_within =
        let b = words_at s.words a (size_at s a) in
        omega (arith, within, length-take (size_at s a) (drop a s.words), length-drop a s.words, in_words, length-take (cell_count (header_in (get_or b 1 0))) (drop 4 b), length-drop 4 b)

    pub cell_is : get_or s.words (a + (4 + i)) 0 ≡ get_or (record_of s a).cells i 0
    unfolding record_of record_in
    cell_is =
        let b = words_at s.words a (size_at s a) in
        let n = cell_count (header_in (get_or b 1 0)) in
        let below : i < n = omega (arith, within, length-take n (drop 4 b)) in
        sym (get_or-take n (drop 4 b) i 0 below ∙ get_or-drop 4 b i 0 ∙ word_of_block (4 + i) cell_within)

    pub writes_cell : (v : ℕ) → Writes s (record s { words = set s.words (a + (4 + i)) v }) a (with_cell (record_of s a) i v)
    unfolding record_of size_at
    writes_cell v = record {
      here = cell_written s.words i v a (size_at s a) within in_words;
      others = others_stay (4 + i) v cell_within;
      pages = refl;
    }

-- the same, of the value t as which the fields s are seen
module _ (s t : Store) (is : s ≡ t) (whole : IsStore s) (a : ℕ) (allocated : is_allocated t a ≡ true) where
  allocated' : is_allocated s a ≡ true
  allocated' = subst (λ (x : Store). is_allocated x a ≡ true) (sym is) allocated

  pub header_inside : a + 3 < length s.words
  header_inside = omega (arith, in_words s whole a allocated', four s whole a allocated')

  pub page_there : a / 2048 < length s.pages
  page_there = (allocated_place s a whole allocated').page

  pub forward_by : get_or s.words a 0 ≡ (record_of t a).forward
  forward_by = forward_is s whole a allocated' ∙ ap (λ (x : Store). (record_of x a).forward) is

  pub shape_by : shape_in (get_or s.words (a + 1) 0) ≡ (record_of t a).shape
  shape_by = shape_is s whole a allocated' ∙ ap (λ (x : Store). (record_of x a).shape) is

  pub part_by : (header_in (get_or s.words (a + 1) 0)).part ≡ (record_of t a).part
  part_by = part_is s whole a allocated' ∙ ap (λ (x : Store). (record_of x a).part) is

  pub width_by : (shape : Shape) (part : ℕ) → shape ≡ shape_in (get_or s.words (a + 1) 0) → part ≡ (header_in (get_or s.words (a + 1) 0)).part → width_in (ref_cells shape) (word_cells shape) part ≡ width_at (record_of t a)
  width_by shape part e f = ap (λ z. width_in (ref_cells z) (word_cells z) part) (e ∙ shape_by) ∙ ap (λ p. width_in (ref_cells (record_of t a).shape) (word_cells (record_of t a).shape) p) (f ∙ part_by)

  pub colour_by : (header_in (get_or s.words (a + 1) 0)).colour ≡ (record_of t a).colour
  colour_by = colour_is s whole a allocated' ∙ ap (λ (x : Store). (record_of x a).colour) is

  pub recolours_by : (c : Bool) (words : List ℕ) → words ≡ set s.words (a + 1) (recoloured (get_or s.words (a + 1) 0) c) → Writes t (record s { words = words }) a (with_colour (record_of t a) c)
  recolours_by c words e =
      subst (λ (x : Store). Writes x (record s { words = words }) a (with_colour (record_of x a) c)) is
      (subst (λ w. Writes s (record s { words = w }) a (with_colour (record_of s a) c)) (sym e) (writes_colour s whole a allocated' c))

  pub identity_by : get_or s.words (a + 2) 0 ≡ (record_of t a).identity
  identity_by = identity_is s whole a allocated' ∙ ap (λ (x : Store). (record_of x a).identity) is

  module _ (i : ℕ) (within : i < length (record_of t a).cells) where
    within' : i < length (record_of s a).cells
    within' = subst (λ (x : Store). i < length (record_of x a).cells) (sym is) within

    pub cell_inside : a + (4 + i) < length s.words
    cell_inside = omega (arith, in_words s whole a allocated', cell_within s whole a allocated' i within')

    pub cell_by : get_or s.words (a + (4 + i)) 0 ≡ get_or (record_of t a).cells i 0
    cell_by = cell_is s whole a allocated' i within' ∙ ap (λ (x : Store). get_or (record_of x a).cells i 0) is

    pub writes_by : (v : ℕ) (words : List ℕ) → words ≡ set s.words (a + (4 + i)) v → Writes t (record s { words = words }) a (with_cell (record_of t a) i v)
    writes_by v words e =
        subst (λ (x : Store). Writes x (record s { words = words }) a (with_cell (record_of x a) i v)) is
        (subst (λ w. Writes s (record s { words = w }) a (with_cell (record_of s a) i v)) (sym e) (writes_cell s whole a allocated' i within' v))

-- the same, with the records: no write of colour or cell marks the block as free
module _ (rows : List (Option PageRow)) (words : List ℕ) (t : Store) (is : joined rows words ≡ t) (are : AreBlockRecords rows words) (a : ℕ) (allocated : is_allocated t a ≡ true) (new : List ℕ) where
  pub allocated_here : is_allocated (joined rows words) a ≡ true
  allocated_here = subst (λ (x : Store). is_allocated x a ≡ true) (sym is) allocated

  pub block : AllocatedBlock rows words a
  block = allocated_block rows words a allocated_here

  header_there : a + 1 < length words
  header_there = omega (arith, in_words (joined rows words) are.whole a allocated_here, four (joined rows words) are.whole a allocated_here)

  pub later : (k v : ℕ) → 0 < k → k < size_at (joined rows words) a → new ≡ set words (a + k) v → WritesBlock words new a (size_of block.row.class)
  later k v some within e = writes_later words new a (size_of block.row.class) k v (first_allocated rows words a block) some (subst (λ n. k < n) block.size within) e

  module _ (c : Bool) (e : new ≡ set words (a + 1) (recoloured (get_or words (a + 1) 0) c)) where
    colour_write : WritesBlock words new a (size_of block.row.class)
    colour_write = later 1 (recoloured (get_or words (a + 1) 0) c) (omega arith) (omega (arith, four (joined rows words) are.whole a allocated_here)) e

    pub recoloured_nodes : AreBlockRecords rows new
    recoloured_nodes = still_nodes rows words new are.together a block colour_write are allocated_here (subst IsHeader (sym (ap (λ w. get_or w (a + 1) 0) e ∙ get_or-set_same words (a + 1) (recoloured (get_or words (a + 1) 0) c) 0 header_there)) (recoloured_header (get_or words (a + 1) 0) c (are.headers a allocated_here)))

    pub recolours : Writes t (joined rows new) a (with_colour (record_of t a) c)
    recolours =
        through rows words new are.together a block colour_write (λ x. Writes t x a (with_colour (record_of t a) c))
        (recolours_by (joined rows words) t is are.whole a allocated c new e)

  module _ (i v : ℕ) (within : i < length (record_of t a).cells) (e : new ≡ set words (a + (4 + i)) v) where
    cell_write : WritesBlock words new a (size_of block.row.class)
    cell_write = later (4 + i) v (omega arith) (cell_within (joined rows words) are.whole a allocated_here i (subst (λ (x : Store). i < length (record_of x a).cells) (sym is) within)) e

    pub rewritten_nodes : AreBlockRecords rows new
    rewritten_nodes = still_nodes rows words new are.together a block cell_write are allocated_here (subst IsHeader (sym (ap (λ w. get_or w (a + 1) 0) e ∙ get_or-set_other words (a + (4 + i)) (a + 1) v 0 (omega arith))) (are.headers a allocated_here))

    pub rewrites : Writes t (joined rows new) a (with_cell (record_of t a) i v)
    rewrites =
        through rows words new are.together a block cell_write (λ x. Writes t x a (with_cell (record_of t a) i v))
        (writes_by (joined rows words) t is are.whole a allocated i within v new e)
