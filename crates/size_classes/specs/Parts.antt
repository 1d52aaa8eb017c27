-- The parts of an object. Each part holds a run: a piece holds at most 252 cells of the object, a spine refers to
-- parts. The spines stand first. An object of at most 252 cells is one piece. Up to 252 * 252 cells, part 0 is the only
-- spine and refers to all pieces. Above, part 0 is the root spine and refers to middle spines; each middle spine refers
-- to 252 pieces, the last to the rest.
use Rattle.std.specs.Prelude.{ℕ, ◌+◌, ◌-◌, ◌*◌, ◌/◌, ◌%◌, Bool, min, max, nat_lt, nat_le, ◌==◌, if◌then◌else◌}
use Rattle.graph_heap.specs.declared.command.Shape.{Shape}
use Rattle.size_classes.specs.declared.parts.TheConstants.{PART_CELLS}
use Rattle.graph_heap.specs.Shape.{ref_cells, word_cells}

-- the cells of an object
abbrev pub cells_of : Shape → ℕ
cells_of shape = ref_cells shape + word_cells shape

-- how many pieces: one for each 252 cells, and at least one
abbrev pub pieces_of : ℕ → ℕ
pieces_of n = max 1 ((n + (PART_CELLS - 1)) / PART_CELLS)

-- how many spines an object has: only here the form is decided
abbrev pub spines_of : ℕ → ℕ
spines_of n = if nat_le n PART_CELLS then 0 else if nat_le n (PART_CELLS * PART_CELLS) then 1
    else (pieces_of n + (PART_CELLS - 1)) / PART_CELLS + 1

-- how many parts
abbrev pub parts_in : ℕ → ℕ
parts_in n = spines_of n + pieces_of n

-- the run of a part: `count` parts from part `first` on, or as many cells from cell `first` on
pub record PartContents : Type 0 where
  pub spine : Bool
  pub first : ℕ
  pub count : ℕ

-- to how many parts part 0 refers, with k pieces and s spines: all pieces, or the middle spines
abbrev pub heads_by : ℕ → ℕ → ℕ
heads_by k s = if nat_le s 1 then k else s - 1

-- the first part or cell that a part holds, in an object with s spines
abbrev pub first_by : ℕ → ℕ → ℕ
first_by s part = if nat_lt part s then (if part == 0 then 1 else s + PART_CELLS * (part - 1))
    else PART_CELLS * (part - s)

-- how much a part holds, of an object with n cells, k pieces and s spines
abbrev pub count_by : ℕ → ℕ → ℕ → ℕ → ℕ
count_by n k s part = if nat_lt part s
    then (if part == 0 then heads_by k s else min PART_CELLS (k - PART_CELLS * (part - 1)))
    else min PART_CELLS (n - PART_CELLS * (part - s))

-- the run of a part of an object with n cells
abbrev pub run_of : ℕ → ℕ → PartContents
run_of n part = record {
  spine = nat_lt part (spines_of n);
  first = first_by (spines_of n) part;
  count = count_by n (pieces_of n) (spines_of n) part;
}

-- how many cells a part has, references to parts included
abbrev pub part_cells : ℕ → ℕ → ℕ
part_cells n part = (run_of n part).count

-- how many words: each part has four words of header
abbrev pub part_words : ℕ → ℕ → ℕ
part_words n part = part_cells n part + 4

-- in which part cell i of an object with n cells stands
unfoldable pub part_in : ℕ → ℕ → ℕ
part_in n i = spines_of n + i / PART_CELLS

-- at which place in its part cell i of an object stands
unfoldable pub column_in : ℕ → ℕ
column_in i = i % PART_CELLS

-- which spine refers to a part other than part 0, of an object with k pieces and s spines
abbrev pub spine_by : ℕ → ℕ → ℕ → ℕ
spine_by k s part = if nat_le part (heads_by k s) then 0 else (part - s) / PART_CELLS + 1

-- in which cell of that spine, of an object with k pieces and s spines
abbrev pub spine_cell_by : ℕ → ℕ → ℕ → ℕ
spine_cell_by k s part = if nat_le part (heads_by k s) then part - 1 else (part - s) % PART_CELLS

-- which spine refers to a part, of an object with n cells
abbrev pub spine_of : ℕ → ℕ → ℕ
spine_of n part = spine_by (pieces_of n) (spines_of n) part

-- the cell of that spine that refers to the part
abbrev pub spine_cell_of : ℕ → ℕ → ℕ
spine_cell_of n part = spine_cell_by (pieces_of n) (spines_of n) part
