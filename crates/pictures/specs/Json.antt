-- Tables of numbers, in JSON: a table is a list of rows, of which the first has the names of the columns.
use Rattle.std.specs.Prelude.{ℕ, List, ◌++◌, Option, Some, None, codes, decimal}
use Rattle.std.specs.List.{flat_map}

-- a number, if it is known
abbrev pub cell_text : Option ℕ → List ℕ
cell_text None = codes "null"
cell_text (Some n) = decimal n

-- a row of numbers behind another row, on a line of its own
abbrev pub row_text : ℕ → List (Option ℕ) → List ℕ
row_text first others =
    (codes ",\n[" ++ decimal first) ++ (flat_map (λ n. codes "," ++ cell_text n) others ++ codes "]")

-- a table: its name and the names of its columns, and the rows
abbrev pub table_text : {A : Type 0} → List ℕ → (A → List ℕ) → List A → List ℕ
table_text head row rows = (head ++ flat_map row rows) ++ codes "],\n"
