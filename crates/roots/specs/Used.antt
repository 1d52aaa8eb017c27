-- The root cells that are in use.
use Rattle.std.specs.Prelude.{ℕ, Bool, not, ◌==◌, List, count_by}

-- a cell that isn't null
abbrev pub is_used : ℕ → Bool
is_used reference = not (reference == 0)

-- how many they are
abbrev pub used_in : List ℕ → ℕ
used_in cells = count_by is_used cells
