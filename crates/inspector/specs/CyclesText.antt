-- The text of a log of cycles: a header line, and a line for each cycle.
use Rattle.std.specs.Prelude.{ℕ, ◌-◌, List, [], ◌∷◌, ◌++◌, length, replicate, Option, Some, None, option_map, codes, decimal}
use Rattle.std.specs.List.{flat_map}
use Rattle.inspector.specs.declared.cycles.cycle.Cycle.{Cycle}
use Rattle.inspector.specs.declared.cycles.text.Layout.{Layout}
use Rattle.inspector.specs.declared.cycles.text.Layout.TheVariants.{Columns, Commas}

-- the header line
abbrev pub header : Layout → List ℕ
header Columns =
    codes "    line   quanta    units  longest    freed   blocks     kept    moved   before    after     made\n"
header Commas = codes "line,quanta,units,longest,freed,blocks,kept,moved,before,after,made\n"

-- a text with blanks (byte 32) before it, so that it is at least 8 bytes long
abbrev pub in_column : List ℕ → List ℕ
in_column text = replicate (8 - length text) 32 ++ text

-- the text of a figure, and of one that isn't known yet
abbrev pub figure : Layout → Option ℕ → List ℕ
figure Columns (Some n) = in_column (decimal n)
figure Columns None = in_column (codes "-")
figure Commas (Some n) = decimal n
figure Commas None = []

-- the separator of two figures
abbrev pub separator : Layout → List ℕ
separator Columns = codes " "
separator Commas = codes ","

-- the figures of a cycle without its line, in their order
abbrev pub figures : Cycle → List (Option ℕ)
figures c =
    Some c.quanta ∷ Some c.units ∷ Some c.longest
    ∷ option_map (λ s. s.freed) c.sweep ∷ option_map (λ s. s.blocks) c.sweep ∷ option_map (λ s. s.kept) c.sweep
    ∷ c.moved
    ∷ option_map (λ s. s.free_before) c.sweep ∷ option_map (λ s. s.free_after) c.sweep
    ∷ option_map (λ s. s.made) c.sweep
    ∷ []

-- the line of a cycle, with LF (byte 10) after it
abbrev pub cycle_line : Layout → Cycle → List ℕ
cycle_line layout c =
    (figure layout (Some c.line) ++ flat_map (λ f. separator layout ++ figure layout f) (figures c)) ++ 10 ∷ []

-- the text of cycles
abbrev pub cycles_told : Layout → List Cycle → List ℕ
cycles_told layout cycles = header layout ++ flat_map (cycle_line layout) cycles
