-- Reports of the number of lines read.
use Rattle.std.specs.Prelude.{ℕ, nat_eq, List, ◌++◌, codes, decimal}
use Rattle.std.specs.List.{count_by}

-- the number of lines that end in these bytes
abbrev pub line_ends : List ℕ → ℕ
line_ends bytes = count_by (λ byte. nat_eq byte 10) bytes

-- the line that reports this number
abbrev pub progress_line : ℕ → List ℕ
progress_line lines = codes "metronome: " ++ (decimal lines ++ codes " lines read\n")
