use Rattle.std.proofs.Common.{◌≡◌, ◌++◌, take, string_bytes, codes, decimal}
use Rattle.std.specs.List.{flat_map}
use Rattle.pictures.specs.Json.{cell_text}
use Rattle.pictures.proofs.json.row.Given as goal

-- the numbers so far
abbrev pub invariant-loop-number : goal.invariant-loop-number
invariant-loop-number l =
    string_bytes l.text ≡ (codes ",\n[" ++ decimal l.fn.first) ++ flat_map (λ n. codes "," ++ cell_text n) (take l.number-index l.others)
