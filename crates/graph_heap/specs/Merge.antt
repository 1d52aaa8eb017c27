-- A history that is a merge of scripts: the commands of each mutator are its script, in the same order.
use Rattle.std.specs.Prelude.{ℕ, zero, suc, ◌≡◌, ◌+◌, List, [], ◌∷◌, ◌++◌, map, nat_eq, slice_index_or, if◌then◌else◌}
use Rattle.graph_heap.specs.declared.command.Command.{Command}
use Rattle.graph_heap.specs.declared.command.Entry.{Entry}

-- the numbers below n, in rising order
abbrev pub upto : ℕ → List ℕ
upto zero = []
upto (suc n) = upto n ++ n ∷ []

-- the entries of mutator m, each with its place, in a part of a history that begins at this place
abbrev pub mine_from : ℕ → List Entry → ℕ → List (ℕ × Entry)
mine_from place [] m = []
mine_from place (e ∷ es) m = if nat_eq e.mutator m then (place, e) ∷ mine_from (place + 1) es m
    else mine_from (place + 1) es m

-- the entries of mutator m in a history, each with its place
abbrev pub mine : List Entry → ℕ → List (ℕ × Entry)
mine h m = mine_from 0 h m

-- the commands of entries with their places, in order
abbrev pub commands_of : List (ℕ × Entry) → List Command
commands_of es = map (λ e. e.1.command) es

-- the history is a merge of the scripts: the commands of each mutator are its script, in the same order
abbrev pub IsMerge : List Entry → List (List Command) → Type 0
IsMerge h scripts = (m : ℕ) → commands_of (mine h m) ≡ slice_index_or scripts m []
