-- Texts as C reads them: bytes with 0 after them.
use Rattle.std.specs.Prelude.{ℕ, List, [], ◌∷◌, ◌++◌, length, take, drop}

-- what stands in a room for bytes once a text was written there: as much of the text as fits before a 0
abbrev pub with_text : List ℕ → List ℕ → List ℕ
with_text [] text = []
with_text (x ∷ room) text = take (length room) text ++ 0 ∷ drop (length text) room
