-- Documents in lines.
use Rattle.std.specs.Prelude.{ℕ, ◌+◌, List, [], ◌∷◌, ◌++◌, map, Option, None, Some}
use Rattle.trace.specs.Lines.{text_of}

-- the drawing of each item of a list by its place, from one on
abbrev pub each_from : {A B : Type 0} → (ℕ → A → List B) → ℕ → List A → List B
each_from drawn place [] = []
each_from drawn place (x ∷ later) = drawn place x ++ each_from drawn (place + 1) later

-- those of some items that are there
abbrev pub present : {A : Type 0} → List (Option A) → List A
present [] = []
present (None ∷ later) = present later
present (Some x ∷ later) = x ∷ present later

-- the text of items that are a line each, with LF (byte 10) after it
unfoldable pub lines_text : {A : Type 0} → (A → List ℕ) → List A → List ℕ
lines_text line items = text_of (map line items)
