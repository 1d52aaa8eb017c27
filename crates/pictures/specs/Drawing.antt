-- A drawing of a graph heap, by the objects that it shows.
use Rattle.std.specs.Prelude.{ℕ, List}
use Rattle.pictures.specs.declared.graph.drawing.Drawing.{Drawing}
use Rattle.pictures.specs.GraphDrawing.{shown_of}

-- the identities of the objects that it shows
abbrev pub shown_in : Drawing → List ℕ
shown_in d = shown_of d.most d.search.now.found
