-- The statements of a drawn graph, as text: DOT, the language of Graphviz. Names and values stand in quotes, and none
-- has a quote within.
use Rattle.std.specs.Prelude.{ℕ, List, ◌++◌, codes, decimal}
use Rattle.graph_heap.specs.declared.command.Shape.{Shape}
use Rattle.graph_heap.specs.declared.command.Shape.TheVariants.{Plain, RefArray, WordArray}
use Rattle.inspector.specs.declared.by_root.places.Root.{Root}
use Rattle.inspector.specs.Roots.{root_name}
use Rattle.pictures.specs.declared.graph.statement.Statement.{Statement}
use Rattle.pictures.specs.declared.graph.statement.Statement.TheVariants.{Open, LeftToRight, Box, Holds, Object, Cell, LeftOut, Close}
use Rattle.pictures.specs.Lines.{lines_text}

-- the box of a root
abbrev pub box_line : Root → List ℕ
box_line root = codes "    \"" ++ root_name root ++ codes "\" [shape=\"box\"];"

-- a root, and the object that it holds
abbrev pub holds_line : Root → ℕ → List ℕ
holds_line root id = codes "    \"" ++ root_name root ++ codes "\" -> \"object " ++ decimal id ++ codes "\";"

-- a shape in words
abbrev pub shape_words : Shape → List ℕ
shape_words (Plain refs words) = codes "plain, references " ++ decimal refs ++ codes ", words " ++ decimal words
shape_words (RefArray n) = codes "array, references " ++ decimal n
shape_words (WordArray n) = codes "array, words " ++ decimal n

-- an object: its identity, and below it its shape
abbrev pub object_line : ℕ → Shape → List ℕ
object_line id shape =
    codes "    \"object " ++ decimal id ++ codes "\" [label=\"object " ++ decimal id ++ codes "\\n" ++ shape_words shape
    ++ codes "\"];"

-- a reference cell of an object, and the object that it refers to
abbrev pub cell_line : ℕ → ℕ → ℕ → List ℕ
cell_line from cell to =
    codes "    \"object " ++ decimal from ++ codes "\" -> \"object " ++ decimal to ++ codes "\" [label=\""
    ++ decimal cell ++ codes "\"];"

-- how many objects aren't drawn
abbrev pub left_out_line : ℕ → List ℕ
left_out_line n = codes "    \"left out\" [shape=\"note\", label=\"objects left out: " ++ decimal n ++ codes "\"];"

-- a statement as a line of text
abbrev pub statement_line : Statement → List ℕ
statement_line Open = codes "digraph \"graph heap\" {"
statement_line LeftToRight = codes "    rankdir=\"LR\";"
statement_line (Box root) = box_line root
statement_line (Holds root id) = holds_line root id
statement_line (Object id shape) = object_line id shape
statement_line (Cell from cell to) = cell_line from cell to
statement_line (LeftOut n) = left_out_line n
statement_line Close = codes "}"

-- the text of statements: each is a line, with LF (byte 10) after it
abbrev pub dot_text : List Statement → List ℕ
dot_text = lines_text statement_line
