-- The words that an object takes.
use Rattle.std.specs.Prelude.{ℕ, ◌==◌, if◌then◌else◌}
use Rattle.graph_heap.specs.declared.command.Shape.TheVariants.{Plain, RefArray, WordArray}
use Rattle.paced.specs.Pacing.{shape_words}

-- The words of the blocks that an object takes, by the kind and the cells that C gives. It is 0 if no object has the shape, or there is
-- no such kind.
abbrev pub words_by : ℕ → ℕ → ℕ → ℕ
words_by kind refs words = if kind == 0 then shape_words (Plain refs words)
    else (if kind == 1 then shape_words (RefArray refs)
    else (if kind == 2 then shape_words (WordArray words) else 0))
