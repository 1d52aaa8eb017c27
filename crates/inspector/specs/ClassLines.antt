-- Lines of text, class after class.
use Rattle.std.specs.Prelude.{ℕ, zero, suc, List, [], ◌++◌}

-- the lines of the first classes
unfoldable pub class_lines : (ℕ → List ℕ) → ℕ → List ℕ
class_lines line zero = []
class_lines line (suc class) = class_lines line class ++ line class
