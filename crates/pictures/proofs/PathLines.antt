-- Lines of roots.
use Rattle.std.proofs.Common.{◌≡◌, ℕ, ◌+◌, ◌-◌, ◌*◌, ◌<◌, ◌≤◌, List, Ok, inr, arith}
use Rattle.graph_heap.specs.declared.command.Limits.{Limits}
use Rattle.graph_heap.specs.Graph.{root_cells}
use Rattle.graph_heap.specs.Effect.{static_at}
use Rattle.pictures.specs.PathText.{static_line, IsRootLine}

static_there : (l : Limits) (k place : ℕ) → k < l.statics → l.mutators * l.slots + k ≡ place → static_at l k ≡ Ok place
static_there l k place a e = grind arith

pub static_told : (l : Limits) (place : ℕ) (line : List ℕ) → l.mutators * l.slots ≤ place → place < root_cells l → line ≡ static_line (place - l.mutators * l.slots) → IsRootLine l place line
static_told l place line from below is =
    inr (place - l.mutators * l.slots, static_there l (place - l.mutators * l.slots) place (omega (arith, from, below)) (omega (arith, from)), is)
