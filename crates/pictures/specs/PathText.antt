-- The report of why an object is alive: lines of text.
use Rattle.std.specs.Prelude.{◌≡◌, ℕ, ◌<◌, ◌⊎◌, Bool, true, false, List, ◌++◌, Ok, codes, decimal}
use Rattle.std.specs.List.{flat_map}
use Rattle.graph_heap.specs.declared.command.Limits.{Limits}
use Rattle.graph_heap.specs.Graph.{Graph, root_cells}
use Rattle.graph_heap.specs.Effect.{slot_at, static_at}
use Rattle.graph_heap.specs.declared.reachability.route.Step.{Step}
use Rattle.graph_heap.specs.declared.reachability.route.Route.{Route}
use Rattle.graph_heap.specs.declared.reachability.route.Standing.{Standing}
use Rattle.graph_heap.specs.declared.reachability.route.Standing.TheVariants.{Reached, Unreachable, NeverMade}
use Rattle.graph_heap.specs.Route.{StandsAs}

-- the line of a slot of a mutator
abbrev pub slot_line : ℕ → ℕ → List ℕ
slot_line m s = codes "slot " ++ (decimal m ++ (codes " " ++ (decimal s ++ codes "\n")))

-- the line of a static
abbrev pub static_line : ℕ → List ℕ
static_line k = codes "static " ++ (decimal k ++ codes "\n")

-- the line of the slot, or of the static, that stands at a place in the row of roots
abbrev pub IsRootLine : Limits → ℕ → List ℕ → Type 0
IsRootLine l place line =
    ((m : ℕ) × (s : ℕ) × (slot_at l m s ≡ Ok place) × (line ≡ slot_line m s))
    ⊎ ((k : ℕ) × (static_at l k ≡ Ok place) × (line ≡ static_line k))

-- the line of a reference cell
abbrev pub step_line : Step → List ℕ
step_line step = codes "object " ++ (decimal step.object ++ (codes " cell " ++ (decimal step.cell ++ codes "\n")))

-- the lines of a path: that of its root, and one for each of its cells
abbrev pub IsPathText : Limits → Route → List ℕ → Type 0
IsPathText l r text = (line : List ℕ) × IsRootLine l r.root line × (text ≡ line ++ flat_map step_line r.steps.items)

-- a path begins with an existing root
abbrev pub IsRooted : Limits → Standing → Type 0
IsRooted l (Reached r) = r.root < root_cells l
IsRooted l standing = Unit {0}

-- the report of an object, some of whose blocks are allocated or not: the lines of the path to it, or one line
abbrev pub TellsStanding : Limits → Bool → Standing → List ℕ → Type 0
TellsStanding l allocated (Reached r) text = IsPathText l r text
TellsStanding l true Unreachable text = text ≡ codes "unreachable held\n"
TellsStanding l false Unreachable text = text ≡ codes "unreachable freed\n"
TellsStanding l allocated NeverMade text = text ≡ codes "never made\n"

-- the report of the object of an identity
abbrev pub PathTold : Graph → ℕ → Bool → List ℕ → Type 0
PathTold g id allocated text = (standing : Standing) × StandsAs g id standing
    × TellsStanding g.limits allocated standing text
