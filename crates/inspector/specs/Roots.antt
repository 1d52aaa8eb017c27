-- The names of roots.
use Rattle.std.specs.Prelude.{ℕ, ◌-◌, ◌*◌, ◌/◌, ◌%◌, nat_lt, if◌then◌else◌, List, ◌++◌, codes, decimal}
use Rattle.graph_heap.specs.declared.command.Limits.{Limits}
use Rattle.inspector.specs.declared.by_root.places.Root.{Root}
use Rattle.inspector.specs.declared.by_root.places.Root.TheVariants.{Slot, Static}

-- the root at a place of the row of roots: the slots of each mutator, and then the statics
abbrev pub root_at : Limits → ℕ → Root
root_at l place =
    if nat_lt place (l.mutators * l.slots) then Slot (place / l.slots) (place % l.slots)
    else Static (place - l.mutators * l.slots)

-- the name of a root
abbrev pub root_name : Root → List ℕ
root_name (Slot mutator slot) = codes "slot " ++ decimal mutator ++ codes " " ++ decimal slot
root_name (Static k) = codes "static " ++ decimal k
