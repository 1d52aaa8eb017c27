-- The sums over objects so far, by the roots that own them.
use Rattle.std.specs.Prelude.{◌≡◌, ℕ, ◌-◌, ◌*◌, ◌^◌, ◌<◌, ◌≤◌, nat_eq, Bool, List, length, slice_index_or}
use Rattle.graph_heap.specs.Graph.{Graph}
use Rattle.inspector.specs.declared.by_root.owning.Owned.{Owned}
use Rattle.inspector.specs.declared.by_root.counting.Holding.{Holding}
use Rattle.inspector.specs.declared.by_root.counting.Totals.{Totals}
use Rattle.inspector.specs.ByRoot.{any_root, held_by}

-- no object
abbrev pub no_holding : Holding
no_holding = record { objects = 0; words = 0 }

-- the objects of the root at a place
abbrev pub holding_at : List Holding → ℕ → Holding
holding_at each root = slice_index_or each root no_holding

-- this many objects or fewer
abbrev pub IsOfObjects : ℕ → Holding → Type 0
IsOfObjects most h = (h.objects ≤ most) × (h.words ≤ most * (2 ^ 64 - 1))

-- these objects are counted, for each of this many roots and for all roots
pub record AreTotals (g : Graph) (roots : ℕ) (owned : List Owned) (t : Totals) : Type 0 where
  pub long : length t.each.items ≡ roots
  pub each : (root : ℕ) → root < roots → holding_at t.each.items root ≡ held_by g (nat_eq root) owned
  pub all : t.all ≡ held_by g any_root owned
  pub few : (these : ℕ → Bool) → IsOfObjects (length owned) (held_by g these owned)
