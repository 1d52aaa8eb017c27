-- The roots of the slow heap, as the row of the graph heap's.
use Rattle.std.specs.Prelude.{◌≡◌, ℕ, zero, suc, List, [], ◌++◌, map, length, slice_index, Result, Ok}
use Rattle.std.specs.List.{range_with_len}
use Rattle.std.specs.BTreeMap.{keys, values}
use Rattle.std.specs.declared.cmp.Ordering.{Ordering}
use Rattle.std.specs.Ordering.{nat_cmp, ordering_then}
use Rattle.graph_heap.specs.declared.command.Limits.{Limits}
use Rattle.graph_heap.specs.declared.command.Refusal.{Refusal}
use Rattle.graph_heap.specs.declared.reference.roots.Roots.TheInside.{Inside}
use Rattle.graph_heap.specs.Effect.{◌>>=◌}

-- slots are named by a mutator and a number; the lower mutator comes first, and of its slots the lower number
abbrev pub slot_order : ℕ × ℕ → ℕ × ℕ → Ordering
slot_order a b = ordering_then (nat_cmp a.0 b.0) (nat_cmp a.1 b.1)

-- the first slots of a mutator
abbrev pub slots_of : ℕ → ℕ → List (ℕ × ℕ)
slots_of m n = map (λ s. (m, s)) (range_with_len 0 n)

-- the first slots of each mutator below a number
abbrev pub slots_below : ℕ → ℕ → List (ℕ × ℕ)
slots_below zero n = []
slots_below (suc m) n = slots_below m n ++ slots_of m n

-- slots that hold null
abbrev pub null_slots : List (ℕ × ℕ) → List ((ℕ × ℕ) × ℕ)
null_slots names = map (λ name. (name, 0)) names

-- the roots: their limits, and the identity in each, in one row
pub record Row : Type 0 where
  pub limits : Limits
  pub cells : List ℕ

-- the slots in their order, and then the statics
abbrev pub row_in : Inside → Row
row_in a = record { limits = a.limits; cells = values a.slots ++ a.statics.items }

-- there are just the slots and the statics within the limits
pub record IsWhole (a : Inside) : Type 0 where
  pub slots : keys a.slots ≡ slots_below a.limits.mutators a.limits.slots
  pub statics : length a.statics.items ≡ a.limits.statics

-- the identity in the root at a place of the row
abbrev pub held_at : Row → Result ℕ Refusal → Result ℕ Refusal
held_at r at = at >>= λ i. Ok (slice_index r.cells i)
