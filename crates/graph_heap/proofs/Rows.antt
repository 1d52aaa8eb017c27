-- The row of roots: what slots and statics hold, and what is written there.
use Rattle.std.proofs.Common.{◌≡◌, ℕ, zero, suc, replicate, ◌∷◌, ◌+◌, ◌-◌, ◌*◌, ◌<◌, ◌≤◌, List, ◌++◌, length, length-append, Some, Ok, ap, ◌∙◌, sym, subst, arith}
use Rattle.std.specs.Prelude.{slice_get, slice_set, slice_index}
use Rattle.std.specs.List.Sorted.{IsStrictlySortedBy}
use Rattle.std.specs.Map.{keys_of, values_of, lookup, set_value}
use Rattle.std.specs.BTreeMap.{is_at}
use Rattle.std.proofs.lemmas.List.{get_or_append_left, get_or-append_right, set-append_left, set-append_right}
use Rattle.std.proofs.lemmas.Map.Entries.{length-keys_of, length-values_of}
use Rattle.std.proofs.lemmas.Option.{slice_get-get_or}
use Rattle.graph_heap.specs.declared.command.Limits.{Limits}
use Rattle.graph_heap.specs.Graph.{root_cells}
use Rattle.graph_heap.specs.Effect.{slot_at, static_at}
use Rattle.graph_heap.specs.Roots.{slot_order, slots_below, null_slots}
use Rattle.graph_heap.proofs.Entries.{lookup_place, set_place}
use Rattle.graph_heap.proofs.Slots.{slot_total, null_values, length_slots, in_row, slot_place, sorted_slots}

-- a place in the row is that of a slot, or of a static
pub slot_known : (l : Limits) (m s i : ℕ) → Ok i ≡ slot_at l m s → (m < l.mutators) × (s < l.slots) × (i ≡ m * l.slots + s)
slot_known l m s i e = (grind (arith, e), grind (arith, e), grind (arith, e))

pub static_known : (l : Limits) (k i : ℕ) → Ok i ≡ static_at l k → (k < l.statics) × (i ≡ l.mutators * l.slots + k)
static_known l k i e = (grind (arith, e), grind (arith, e))

-- At first all cells hold null.
pub null_row : (l : Limits) → values_of (null_slots (slots_below l.mutators l.slots)) ++ replicate {A = ℕ} l.statics 0 ≡ replicate {A = ℕ} (root_cells l) 0
null_row l =
    let names = slots_below l.mutators l.slots in
    ap (λ (vs : List ℕ). vs ++ replicate {A = ℕ} l.statics 0) (null_values names) ∙ nulls (length names) l.statics ∙ ap (λ n. replicate {A = ℕ} (n + l.statics) 0) (length_slots l.mutators l.slots)
  where
    nulls : (m n : ℕ) → replicate {A = ℕ} m 0 ++ replicate n 0 ≡ replicate (m + n) 0
    nulls zero n = let same : n ≡ 0 + n = omega arith in ap (λ k. replicate {A = ℕ} k 0) same
    nulls (suc m) n =
        let next : suc (m + n) ≡ suc m + n = omega arith in
        ap (λ (xs : List ℕ). 0 ∷ xs) (nulls m n) ∙ ap (λ k. replicate {A = ℕ} k 0) next

module _ (l : Limits) (es : List ((ℕ × ℕ) × ℕ)) (ss : List ℕ) (names : keys_of es ≡ slots_below l.mutators l.slots) where
  -- how many there are
  pub slot_count : length es ≡ l.mutators * l.slots
  slot_count = sym (length-keys_of es) ∙ ap length names ∙ length_slots l.mutators l.slots

  value_count : length (values_of es) ≡ l.mutators * l.slots
  value_count = length-values_of es ∙ slot_count

  pub row_count : length ss ≡ l.statics → length (values_of es ++ ss) ≡ root_cells l
  row_count statics = let a = length-append (values_of es) ss in let b = value_count in omega (arith, a, b, statics)

  ordered : IsStrictlySortedBy slot_order (keys_of es)
  ordered = subst (IsStrictlySortedBy slot_order) (sym names) (sorted_slots l.mutators l.slots)

  module _ (m s : ℕ) (low : m < l.mutators) (few : s < l.slots) where
    named : slice_get (keys_of es) (m * l.slots + s) ≡ Some (m, s)
    named = ap (λ ks. slice_get ks (m * l.slots + s)) names ∙ slot_place l.mutators l.slots m s low few

    within : m * l.slots + s < length (values_of es)
    within = let a = in_row l.mutators l.slots m s low few in let b = value_count in omega (arith, a, b)

    -- what a slot holds, and what is written there
    pub slot_held : lookup (is_at (slot_order (m, s))) es ≡ Some (slice_index (values_of es ++ ss) (m * l.slots + s))
    slot_held =
        lookup_place slot_order slot_total es (m * l.slots + s) (m, s) ordered named ∙ slice_get-get_or (values_of es) (m * l.slots + s) 0 within
        ∙ ap Some (sym (get_or_append_left (values_of es) ss 0 (m * l.slots + s) within))

    pub slot_written : (w : ℕ) → values_of (set_value (is_at (slot_order (m, s))) es w) ++ ss ≡ slice_set (values_of es ++ ss) (m * l.slots + s) w
    slot_written w =
        ap (λ vs. vs ++ ss) (set_place slot_order slot_total es (m * l.slots + s) (m, s) w ordered named) ∙ sym (set-append_left (values_of es) ss (m * l.slots + s) w within)

  -- the same of statics
  pub static_held : (k : ℕ) → slice_index ss k ≡ slice_index (values_of es ++ ss) (l.mutators * l.slots + k)
  static_held k =
      let there : l.mutators * l.slots + k - l.mutators * l.slots ≡ k = omega arith in
      sym (get_or-append_right (values_of es) ss (l.mutators * l.slots) (l.mutators * l.slots + k) 0 value_count (omega arith) ∙ ap (slice_index ss) there)

  pub static_written : (cell w : ℕ) → length es ≤ cell → values_of es ++ slice_set ss (cell - length es) w ≡ slice_set (values_of es ++ ss) cell w
  static_written cell w past = sym (set-append_right (values_of es) ss (length es) cell w (length-values_of es) past)
