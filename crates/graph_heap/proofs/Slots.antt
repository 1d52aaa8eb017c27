-- The names of slots, in their order.
use Rattle.std.proofs.Common.{◌≡◌, ℕ, zero, suc, ◌+◌, ◌-◌, ◌*◌, ◌<◌, ◌≤◌, ◌⊎◌, inl, inr, List, [], ◌∷◌, ◌++◌, length, length-append, append-nil, append_assoc, map, get_or, replicate, ap, ◌∙◌, sym, subst, refl, arith}
use Rattle.std.specs.Prelude.{slice_get, Some}
use Rattle.std.specs.List.{AllByRecursion, range_with_len}
use Rattle.std.specs.List.Sorted.{IsStrictlySortedBy}
use Rattle.std.proofs.Common.{Greater}
use Rattle.std.specs.Ordering.{nat_cmp, ordering_then}
use Rattle.std.specs.Cmp.{IsTotalOrder}
use Rattle.std.specs.Map.{keys_of, values_of}
use Rattle.std.specs.BTreeMap.{insert_entry}
use Rattle.std.proofs.lemmas.Cmp.{nat_cmp_total, on_total, then_total, tied_itself}
use Rattle.std.proofs.lemmas.List.{get_or_append_left, get_or-append_right, map-append}
use Rattle.std.proofs.lemmas.List.FromFn.{length-map-range_with_len, get_or-map-range_with_len, map-range_with_len_more}
use Rattle.std.proofs.lemmas.Option.{slice_get-get_or}
use Rattle.graph_heap.specs.Roots.{slot_order, slots_of, slots_below, null_slots}
use Rattle.graph_heap.proofs.Entries.{all_both, insert_end, sorted_end}
use Rattle.graph_heap.proofs.Numbered.{greater}

below_or : (i m : ℕ) → i ≤ m → (i < m) ⊎ (i ≡ m)
below_or i m l = grind arith

pub slot_total : IsTotalOrder slot_order
slot_total = then_total (on_total (λ (t : ℕ × ℕ). t.0) nat_cmp_total) (on_total (λ (t : ℕ × ℕ). t.1) nat_cmp_total)

-- ---- how many there are, and where one stands
pub length_slots : (m n : ℕ) → length (slots_below m n) ≡ m * n
length_slots zero n = grind arith
length_slots (suc m) n =
    let l = length-append (slots_below m n) (slots_of m n) in
    let a = length_slots m n in
    let b : length (slots_of m n) ≡ n = length-map-range_with_len (λ s. (m, s)) 0 n in
    let next : suc m * n ≡ m * n + n = grind arith in
    omega (arith, l, a, b, next)

-- a mutator has slots, if there is one
pub some_slots : (m n cell : ℕ) → cell < m * n → 0 < n
some_slots m zero cell l = absurd (let none : m * 0 ≡ 0 = grind arith in omega (arith, l, none))
some_slots m (suc n) cell l = omega arith

-- a slot stands among the slots
pub in_row : (m n i s : ℕ) → i < m → s < n → i * n + s < m * n
in_row zero n i s l h = absurd (omega (arith, l))
in_row (suc m) n i s l h =
    let next : suc m * n ≡ m * n + n = grind arith in
    elim (below_or i m (omega (arith, l))) [
      | inl b ↦ (let less = in_row m n i s b h in omega (arith, less, next))
      | inr e ↦ (let same : i * n ≡ m * n = ap (λ k. k * n) e in omega (arith, same, next, h))
    ]

-- at its own place
place_or : (m n i s : ℕ) (d : ℕ × ℕ) → i < m → s < n → get_or (slots_below m n) (i * n + s) d ≡ (i, s)
place_or zero n i s d l h = absurd (omega (arith, l))
place_or (suc m) n i s d l h = elim (below_or i m (omega (arith, l))) [
  | inl b ↦ (let long = length_slots m n in let less = in_row m n i s b h in
      get_or_append_left (slots_below m n) (slots_of m n) d (i * n + s) (omega (arith, long, less)) ∙ place_or m n i s d b h)
  | inr e ↦ (let same : i * n ≡ m * n = ap (λ k. k * n) e in let there : i * n + s - m * n ≡ s = omega (arith, same) in
      get_or-append_right (slots_below m n) (slots_of m n) (m * n) (i * n + s) d (length_slots m n) (omega (arith, same))
      ∙ ap (λ j. get_or (slots_of m n) j d) there ∙ get_or-map-range_with_len (λ j. (m, j)) 0 n s s d h (omega arith) ∙ ap (λ j. (j, s)) (sym e))
]

pub slot_place : (m n i s : ℕ) → i < m → s < n → slice_get (slots_below m n) (i * n + s) ≡ Some (i, s)
slot_place m n i s l h =
    let long = length_slots m n in
    let less = in_row m n i s l h in
    slice_get-get_or (slots_below m n) (i * n + s) (0, 0) (omega (arith, long, less)) ∙ ap Some (place_or m n i s (0, 0) l h)

-- ---- their order
abbrev AreBefore : ℕ → ℕ → List (ℕ × ℕ) → Type 0
AreBefore m s names = AllByRecursion (λ name. slot_order (m, s) name ≡ Greater) names

all_range : {Y : Type 0} (P : Y → Type 0) (f : ℕ → Y) (a n : ℕ) → ((j : ℕ) → a ≤ j → j < a + n → P (f j)) → AllByRecursion P (map f (range_with_len a n))
all_range P f a zero each = tt
all_range P f a (suc n) each = (each a (omega arith) (omega arith), all_range P f (a + 1) n (λ j l h. each j (omega (arith, l)) (omega (arith, h))))

-- a slot stands behind those of lower mutators, and behind the lower ones of its own
before_lower : (m s i n : ℕ) → i ≤ m → AreBefore m s (slots_below i n)
before_lower m s zero n l = tt
before_lower m s (suc i) n l =
    all_both (λ name. slot_order (m, s) name ≡ Greater) (slots_below i n) (slots_of i n) (before_lower m s i n (omega (arith, l)))
    (all_range (λ name. slot_order (m, s) name ≡ Greater) (λ j. (i, j)) 0 n (λ j a b. ap (λ r. ordering_then r (nat_cmp s j)) (greater m i (omega (arith, l)))))

before_own : (m s : ℕ) → AreBefore m s (slots_of m s)
before_own m s =
    all_range (λ name. slot_order (m, s) name ≡ Greater) (λ j. (m, j)) 0 s
    (λ j a b. ap (λ r. ordering_then r (nat_cmp s j)) (tied_itself nat_cmp_total m) ∙ greater s j (omega (arith, b)))

before_next : (m n s : ℕ) → AreBefore m s (slots_below m n ++ slots_of m s)
before_next m n s = all_both (λ name. slot_order (m, s) name ≡ Greater) (slots_below m n) (slots_of m s) (before_lower m s m n (omega arith)) (before_own m s)

-- A mutator has one slot more.
more_slots : (m n s : ℕ) → slots_below m n ++ slots_of m (s + 1) ≡ (slots_below m n ++ slots_of m s) ++ (m, s) ∷ []
more_slots m n s = ap (λ xs. slots_below m n ++ xs) (map-range_with_len_more (λ j. (m, j)) 0 s s (omega arith)) ∙ sym (append_assoc (slots_below m n) (slots_of m s) ((m, s) ∷ []))

sorted_more : (m n s : ℕ) → IsStrictlySortedBy slot_order (slots_below m n) → IsStrictlySortedBy slot_order (slots_below m n ++ slots_of m s)
sorted_more m n zero h = subst (IsStrictlySortedBy slot_order) (sym (append-nil (slots_below m n))) h
sorted_more m n (suc s) h =
    let names = slots_below m n ++ slots_of m s in
    let next : s + 1 ≡ suc s = omega arith in
    subst (λ k. IsStrictlySortedBy slot_order (slots_below m n ++ slots_of m k)) next
    (subst (IsStrictlySortedBy slot_order) (sym (more_slots m n s)) (sorted_end slot_order slot_total names (m, s) (sorted_more m n s h) (before_next m n s)))

pub sorted_slots : (m n : ℕ) → IsStrictlySortedBy slot_order (slots_below m n)
unfolding IsStrictlySortedBy
sorted_slots zero n = tt
sorted_slots (suc m) n = sorted_more m n n (sorted_slots m n)

-- ---- slots that hold null
pub null_keys : (names : List (ℕ × ℕ)) → keys_of (null_slots names) ≡ names
null_keys [] = refl
null_keys (x ∷ names) = ap (λ xs. x ∷ xs) (null_keys names)

pub null_values : (names : List (ℕ × ℕ)) → values_of (null_slots names) ≡ replicate (length names) 0
null_values [] = refl
null_values (x ∷ names) = ap (λ xs. 0 ∷ xs) (null_values names)

-- One slot more holds null.
pub next_slot : (m n s : ℕ) → insert_entry slot_order (null_slots (slots_below m n ++ slots_of m s)) (m, s) 0 ≡ null_slots (slots_below m n ++ slots_of m (s + 1))
next_slot m n s =
    let names = slots_below m n ++ slots_of m s in
    insert_end slot_order slot_total (null_slots names) (m, s) 0 (subst (AreBefore m s) (sym (null_keys names)) (before_next m n s))
    ∙ sym (map-append (λ name. (name, 0)) names ((m, s) ∷ [])) ∙ ap null_slots (sym (more_slots m n s))
