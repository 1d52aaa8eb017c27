-- Two tables are one if nothing tells them apart.
use Rattle.std.proofs.Common.{◌≡◌, ◌≢◌, ℕ, ◌⊎◌, inl, inr, ⊎_elim, List, [], ◌∷◌, get_or, drop, ap}
use Rattle.std.proofs.lemmas.Bool.Decides.{eqb_tells}
use lib.Dec.{eqb}
use mathlib.Core.Bool.{true, false}
use Rattle.atomic_table.specs.Seated.{TableId}

abbrev IsOrNot : {X : Type 0} → X → X → Type 0
IsOrNot x y = (x ≡ y) ⊎ (x ≢ y)

number : (a b : ℕ) → IsOrNot a b
number a b = ⊎_elim (λ (t : (eqb a b ≡ true) × (a ≡ b)). inl t.1) (λ (t : (eqb a b ≡ false) × (a ≢ b)). inr t.1) (eqb_tells a b)

-- a place that is alike in one part, and in the rest
parts : {X Y : Type 0} (part : X → Y) (x y : X) → IsOrNot (part x) (part y) → ((part x ≡ part y) → IsOrNot x y) → IsOrNot x y
parts part x y (inl same) rest = rest same
parts part x y (inr apart) rest = inr (λ e. apart (ap part e))

numbers : (xs ys : List ℕ) → IsOrNot xs ys
numbers [] [] = inl (λ i. [])
numbers [] (y ∷ ys) = inr (λ e. let z : [] ≡ y ∷ ys = e in cc)
numbers (x ∷ xs) [] = inr (λ e. let z : x ∷ xs ≡ [] = e in cc)
numbers (x ∷ xs) (y ∷ ys) =
    parts (λ (l : List ℕ). get_or l 0 x) (x ∷ xs) (y ∷ ys) (number x y) (λ first.
    parts (λ (l : List ℕ). drop 1 l) (x ∷ xs) (y ∷ ys) (numbers xs ys) (λ rest. inl (λ i. first i ∷ rest i)))

pub one_table : (a b : TableId) → (a ≡ b) ⊎ (a ≢ b)
one_table a b =
    parts (λ (t : TableId). t.words) a b (number a.words b.words) (λ words.
    parts (λ (t : TableId). t.slots) a b (number a.slots b.slots) (λ slots.
    parts (λ (t : TableId). t.views_name) a b (number a.views_name b.views_name) (λ views.
    parts (λ (t : TableId). t.atom) a b (number a.atom b.atom) (λ atom.
    parts (λ (t : TableId). t.block) a b (number a.block b.block) (λ block.
    parts (λ (t : TableId). t.offset) a b (number a.offset b.offset) (λ offset.
    parts (λ (t : TableId). t.slot_names) a b (numbers a.slot_names b.slot_names) (λ names.
    inl (λ i. record { words = words i; slots = slots i; views_name = views i; atom = atom i; block = block i; offset = offset i; slot_names = names i }))))))))
