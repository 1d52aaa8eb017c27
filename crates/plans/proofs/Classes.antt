-- Which size classes are among some; of which blocks are made.
use Rattle.std.proofs.Common.{◌≡◌, ℕ, ◌+◌, ◌-◌, false, ◌&&◌, ◌==◌, if◌then◌else◌, List, get_or, ap, ◌∙◌, arith}
use Rattle.std.specs.Prelude.{nat_lt, slice_index}
use Rattle.graph_heap.specs.Graph.{Object, no_object, object_of}
use Rattle.paced.specs.Rooms.{among}

-- those of the first n classes of which there are blocks
abbrev pub AreUsed : List ℕ → ℕ → List ℕ → Type 0
AreUsed blocks n used = (class : ℕ) → among used class ≡ (nat_lt class n && nat_lt 0 (slice_index blocks class))

-- the object after the first ones
pub object_next : (objects : List Object) (k : ℕ) → object_of objects (k + 1) ≡ get_or objects k no_object
unfolding object_of
object_next objects k =
    let e : (k + 1 == 0) ≡ false = not_first k in
    let f : k + 1 - 1 ≡ k = omega arith in
    ap (λ b. if b then no_object else get_or objects (k + 1 - 1) no_object) e ∙ ap (λ z. get_or objects z no_object) f
  where
    not_first : (k : ℕ) → (k + 1 == 0) ≡ false
    not_first k = grind arith
