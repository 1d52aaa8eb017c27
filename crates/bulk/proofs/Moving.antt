-- The commands that move a slot, by whether it is moved into itself.
use Rattle.std.proofs.Common.{◌≡◌, ◌⊎◌, inl, inr, ℕ, Bool, true, false, [], ◌∷◌, ◌==◌, if◌then◌else◌, ap}
use Rattle.std.specs.Prelude.{◌≢◌}
use Rattle.std.proofs.lemmas.Bool.Decides.{eqb_tells}
use Rattle.graph_heap.specs.declared.command.Command.TheVariants as commands
use Rattle.bulk.specs.Lists.{moves}

by_test : (dst src : ℕ) (b : Bool) → (dst == src) ≡ b → moves dst src ≡ commands.Copy dst src ∷ (if b then [] else commands.Clear src ∷ [])
by_test dst src b e = ap (λ (t : Bool). commands.Copy dst src ∷ (if t then [] else commands.Clear src ∷ [])) e

is_same : (a b : ℕ) → a ≡ b → ((a == b) ≡ true × (a ≡ b)) ⊎ ((a == b) ≡ false × (a ≢ b)) → (a == b) ≡ true
is_same a b e (inl t) = t.0
is_same a b e (inr t) = absurd (t.1 e)

is_other : (a b : ℕ) → a ≢ b → ((a == b) ≡ true × (a ≡ b)) ⊎ ((a == b) ≡ false × (a ≢ b)) → (a == b) ≡ false
is_other a b n (inl t) = absurd (n t.1)
is_other a b n (inr t) = t.0

pub moves_itself : (dst src : ℕ) → dst ≡ src → moves dst src ≡ commands.Copy dst src ∷ []
moves_itself dst src e = by_test dst src true (is_same dst src e (eqb_tells dst src))

pub moves_other : (dst src : ℕ) → dst ≢ src → moves dst src ≡ commands.Copy dst src ∷ commands.Clear src ∷ []
moves_other dst src n = by_test dst src false (is_other dst src n (eqb_tells dst src))
