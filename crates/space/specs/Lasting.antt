-- How many quanta a cycle lasts, by the events alone.
use Rattle.std.specs.Prelude.{◌≡◌, ℕ, ◌+◌, ◌<◌, Bool, true, List, [], ◌∷◌}
use Rattle.heap_model.specs.declared.phase.Phase.{Phase}
use Rattle.heap_model.specs.Event.{Event, Cycle_begun, Quantum_done}

-- From a cycle's beginning on, phases of a kind last at most `most` quanta, if n quanta were done since the last
-- beginning: a quantum that ends in such a phase has a lower number.
abbrev pub LastsAtMost : (Phase → Bool) → ℕ → ℕ → List Event → Type 0
LastsAtMost is_such most n [] = Unit {0}
LastsAtMost is_such most n (Cycle_begun ∷ es) = LastsAtMost is_such most 0 es
LastsAtMost is_such most n (Quantum_done budget units phase ∷ es) =
    (is_such phase ≡ true → n + 1 < most) × LastsAtMost is_such most (n + 1) es
LastsAtMost is_such most n (e ∷ es) = LastsAtMost is_such most n es
