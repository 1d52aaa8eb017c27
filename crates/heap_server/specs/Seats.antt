-- The seats of a server.
use Rattle.std.specs.Prelude.{ℕ, zero, suc, List, [], ◌∷◌, ◌++◌, map}
use Rattle.heap_server.specs.Views.{SeatView}

-- a seat for each of n mutators, which has made no call and seen nothing
abbrev pub new_seats : ℕ → List SeatView
new_seats zero = []
new_seats (suc n) = new_seats n ++ record { mutator = n; calls = 0; seen = [] } ∷ []

-- the mutators of seats, in the order of the seats
abbrev pub mutators_of : List SeatView → List ℕ
mutators_of seats = map (λ s. s.mutator) seats
