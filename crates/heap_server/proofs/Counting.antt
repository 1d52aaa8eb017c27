-- How many seats there are.
use Rattle.std.proofs.Common.{◌≡◌, ℕ, zero, suc, ◌+◌, List, [], ◌∷◌, ◌++◌, length, refl, sym, ap, ◌∙◌, add-one}
use Rattle.std.proofs.lemmas.List.{length-map, map-append}
use Rattle.graph_heap.specs.declared.command.Entry.{Entry}
use Rattle.graph_heap.specs.Merge.{upto}
use Rattle.graph_heap.proofs.Merge.{upto-length}
use Rattle.heap_server.specs.Views.{SeatView}
use Rattle.heap_server.specs.Seats.{new_seats, mutators_of}

pub mutators-length : (seats : List SeatView) → length (mutators_of seats) ≡ length seats
mutators-length seats = length-map seats (λ (s : SeatView). s.mutator)

pub seats_count : (seats : List SeatView) (n : ℕ) → mutators_of seats ≡ upto n → length seats ≡ n
seats_count seats n all = sym (mutators-length seats) ∙ (ap length all ∙ upto-length n)

pub mutators_of-new : (n : ℕ) → mutators_of (new_seats n) ≡ upto n
mutators_of-new zero = refl
mutators_of-new (suc n) = map-append (λ (s : SeatView). s.mutator) (new_seats n) (record { mutator = n; calls = 0; seen = [] } ∷ []) ∙ ap (λ (ms : List ℕ). ms ++ n ∷ []) (mutators_of-new n)

-- the seat of the next mutator
pub new_seats-more : (m calls : ℕ) (seen : List Entry) (seats more : List SeatView) → seats ≡ new_seats m → calls ≡ 0 → seen ≡ [] → more ≡ seats ++ record { mutator = m; calls = calls; seen = seen } ∷ [] → more ≡ new_seats (m + 1)
new_seats-more m calls seen seats more all none unseen is =
    is ∙ (ap (λ (w : List SeatView). w ++ record { mutator = m; calls = calls; seen = seen } ∷ []) all
    ∙ (ap (λ (n : ℕ). new_seats m ++ record { mutator = m; calls = n; seen = seen } ∷ []) none ∙ ap (λ (h : List Entry). new_seats m ++ record { mutator = m; calls = 0; seen = h } ∷ []) unseen ∙ ap new_seats (sym (add-one m))))
