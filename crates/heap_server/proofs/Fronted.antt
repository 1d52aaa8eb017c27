-- The commands of scripts that were done, once the place word was found whole.
use Rattle.std.proofs.Common.{◌≡◌, ℕ, zero, suc, ◌≤◌, ◌<◌, ◌+◌, ◌⊎◌, inl, inr, List, [], ◌∷◌, ◌++◌, length, map, take, slice_index_or, slice_index, refl, sym, ap, ◌∙◌, arith}
use Rattle.std.proofs.lemmas.List.{length-map, length-take-le, take_all}
use Rattle.std.proofs.lemmas.List.Sums.{sum_by-append, sum_by-cons}
use Rattle.std.proofs.Math.Seq.{take-suc}
use Rattle.std.specs.List.{sum_by, All, AllZip}
use Rattle.graph_heap.specs.declared.command.Command.{Command}
use Rattle.graph_heap.specs.declared.command.Entry.{Entry}
use Rattle.graph_heap.specs.Merge.{mine, commands_of, upto, IsMerge}
use Rattle.graph_heap.proofs.Merge.{upto_at}
use Rattle.heap_server.specs.Views.{SeatView}
use Rattle.heap_server.specs.Seats.{mutators_of}
use Rattle.heap_server.specs.Seen.{WasTold}
use Rattle.heap_server.specs.Played.{HasPlayed, HasFronts}
use Rattle.heap_server.proofs.Counting.{seats_count}
use Rattle.heap_server.proofs.Closing.{spread}
use Rattle.heap_server.proofs.Parts.{told_grows, part_whole}

mutator_get : (ss : List SeatView) (i : ℕ) (d : SeatView) → i < length ss → (slice_index_or ss i d).mutator ≡ slice_index_or (mutators_of ss) i 0
mutator_get [] i d le = absurd (omega arith)
mutator_get (s ∷ ss) zero d le = refl
mutator_get (s ∷ ss) (suc i) d le = mutator_get ss i d (omega arith)

mutator_at : (ss : List SeatView) (n i : ℕ) (d : SeatView) → mutators_of ss ≡ upto n → i < n → i < length ss → (slice_index_or ss i d).mutator ≡ i
mutator_at ss n i d all lt le = mutator_get ss i d le ∙ (ap (λ (w : List ℕ). slice_index_or w i 0) all ∙ upto_at n i lt)

-- what was counted of the first seats
calls_at : (ss : List SeatView) (k i : ℕ) (d : SeatView) → i < k → i < length ss → slice_index_or (map (λ s. s.calls) (take k ss)) i 0 ≡ (slice_index_or ss i d).calls
calls_at [] k i d lt le = absurd (omega arith)
calls_at (s ∷ ss) zero i d lt le = absurd (omega arith)
calls_at (s ∷ ss) (suc k) zero d lt le = refl
calls_at (s ∷ ss) (suc k) (suc i) d lt le = calls_at ss k i d (omega arith) (omega arith)

played_at : (ss : List SeatView) (scripts : List (List Command)) (i : ℕ) (d : SeatView) → AllZip HasPlayed (take (length scripts) ss) scripts → i < length scripts → i < length ss → HasPlayed (slice_index_or ss i d) (slice_index_or scripts i [])
played_at ss [] i d h lt le = absurd (omega arith)
played_at [] (c ∷ scripts) i d h lt le = absurd (omega arith)
played_at (s ∷ ss) (c ∷ scripts) zero d h lt le = h.0
played_at (s ∷ ss) (c ∷ scripts) (suc i) d h lt le = played_at ss scripts i d h.1 (omega arith) (omega arith)

-- if as many entries are a mutator's as its seat has calls, they are the first commands of the script
front_of : (script : List Command) (s : SeatView) (h : List Entry) (m : ℕ) → HasPlayed s script → WasTold h s → s.mutator ≡ m → commands_of (mine h m) ≡ take s.calls script
front_of script s h m p w is =
    let told = told_grows (take s.calls script) s.seen h s.mutator w.begins p.told in
    let same : take s.calls script ≡ commands_of (mine h s.mutator) = part_whole (take s.calls script) (commands_of (mine h s.mutator)) told (omega (arith, length-map (mine h s.mutator) (λ (e : ℕ × Entry). e.1.command), length-take-le s.calls script p.within, w.calls)) in
    sym (same ∙ ap (λ (k : ℕ). commands_of (mine h k)) is)

no_seat : SeatView
no_seat = record { mutator = 0; calls = 0; seen = [] }

-- i is before k, or not
before_or : (i k : ℕ) → (i < k) ⊎ (k ≤ i)
before_or i k = grind arith

upto_le_step : (f : ℕ → ℕ) (n m : ℕ) → (n ≤ m → sum_by f (upto n) ≤ sum_by f (upto m)) → (m < n) ⊎ (n ≤ m) → n ≤ suc m → sum_by f (upto n) ≤ sum_by f (upto (suc m))
upto_le_step f n m rec (inl lt) le = let same : n ≡ suc m = omega arith in omega (arith, ap (λ (k : ℕ). sum_by f (upto k)) same)
upto_le_step f n m rec (inr ge) le = omega (arith, rec ge, sum_by-append f (upto m) (m ∷ []))

upto_le : (f : ℕ → ℕ) (n m : ℕ) → n ≤ m → sum_by f (upto n) ≤ sum_by f (upto m)
upto_le f n zero le = let none : n ≡ 0 = omega arith in omega (arith, ap (λ (k : ℕ). sum_by f (upto k)) none)
upto_le f n (suc m) le = upto_le_step f n m (upto_le f n m) (before_or m n) le

empty_of : {A : Type 0} (xs : List A) → length xs ≤ 0 → xs ≡ []
empty_of [] le = refl
empty_of (x ∷ xs) le = absurd (omega arith)

-- if the first mutators have as many entries as there are, no other has one
none_left : (h : List Entry) (k m : ℕ) → k ≤ m → length h ≤ sum_by (λ i. length (mine h i)) (upto k) → mine h m ≡ []
none_left h k m le all =
    let f : ℕ → ℕ = λ i. length (mine h i) in
    let more = upto_le f k m le in
    empty_of (mine h m) (omega (arith, all, more, spread h (suc m), sum_by-append f (upto m) (m ∷ []), sum_by-cons f m []))

take_none : {A : Type 0} (xs : List A) → take 0 xs ≡ []
take_none [] = refl
take_none (x ∷ xs) = refl

take_empty : (n : ℕ) (xs : List Command) → xs ≡ [] → take n xs ≡ []
take_empty zero xs e = take_none xs
take_empty (suc n) [] e = refl
take_empty (suc n) (x ∷ xs) e = absurd cc

-- the calls of the first seats are these mutators' entries
entries_sum : (ss : List SeatView) (h : List Entry) (k n : ℕ) → All (WasTold h) ss → mutators_of ss ≡ upto n → k ≤ n → sum_by (λ s. s.calls) (take k ss) ≡ sum_by (λ i. length (mine h i)) (upto k)
entries_sum ss h zero n each all le = ap (sum_by (λ (s : SeatView). s.calls)) (take_none ss)
entries_sum ss h (suc k) n each all le =
    let count = seats_count ss n all in
    let f = λ (s : SeatView). s.calls in
    let x = slice_index_or ss k no_seat in
    let taken : take (suc k) ss ≡ take k ss ++ x ∷ [] = take-suc ss k no_seat (omega (arith, count, le)) in
    let who = mutator_at ss n k no_seat all (omega (arith, le)) (omega (arith, count, le)) in
    let own : x.calls ≡ length (mine h k) = (each k no_seat (omega (arith, count, le))).calls ∙ ap (λ (j : ℕ). length (mine h j)) who in
    let g : ℕ → ℕ = λ i. length (mine h i) in
    omega (arith, entries_sum ss h k n each all (omega (arith, le)), ap (sum_by f) taken, sum_by-append f (take k ss) (x ∷ []), sum_by-cons f x [], own, sum_by-append g (upto k) (k ∷ []), sum_by-cons g k [])

none_beyond : (scripts : List (List Command)) (m : ℕ) → length scripts ≤ m → slice_index_or scripts m [] ≡ []
none_beyond [] m le = refl
none_beyond (c ∷ scripts) zero le = absurd (omega arith)
none_beyond (c ∷ scripts) (suc m) le = none_beyond scripts m (omega arith)

-- each mutator's entries are the first commands of its script, and no other mutator has any
pub has_fronts : (ss : List SeatView) (h : List Entry) (scripts : List (List Command)) (n : ℕ) → All (WasTold h) ss → mutators_of ss ≡ upto n → length scripts ≤ n → AllZip HasPlayed (take (length scripts) ss) scripts
    → length h ≡ sum_by (λ s. s.calls) (take (length scripts) ss) → HasFronts h scripts (map (λ s. s.calls) (take (length scripts) ss))
has_fronts ss h scripts n each all fits played counted = λ m.
    let k = length scripts in
    let count = seats_count ss n all in
    let done = map (λ (s : SeatView). s.calls) (take k ss) in
    elim (before_or m k) as (λ _. commands_of (mine h m) ≡ take (slice_index done m) (slice_index_or scripts m [])) [
      | inl lt ↦ (
          let here : m < length ss = omega (arith, count, lt, fits) in
          let who = mutator_at ss n m no_seat all (omega (arith, lt, fits)) here in
          front_of (slice_index_or scripts m []) (slice_index_or ss m no_seat) h m (played_at ss scripts m no_seat played lt here) (each m no_seat here) who ∙ ap (λ (j : ℕ). take j (slice_index_or scripts m [])) (sym (calls_at ss k m no_seat lt here)))
      | inr ge ↦ ap commands_of (none_left h k m ge (omega (arith, counted, entries_sum ss h k n each all fits))) ∙ sym (take_empty (slice_index done m) (slice_index_or scripts m []) (none_beyond scripts m ge))
    ]

length_at : (scripts : List (List Command)) (m : ℕ) → slice_index (map length scripts) m ≡ length (slice_index_or scripts m [])
length_at [] m = refl
length_at (c ∷ scripts) zero = refl
length_at (c ∷ scripts) (suc m) = length_at scripts m

-- fronts that are whole are a merge
pub fronts_merge : (h : List Entry) (scripts : List (List Command)) (done : List ℕ) → HasFronts h scripts done → done ≡ map length scripts → IsMerge h scripts
fronts_merge h scripts done f whole = λ m.
    let script = slice_index_or scripts m [] in
    f m ∙ (ap (λ (n : ℕ). take n script) (ap (λ (w : List ℕ). slice_index w m) whole ∙ length_at scripts m) ∙ take_all (length script) script (omega arith))
