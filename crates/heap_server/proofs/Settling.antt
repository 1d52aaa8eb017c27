-- Seats by their numbers, and what they have done of their scripts.
use Rattle.std.proofs.Common.{◌≡◌, ℕ, zero, suc, ◌≤◌, ◌<◌, Bool, true, false, not, eqb, List, [], ◌∷◌, ◌++◌, length, map, take, drop, slice_index_or, refl, sym, subst, ap, ◌∙◌, arith, Vec, vec_len}
use Rattle.std.specs.declared.alloc.Global.{Global}
use Rattle.std.proofs.lemmas.Bool.{eqb-true}
use Rattle.std.proofs.lemmas.List.{map-append, take-append-drop}
use Rattle.std.proofs.lemmas.List.Elements.{All-nil, All-push, All-take, All-drop, All-same}
use Rattle.std.proofs.lemmas.List.Sums.{sum_by-append, sum_by-le}
use Rattle.std.proofs.lemmas.Slice.Zip.{AllZip-long}
use Rattle.std.proofs.Math.Seq.{take-append_seam, drop-append_seam}
use Rattle.std.specs.List.{sum_by, All, AllZip}
use Rattle.graph_heap.specs.declared.command.Command.{Command}
use Rattle.heap_server.specs.Views.{SeatView}
use Rattle.heap_server.specs.Seats.{new_seats, mutators_of}
use Rattle.heap_server.specs.Played.{HasPlayed, HavePlayed}
use Rattle.heap_server.proofs.Counting.{mutators_of-new}

abbrev calls : SeatView → ℕ
calls s = s.calls

abbrev IsFresh : SeatView → Type 0
IsFresh s = s.calls ≡ 0

fresh_new : (n : ℕ) → All IsFresh (new_seats n)
fresh_new zero = All-nil IsFresh
fresh_new (suc n) = All-push IsFresh (new_seats n) (record { mutator = n; calls = 0; seen = [] }) (fresh_new n) refl

-- new seats, in two parts
pub first_fresh : (n : ℕ) (front rest : List SeatView) → front ++ rest ≡ new_seats n → All IsFresh front
first_fresh n front rest all = All-same IsFresh front (take (length front) (front ++ rest)) (sym (take-append_seam front rest)) (All-take IsFresh (length front) (front ++ rest) (All-same IsFresh (front ++ rest) (new_seats n) all (fresh_new n)))

-- each script was played from the seat at its place
pub each_played : {A : Type 0} (items : A → List Command) (scripts : List A) (olds news : List SeatView) → length scripts ≡ length olds → length news ≡ length olds
    → ((i : ℕ) (d : SeatView) (e : A) → i < length olds → ((slice_index_or news i d).mutator ≡ (slice_index_or olds i d).mutator) × HasPlayed (slice_index_or news i d) (items (slice_index_or scripts i e)))
    → (mutators_of news ≡ mutators_of olds) × AllZip HasPlayed news (map items scripts)
each_played items [] [] [] same long h = (refl, tt)
each_played items [] [] (t ∷ news) same long h = absurd (omega arith)
each_played items [] (s ∷ olds) news same long h = absurd (omega arith)
each_played items (e ∷ scripts) [] news same long h = absurd (omega arith)
each_played items (e ∷ scripts) (s ∷ olds) [] same long h = absurd (omega arith)
each_played items (e ∷ scripts) (s ∷ olds) (t ∷ news) same long h =
    let one = h 0 s e (omega arith) in
    let mutator : t.mutator ≡ s.mutator = one.0 in
    let rest = each_played items scripts olds news (omega arith) (omega arith) (λ i d f lt. h (suc i) d f (omega arith)) in
    (cc (mutator, rest.0), (one.1, rest.1))

-- these scripts are played from the first seats, and the others stay as they were
pub first_played : (n : ℕ) (scripts : List (List Command)) (front rest new : List SeatView) → front ++ rest ≡ new_seats n → mutators_of new ≡ mutators_of front → AllZip HasPlayed new scripts
    → HavePlayed n scripts (new ++ rest)
first_played n scripts front rest new all same played =
    let long : length scripts ≡ length new = AllZip-long HasPlayed new scripts played in
    let fresh = All-drop IsFresh (length front) (front ++ rest) (All-same IsFresh (front ++ rest) (new_seats n) all (fresh_new n)) in
    record {
      all = map-append (λ (s : SeatView). s.mutator) new rest ∙ (ap (λ (ms : List ℕ). ms ++ mutators_of rest) same ∙ (sym (map-append (λ (s : SeatView). s.mutator) front rest) ∙ (ap mutators_of all ∙ mutators_of-new n)));
      played = subst (λ (seats : List SeatView). AllZip HasPlayed seats scripts) (sym (ap (λ (k : ℕ). take k (new ++ rest)) long ∙ take-append_seam new rest)) played;
      rest = All-same IsFresh (drop (length scripts) (new ++ rest)) (drop (length front) (front ++ rest)) (ap (λ (k : ℕ). drop k (new ++ rest)) long ∙ (drop-append_seam new rest ∙ sym (drop-append_seam front rest))) fresh;
    }

-- the calls of the first seats are all
pub first_sum : (k : ℕ) (seats : List SeatView) → All IsFresh (drop k seats) → sum_by calls seats ≡ sum_by calls (take k seats)
first_sum k seats none =
    let whole = ap (sum_by calls) (take-append-drop k seats) in
    let parts = sum_by-append calls (take k seats) (drop k seats) in
    let last = sum_by-le calls 0 (drop k seats) (λ i d lt. omega (arith, none i d lt)) in
    omega arith

-- numbers that are the same at each place
pub same_sizes : {A : Type 0} (size : A → ℕ) (scripts : List A) (done : List ℕ) → length scripts ≡ length done
    → ((i : ℕ) (e : A) → i < length scripts → slice_index_or done i 0 ≡ size (slice_index_or scripts i e)) → done ≡ map size scripts
same_sizes size [] [] len h = refl
same_sizes size [] (n ∷ done) len h = absurd (omega arith)
same_sizes size (e ∷ scripts) [] len h = absurd (omega arith)
same_sizes size (e ∷ scripts) (n ∷ done) len h =
    let one : n ≡ size e = h 0 e (omega arith) in
    let rest = same_sizes size scripts done (omega arith) (λ i f lt. h (suc i) f (omega arith)) in
    cc (one, rest)

-- the lengths of scripts, of vectors and of their items
pub lengths_of : (scripts : List (Vec Command Global)) → map vec_len scripts ≡ map length (map (λ s. s.items) scripts)
lengths_of [] = refl
lengths_of (v ∷ scripts) =
    let one : vec_len v ≡ length v.items = omega (arith, v.ok.0) in
    let rest = lengths_of scripts in
    cc (one, rest)

-- no script has more calls than commands
pub played_within : (seats : List SeatView) (scripts : List (List Command)) → AllZip HasPlayed seats scripts → AllZip (λ n most. n ≤ most) (map calls seats) (map length scripts)
played_within [] [] h = tt
played_within [] (c ∷ scripts) h = absurd h
played_within (s ∷ seats) [] h = absurd h
played_within (s ∷ seats) (c ∷ scripts) h = (h.0.within, played_within seats scripts h.1)

torn_false : (b : Bool) → not b ≡ false → b ≡ true
torn_false true e = refl
torn_false false e = cc

-- the number found is not another one
pub not_torn : (x y : ℕ) → not (eqb x y) ≡ false → x ≡ y
not_torn x y e = eqb-true x y (torn_false (eqb x y) e)
