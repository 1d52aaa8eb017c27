-- The exchange that adds an entry keeps the rule.
use Rattle.std.proofs.Common.{◌≡◌, ◌≢◌, MatchBool, ℕ, ◌+◌, ◌<◌, ◌≤◌, ◌==◌, Bool, true, false, List, [], ◌∷◌, ◌++◌, length, refl, ap, sym, ◌∙◌, subst, arith, inl, length-append, None}
use Rattle.std.proofs.lemmas.List.{append-nil}
use Rattle.std.proofs.lemmas.Bool.Decides.{nat_tests}
use mathlib.Core.List.{IsPrefix}
use prog.Atomic.{either}
use Rattle.logbook.specs.Pages.{Cell, cell, keeps, no_nib, step, Moves, Goes}
use Rattle.graph_heap.specs.declared.command.Entry.{Entry}
use Rattle.heap_server.specs.HistoryLength.{IsLength, Appends, Commits}
use Rattle.heap_server.proofs.Fronts.{prefix_whole, prefix_trans, prefix_length}

abbrev pub shown : List Entry → List Entry
shown log = []

abbrev pub moved : List Entry → List Entry → ℕ → Type 0
moved xs ys n = Unit {0}

pub adds_goes : (log v : List Entry) (e : Entry) (old : ℕ) → old ≤ length v → IsPrefix v log
    → (b : Bool) → (length log == old) ≡ b
    → Goes IsLength shown moved 0 (v, (no_nib, None)) (λ n. either (n == old) (old + 1) n) (Appends (step 0 old (old + 1) e) (v, (no_nib, None))) ((length log, true) ∷ []) log
adds_goes log v e old len pre true is =
    let here : length log ≡ old = grind (arith, nat_tests) in
    let same : v ≡ log = prefix_whole v log pre (omega arith) in
    let n : either (length log == old) (old + 1) (length log) ≡ length (log ++ e ∷ []) = rw is (omega (arith, length-append log (e ∷ []))) in (
      keeps,
      e ∷ [],
      None,
      tt,
      ap (λ (k : ℕ). (k, true) ∷ []) n,
      inl (refl, refl),
      rw is (ap (λ w. w ++ e ∷ []) (sym same), ap length same ∙ here),
    )
adds_goes log v e old len pre false is =
    let all : log ++ [] ≡ log = append-nil log in
    let n : either (length log == old) (old + 1) (length log) ≡ length (log ++ []) = rw is (ap length (sym all)) in (
      keeps,
      [],
      None,
      tt,
      ap (λ (k : ℕ). (k, true) ∷ []) n,
      inl (refl, refl),
      rw is (ap length (sym all)),
    )

-- whatever the book is, the exchange adds the entry to all that was seen, or finds that the log has another length
pub adds_moves : (v : List Entry) (e : Entry) (old : ℕ) → old ≤ length v
    → Moves IsLength shown moved 0 (v, (no_nib, None)) (λ n. either (n == old) (old + 1) n) (Appends (step 0 old (old + 1) e) (v, (no_nib, None)))
adds_moves v e old len cs log kept pre away =
    let P : List Cell → Type 0 = λ c. (0 < length c) × ((cell c 0).1 ≡ true) × Goes IsLength shown moved 0 (v, (no_nib, None)) (λ n. either (n == old) (old + 1) n) (Appends (step 0 old (old + 1) e) (v, (no_nib, None))) c log in
    subst P (sym kept) (omega arith, refl, adds_goes log v e old len pre (length log == old) refl)

torn_from : (A B : Type 0) (n m : ℕ) → n ≢ m → (b : Bool) → (n == m) ≡ b → MatchBool b A B → B
torn_from A B n m off true is h = absurd (off (grind (arith, nat_tests)))
torn_from A B n m off false is h = h

-- Another number was found.
pub where_torn : (A B : Type 0) (n m : ℕ) → n ≢ m → MatchBool (n == m) A B → B
where_torn A B n m off h = torn_from A B n m off (n == m) refl h

done_from : (A B : Type 0) (n m : ℕ) → n ≡ m → (b : Bool) → (n == m) ≡ b → MatchBool b A B → A
done_from A B n m on true is h = h
done_from A B n m on false is h = absurd (grind (arith, nat_tests))

-- The number was found.
pub where_done : (A B : Type 0) (n m : ℕ) → n ≡ m → MatchBool (n == m) A B → A
where_done A B n m on h = done_from A B n m on (n == m) refl h

told_from : (A B : Type 0) (n m : ℕ) → n ≡ m → (b : Bool) → (n == m) ≡ b → A → MatchBool b A B
told_from A B n m on true is a = a
told_from A B n m on false is a = absurd (grind (arith, nat_tests))

other_from : (A B : Type 0) (n m : ℕ) → n ≢ m → (b : Bool) → (n == m) ≡ b → B → MatchBool b A B
other_from A B n m off true is b = absurd (off (grind (arith, nat_tests)))
other_from A B n m off false is b = b

-- A front that knows the whole log and one that knows a part are both known. If the number found is the length of the
-- whole, the entry was added to it, and all is known.
pub commits_whole : (whole part known after : List Entry) (e : Entry) (found at : ℕ) → at ≡ length whole → IsPrefix whole known → IsPrefix part known
    → MatchBool (found == at) ((after ≡ known ++ e ∷ []) × (length known ≡ at)) (found ≡ length after) → found ≡ at → Commits whole part e found after after
commits_whole whole part known after e found at long w p added here =
    let t = where_done _ _ found at here added in
    let len = t.1 in
    let same : whole ≡ known = prefix_whole whole known w (omega arith) in
    told_from _ _ found (length whole) (here ∙ long) _ refl (t.0 ∙ ap (λ (h : List Entry). h ++ e ∷ []) (sym same), refl, subst (IsPrefix part) (sym same) p)

-- If another number was found, the log is longer.
pub commits_longer : (whole part known after : List Entry) (e : Entry) (found at : ℕ) → at ≡ length whole → IsPrefix whole known → IsPrefix known after
    → MatchBool (found == at) ((after ≡ known ++ e ∷ []) × (length known ≡ at)) (found ≡ length after) → found ≢ at → Commits whole part e found whole after
commits_longer whole part known after e found at long w grows added off =
    let is : found ≡ length after = where_torn _ _ found at off added in
    let begins = prefix_trans whole known after w grows in
    let most = prefix_length whole after begins in
    other_from _ _ found (length whole) (λ same. off (same ∙ sym long)) _ refl (refl, is, begins, omega (arith, most, is, long, off))
