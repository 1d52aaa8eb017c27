-- A log that bears out accounts is a merge of the deeds that these have.
use Rattle.std.proofs.Common.{◌≡◌, ◌≢◌, ℕ, suc, ◌%◌, ◌<◌, ◌≤◌, ◌⊎◌, inl, inr, Bool, true, false, true≢false, List, [], ◌∷◌, ◌++◌, refl, sym, ap, ◌∙◌, arith, append-nil}
use Rattle.std.specs.Prelude.{nat_eq, if◌then◌else◌, slice_index_or}
use Rattle.std.specs.List.{All}
use Rattle.std.proofs.lemmas.Bool.Decides.{nat_tests}
use Rattle.std.proofs.lemmas.List.{length-map, map-append, get_or-map, get_or_past}
use Rattle.std.proofs.lemmas.List.Elements.{All-cons, All-map, All-nil}
use Rattle.graph_heap.specs.declared.command.Entry.{Entry}
use Rattle.graph_heap.specs.Merge.{mine, commands_of, upto, IsMerge}
use Rattle.graph_heap.proofs.Merge.{upto-length, upto_at}
use Rattle.heap_model.specs.Event.{Event, Command_done, Cycle_begun, Begin_refused, Quantum_done, Quantum_refused}
use Rattle.heap_shared.specs.declared.deed.Deed.{Deed}
use Rattle.heap_shared.specs.declared.rule.Account.{Account}
use Rattle.heap_shared.specs.Past.{history_of}
use Rattle.heap_shared.specs.Accounts.{IsWithin, IsCommandOf, mutator_of, member_of, IsOthers, BearsOut, AreBelow, events_of, history_by}
use Rattle.heap_shared.specs.Merged.{has_mutator, commands_by, is_covered, Covers, called_by, deeds_of, has_number, deeds_by, is_numbered, CoverAll}
use Rattle.heap_shared.proofs.Accounts.{mine_others, mine_same}
use Rattle.heap_shared.proofs.Pasts.{history_append}

-- if no event is a mutator's command, no entry is the mutator's
entries_apart : (es : List Event) (m : ℕ) → All (λ e. IsCommandOf m e → ⊥) es → All (λ e. e.mutator ≢ m) (history_of es)
entries_apart [] m all = All-nil (λ (e : Entry). e.mutator ≢ m)
entries_apart (Command_done k c reply ∷ es) m all =
    All-cons (λ (e : Entry). e.mutator ≢ m) (record { mutator = k; command = c; reply = reply }) (history_of es) (all 0 (Command_done k c reply) (omega arith)) (entries_apart es m (λ j e lt. all (suc j) e (omega (arith, lt))))
entries_apart (Cycle_begun ∷ es) m all = entries_apart es m (λ j e lt. all (suc j) e (omega (arith, lt)))
entries_apart (Begin_refused ∷ es) m all = entries_apart es m (λ j e lt. all (suc j) e (omega (arith, lt)))
entries_apart (Quantum_done budget units phase ∷ es) m all = entries_apart es m (λ j e lt. all (suc j) e (omega (arith, lt)))
entries_apart (Quantum_refused budget ∷ es) m all = entries_apart es m (λ j e lt. all (suc j) e (omega (arith, lt)))

deeds_apart : (log : List Deed) (m : ℕ) → All (λ d. IsCommandOf m d.event → ⊥) log → All (λ e. e.mutator ≢ m) (history_by log)
deeds_apart log m all = entries_apart (events_of log) m (All-map (λ (e : Event). IsCommandOf m e → ⊥) (λ (d : Deed). d.event) log all)

-- the history has those entries of an account's mutators that were seen
bears_mine : (a : Account) (log : List Deed) (m : ℕ) → BearsOut log a → IsWithin a.from a.to m → mine (history_by log) m ≡ mine (history_by a.seen) m
bears_mine a log m b within =
    ap (λ (xs : List Deed). mine (history_by xs) m) (sym b.1)
    ∙ (ap (λ (es : List Event). mine (history_of es) m) (map-append (λ (d : Deed). d.event) a.seen b.0)
    ∙ (ap (λ (hs : List Entry). mine hs m) (history_append (events_of a.seen) (events_of b.0))
    ∙ mine_same (history_by a.seen) (history_by b.0) m (deeds_apart b.0 m (λ k d lt of. b.2 k d lt (mutator_of m) within of))))

-- a mutator is an account's
within_of : (a : Account) (m : ℕ) → has_mutator a m ≡ true → IsWithin a.from a.to m
within_of a m has = grind (arith, nat_tests)

either_way : (b : Bool) → (b ≡ true) ⊎ (b ≡ false)
either_way true = inl refl
either_way false = inr refl

commands_first : (a : Account) (rest : List Account) (log : List Deed) (m : ℕ) → BearsOut log a → (is_covered rest m ≡ true → commands_of (mine (history_by log) m) ≡ commands_by rest m)
    → is_covered (a ∷ rest) m ≡ true → (has_mutator a m ≡ true) ⊎ (has_mutator a m ≡ false) → commands_of (mine (history_by log) m) ≡ commands_by (a ∷ rest) m
commands_first a rest log m bears more covered (inl has) =
    ap commands_of (bears_mine a log m bears (within_of a m has)) ∙ sym (ap (λ (b : Bool). if b then commands_of (mine (history_by a.seen) m) else commands_by rest m) has)
commands_first a rest log m bears more covered (inr isnt) =
    more (sym (ap (λ (b : Bool). if b then true else is_covered rest m) isnt) ∙ covered) ∙ sym (ap (λ (b : Bool). if b then commands_of (mine (history_by a.seen) m) else commands_by rest m) isnt)

-- a covered mutator's commands are those of an account
commands_are : (accounts : List Account) (log : List Deed) (m : ℕ) → All (BearsOut log) accounts → is_covered accounts m ≡ true → commands_of (mine (history_by log) m) ≡ commands_by accounts m
commands_are [] log m bears covered = absurd (true≢false (sym covered))
commands_are (a ∷ rest) log m bears covered =
    commands_first a rest log m (bears 0 a (omega arith)) (λ more. commands_are rest log m (λ k d lt. bears (suc k) d (omega (arith, lt))) more) covered (either_way (has_mutator a m))

-- one of the heap's mutators, or none
below_or : (m mutators : ℕ) → (m < mutators) ⊎ (mutators ≤ m)
below_or m mutators = grind arith

merged_at : (mutators : ℕ) (log : List Deed) (accounts : List Account) → All (BearsOut log) accounts → AreBelow mutators log → Covers mutators accounts
    → (m : ℕ) → (m < mutators) ⊎ (mutators ≤ m) → commands_of (mine (history_by log) m) ≡ slice_index_or (called_by mutators accounts) m []
merged_at mutators log accounts bears below covers m (inl lt) =
    commands_are accounts log m bears (covers m lt)
    ∙ (ap (commands_by accounts) (sym (upto_at mutators m lt))
    ∙ sym (get_or-map (commands_by accounts) (upto mutators) m 0 [] (omega (arith, upto-length mutators, lt))))
merged_at mutators log accounts bears below covers m (inr le) =
    ap commands_of (mine_others (history_by log) m (deeds_apart log m (λ k d lt of. (let w = below k d lt m of in omega (arith, w.1, le)))))
    ∙ sym (get_or_past (called_by mutators accounts) m [] (omega (arith, length-map (upto mutators) (commands_by accounts), upto-length mutators, le)))

pub merges : (mutators : ℕ) (log : List Deed) (accounts : List Account) → All (BearsOut log) accounts → AreBelow mutators log → Covers mutators accounts → IsMerge (history_by log) (called_by mutators accounts)
merges mutators log accounts bears below covers m = merged_at mutators log accounts bears below covers m (below_or m mutators)

-- the deeds of one number
deeds_append : (n : ℕ) (xs ys : List Deed) → deeds_of n (xs ++ ys) ≡ deeds_of n xs ++ deeds_of n ys
deeds_append n [] ys = refl
deeds_append n (d ∷ xs) ys =
    elim (nat_eq d.by n) as (λ (b : Bool). (if b then d ∷ deeds_of n (xs ++ ys) else deeds_of n (xs ++ ys)) ≡ (if b then d ∷ deeds_of n xs else deeds_of n xs) ++ deeds_of n ys) [ true ↦ ap (λ (ds : List Deed). d ∷ ds) (deeds_append n xs ys) | false ↦ deeds_append n xs ys ]

deeds_none : (n : ℕ) (log : List Deed) → All (λ d. d.by ≡ n → ⊥) log → deeds_of n log ≡ []
deeds_none n [] all = refl
deeds_none n (d ∷ log) all =
    let first : d.by ≢ n = all 0 d (omega arith) in
    let isnt : nat_eq d.by n ≡ false = grind (arith, nat_tests) in
    ap (λ (b : Bool). if b then d ∷ deeds_of n log else deeds_of n log) isnt ∙ deeds_none n log (λ k e lt. all (suc k) e (omega (arith, lt)))

bears_deeds : (a : Account) (log : List Deed) (n : ℕ) → BearsOut log a → n % a.step ≡ a.number → deeds_of n log ≡ deeds_of n a.seen
bears_deeds a log n b has =
    ap (deeds_of n) (sym b.1) ∙ (deeds_append n a.seen b.0
    ∙ (ap (λ (ds : List Deed). deeds_of n a.seen ++ ds) (deeds_none n b.0 (λ k d lt of. b.2 k d lt (member_of n) has of)) ∙ append-nil (deeds_of n a.seen)))

number_of : (a : Account) (n : ℕ) → has_number a n ≡ true → n % a.step ≡ a.number
number_of a n has = grind (arith, nat_tests)

deeds_first : (a : Account) (rest : List Account) (log : List Deed) (n : ℕ) → BearsOut log a → (is_numbered rest n ≡ true → deeds_of n log ≡ deeds_by rest n)
    → is_numbered (a ∷ rest) n ≡ true → (has_number a n ≡ true) ⊎ (has_number a n ≡ false) → deeds_of n log ≡ deeds_by (a ∷ rest) n
deeds_first a rest log n bears more covered (inl has) =
    bears_deeds a log n bears (number_of a n has) ∙ sym (ap (λ (b : Bool). if b then deeds_of n a.seen else deeds_by rest n) has)
deeds_first a rest log n bears more covered (inr isnt) =
    more (sym (ap (λ (b : Bool). if b then true else is_numbered rest n) isnt) ∙ covered) ∙ sym (ap (λ (b : Bool). if b then deeds_of n a.seen else deeds_by rest n) isnt)

deeds_are : (accounts : List Account) (log : List Deed) (n : ℕ) → All (BearsOut log) accounts → is_numbered accounts n ≡ true → deeds_of n log ≡ deeds_by accounts n
deeds_are [] log n bears covered = absurd (true≢false (sym covered))
deeds_are (a ∷ rest) log n bears covered =
    deeds_first a rest log n (bears 0 a (omega arith)) (λ more. deeds_are rest log n (λ k d lt. bears (suc k) d (omega (arith, lt))) more) covered (either_way (has_number a n))

pub logs_merge : (log : List Deed) (accounts : List Account) → All (BearsOut log) accounts → CoverAll accounts → (n : ℕ) → deeds_of n log ≡ deeds_by accounts n
logs_merge log accounts bears covers n = deeds_are accounts log n bears (covers n)

-- a member with all numbers has seen all deeds
whole_step : (n : ℕ) → n % 1 ≡ 0
whole_step n = omega arith

nothing_else : (a : Account) (log added : List Deed) → a.seen ++ added ≡ log → All (IsOthers a) added → a.number ≡ 0 → a.step ≡ 1 → log ≡ a.seen
nothing_else a log [] is all first one = sym is ∙ append-nil a.seen
nothing_else a log (d ∷ ds) is all first one = absurd (all 0 d (omega arith) (member_of d.by) (ap (λ (s : ℕ). d.by % s) one ∙ (whole_step d.by ∙ sym first)) refl)

pub nothing_between : (log : List Deed) (a : Account) → BearsOut log a → a.number ≡ 0 → a.step ≡ 1 → log ≡ a.seen
nothing_between log a b first one = nothing_else a log b.0 b.1 b.2 first one
