-- Rows of commands, one for each number, done as far as some number.
use Rattle.std.proofs.Common.{◌≡◌, ◌∙◌, ℕ, ◌+◌, ◌*◌, ◌<◌, List, [], ◌∷◌, ◌++◌, map, drop, sym, subst, arith, append_assoc}
use Rattle.std.specs.Prelude.{Some, None}
use Rattle.std.specs.List.{flat_map}
use Rattle.graph_heap.specs.declared.command.Command.{Command}
use Rattle.graph_heap.specs.declared.command.Refusal.{Refusal}
use Rattle.graph_heap.specs.declared.command.Reply.{Reply}
use Rattle.bulk.specs.InOrder.{refusal_in, DoesWithBy, DoesFrontBy}
use Rattle.bulk.specs.Lists.{upto}
use Rattle.bulk.proofs.InOrder.{one_more, one_more_with, stops, stops_with}
use Rattle.bulk.proofs.Lists.{row_more, row_cut, rows_more, rows_cut}

-- The next command of a row is done, and is refused or isn't.
module _ {S : Type 0} (step : S → Command → Reply → S → Type 0) (f : ℕ → Command) (h mid after : S) (i : ℕ) (c : Command) (r : Reply) (is : c ≡ f i) (s : step mid c r after) where
  at_place : step mid (f i) r after
  at_place = subst (λ (x : Command). step mid x r after) is s

  pub goes_on_with : (rs : List Reply) → DoesWithBy step h (map f (upto i)) rs (record { done = i; refused = None }) mid → refusal_in r ≡ None
      → DoesWithBy step h (map f (upto (i + 1))) (rs ++ r ∷ []) (record { done = i + 1; refused = None }) after
  goes_on_with rs w e = subst (λ (cs : List Command). DoesWithBy step h cs (rs ++ r ∷ []) (record { done = i + 1; refused = None }) after) (sym (row_more f i))
      (one_more_with step h mid after (map f (upto i)) i (f i) r rs w at_place e)

  pub ends_with : (n : ℕ) (why : Refusal) (rs : List Reply) → i < n → DoesWithBy step h (map f (upto i)) rs (record { done = i; refused = None }) mid → refusal_in r ≡ Some why
      → DoesWithBy step h (map f (upto n)) rs (record { done = i; refused = Some why }) after
  ends_with n why rs l w e = subst (λ (cs : List Command). DoesWithBy step h cs rs (record { done = i; refused = Some why }) after) (sym (row_cut f i n l))
      (stops_with step h mid after (map f (upto i)) i (f i) r why (drop (i + 1) (map f (upto n))) rs w at_place e)

  pub goes_on : DoesFrontBy step h (map f (upto i)) (record { done = i; refused = None }) mid → refusal_in r ≡ None
      → DoesFrontBy step h (map f (upto (i + 1))) (record { done = i + 1; refused = None }) after
  goes_on w e = (w.0 ++ r ∷ [], goes_on_with w.0 w.1 e)

  pub ends : (n : ℕ) (why : Refusal) → i < n → DoesFrontBy step h (map f (upto i)) (record { done = i; refused = None }) mid → refusal_in r ≡ Some why
      → DoesFrontBy step h (map f (upto n)) (record { done = i; refused = Some why }) after
  ends n why l w e = (w.0, ends_with n why w.0 l w.1 e)

-- two commands for each number
abbrev pub pair : (ℕ → Command) → (ℕ → Command) → ℕ → List Command
pair a b k = a k ∷ b k ∷ []

-- the commands of the list that come after the pair of a number
abbrev behind : (ℕ → Command) → (ℕ → Command) → ℕ → ℕ → List Command
behind a b i n = flat_map (pair a b) (drop (i + 1) (map (λ k. k) (upto n)))

-- The first command of a pair is done.
module _ {S : Type 0} (step : S → Command → Reply → S → Type 0) (a b : ℕ → Command) (h mid after : S) (i : ℕ) (c : Command) (r : Reply) (is : c ≡ a i) (s : step mid c r after)
    (w : DoesFrontBy step h (flat_map (pair a b) (upto i)) (record { done = 2 * i; refused = None }) mid) where
  first_step : step mid (a i) r after
  first_step = subst (λ (x : Command). step mid x r after) is s

  pub first_goes_on : refusal_in r ≡ None → DoesFrontBy step h (flat_map (pair a b) (upto i) ++ a i ∷ []) (record { done = 2 * i + 1; refused = None }) after
  first_goes_on e = one_more step h mid after (flat_map (pair a b) (upto i)) (2 * i) (a i) r w first_step e

  pub first_ends : (n : ℕ) (why : Refusal) → i < n → refusal_in r ≡ Some why → DoesFrontBy step h (flat_map (pair a b) (upto n)) (record { done = 2 * i; refused = Some why }) after
  first_ends n why l e = subst (λ (cs : List Command). DoesFrontBy step h cs (record { done = 2 * i; refused = Some why }) after) (sym (rows_cut (pair a b) i n l))
      (stops step h mid after (flat_map (pair a b) (upto i)) (2 * i) (a i) r why (b i ∷ behind a b i n) w first_step e)

-- The second command of a pair is done.
module _ {S : Type 0} (step : S → Command → Reply → S → Type 0) (a b : ℕ → Command) (h mid after : S) (i : ℕ) (c : Command) (r : Reply) (is : c ≡ b i) (s : step mid c r after)
    (w : DoesFrontBy step h (flat_map (pair a b) (upto i) ++ a i ∷ []) (record { done = 2 * i + 1; refused = None }) mid) where
  second_step : step mid (b i) r after
  second_step = subst (λ (x : Command). step mid x r after) is s

  pub second_goes_on : refusal_in r ≡ None → DoesFrontBy step h (flat_map (pair a b) (upto (i + 1))) (record { done = 2 * (i + 1); refused = None }) after
  second_goes_on e =
      let total : 2 * i + 1 + 1 ≡ 2 * (i + 1) = omega arith in
      let list = append_assoc (flat_map (pair a b) (upto i)) (a i ∷ []) (b i ∷ []) ∙ sym (rows_more (pair a b) i) in
      subst (λ (n : ℕ). DoesFrontBy step h (flat_map (pair a b) (upto (i + 1))) (record { done = n; refused = None }) after) total
      (subst (λ (cs : List Command). DoesFrontBy step h cs (record { done = 2 * i + 1 + 1; refused = None }) after) list
      (one_more step h mid after (flat_map (pair a b) (upto i) ++ a i ∷ []) (2 * i + 1) (b i) r w second_step e))

  pub second_ends : (n : ℕ) (why : Refusal) → i < n → refusal_in r ≡ Some why → DoesFrontBy step h (flat_map (pair a b) (upto n)) (record { done = 2 * i + 1; refused = Some why }) after
  second_ends n why l e =
      let list = append_assoc (flat_map (pair a b) (upto i)) (a i ∷ []) (b i ∷ behind a b i n) ∙ sym (rows_cut (pair a b) i n l) in
      subst (λ (cs : List Command). DoesFrontBy step h cs (record { done = 2 * i + 1; refused = Some why }) after) list
      (stops step h mid after (flat_map (pair a b) (upto i) ++ a i ∷ []) (2 * i + 1) (b i) r why (behind a b i n) w second_step e)
