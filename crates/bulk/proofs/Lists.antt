-- Lists of commands by numbers, as far as some number and from there on.
use Rattle.std.proofs.Common.{◌≡◌, ◌∙◌, ℕ, ◌+◌, ◌<◌, List, [], ◌∷◌, ◌++◌, map, length, drop, sym, ap, arith, append_assoc}
use Rattle.std.specs.List.{flat_map}
use Rattle.std.proofs.lemmas.List.{map-id, take-append-drop}
use Rattle.std.proofs.lemmas.List.FromFn.{length-map-range_with_len, take-map-range_with_len, map-range_with_len_more}
use Rattle.std.proofs.lemmas.Grind.{flat_map-append}
use Rattle.std.specs.Prelude.{slice_index}
use Rattle.graph_heap.specs.declared.command.Command.{Command}
use Rattle.graph_heap.specs.declared.command.Command.TheVariants as commands
use Rattle.bulk.specs.Lists.{upto, number_after}

-- the command of each number, in each list
abbrev pub clear_at : ℕ → ℕ → Command
clear_at first i = commands.Clear (number_after first i)

abbrev pub get_at : ℕ → ℕ → ℕ → Command
get_at obj first i = commands.Get obj (number_after first i)

abbrev pub put_at : ℕ → ℕ → List ℕ → ℕ → Command
put_at obj first words i = commands.Put obj (number_after first i) (slice_index words i)

abbrev pub store_at : ℕ → List ℕ → ℕ → Command
store_at obj slots i = commands.Store obj i (slice_index slots i)

abbrev pub load_at : ℕ → ℕ → ℕ → ℕ → Command
load_at through from first i = commands.Load through from (number_after first i)

abbrev pub store_from : ℕ → ℕ → ℕ → ℕ → Command
store_from through to first i = commands.Store to (number_after first i) through

module _ {A : Type 0} (f : ℕ → A) where
  pub row_length : (n : ℕ) → length (map f (upto n)) ≡ n
  row_length n = length-map-range_with_len f 0 n

  pub row_more : (i : ℕ) → map f (upto (i + 1)) ≡ map f (upto i) ++ f i ∷ []
  row_more i = map-range_with_len_more f 0 i i (omega arith)

  pub row_cut : (i n : ℕ) → i < n → map f (upto n) ≡ map f (upto i) ++ f i ∷ drop (i + 1) (map f (upto n))
  row_cut i n l =
      let rest = drop (i + 1) (map f (upto n)) in
      sym (take-append-drop (i + 1) (map f (upto n))) ∙ ap (λ xs. xs ++ rest) (take-map-range_with_len f 0 n (i + 1) (omega arith) ∙ row_more i) ∙ append_assoc (map f (upto i)) (f i ∷ []) rest

-- The list of the numbers grows by one.
upto_more : (i : ℕ) → upto (i + 1) ≡ upto i ++ i ∷ []
upto_more i = sym (map-id (upto (i + 1))) ∙ row_more (λ k. k) i ∙ ap (λ xs. xs ++ i ∷ []) (map-id (upto i))

upto_cut : (i n : ℕ) → i < n → upto n ≡ upto i ++ i ∷ drop (i + 1) (map (λ k. k) (upto n))
upto_cut i n l = sym (map-id (upto n)) ∙ row_cut (λ k. k) i n l ∙ ap (λ xs. xs ++ i ∷ drop (i + 1) (map (λ k. k) (upto n))) (map-id (upto i))

module _ {A : Type 0} (f : ℕ → List A) where
  pub rows_more : (i : ℕ) → flat_map f (upto (i + 1)) ≡ flat_map f (upto i) ++ (f i ++ [])
  rows_more i = ap (flat_map f) (upto_more i) ∙ flat_map-append f (upto i) (i ∷ [])

  pub rows_cut : (i n : ℕ) → i < n → flat_map f (upto n) ≡ flat_map f (upto i) ++ (f i ++ flat_map f (drop (i + 1) (map (λ k. k) (upto n))))
  rows_cut i n l = ap (flat_map f) (upto_cut i n l) ∙ flat_map-append f (upto i) (i ∷ drop (i + 1) (map (λ k. k) (upto n)))
