-- A row of commands of which some were done; a run does the next ones.
use Rattle.std.proofs.Common.{◌≡◌, ◌∙◌, ℕ, zero, suc, ◌+◌, ◌-◌, ◌^◌, ◌<◌, ◌≤◌, List, [], ◌∷◌, ◌++◌, map, length, take, drop, get_or, refl, sym, ap, subst, arith, append_assoc}
use Rattle.std.specs.Prelude.{None}
use Rattle.std.proofs.Math.Seq.{take-append_seam, take-append-add, drop-append-add}
use Rattle.std.proofs.Math.ListN.{drop_of_length-le}
use borrow.Rule.Slice.PartMut.{put_mid}
use Rattle.std.proofs.lemmas.List.{map-append, get_or-drop, drop-drop, length-drop, length-take-le, take_rest}
use Rattle.graph_heap.specs.declared.command.Command.{Command}
use Rattle.graph_heap.specs.declared.command.Command.TheVariants as commands
use Rattle.graph_heap.specs.declared.command.Reply.{Reply}
use Rattle.graph_heap.specs.declared.command.Reply.TheVariants as replies
use Rattle.bulk.specs.InOrder.{DoesWithBy, DoesFrontBy, EachBy, words_told}
use Rattle.bulk.specs.Lists.{upto, number_after}
use Rattle.bulk.proofs.InOrder.{none_done}
use Rattle.bulk.proofs.Lists.{clear_at}
use Rattle.bulk.proofs.Rows.{goes_on, goes_on_with}

-- the numbers of a run stay below the greatest
pub number_in : (first i n k begin : ℕ) → begin ≡ number_after first i → begin + n ≤ 2 ^ 32 → k < n → begin + k ≡ number_after first (i + k)
number_in first i n k begin is few l = omega (arith, is, few, l)

pub number_first : (first i begin : ℕ) → begin ≡ number_after first i → begin + 0 ≡ number_after first i
number_first first i begin is = omega (arith, is)

append_nil : (xs : List ℕ) → xs ++ [] ≡ xs
append_nil [] = refl
append_nil (x ∷ xs) = ap (λ ys. x ∷ ys) (append_nil xs)

-- A run read one word more.
told_more : (front words : List ℕ) (n : ℕ) → n < length words → words_told (front ++ take (suc n) words) ≡ words_told (front ++ take n words) ++ replies.Word (get_or words n 0) ∷ []
told_more front words n l =
    let more : take (suc n) words ≡ take n words ++ get_or words n 0 ∷ [] = take_more words n l in
    ap (λ xs. words_told (front ++ xs)) more ∙ ap words_told (sym (append_assoc front (take n words) (get_or words n 0 ∷ []))) ∙ map-append (λ w. replies.Word w) (front ++ take n words) (get_or words n 0 ∷ [])
  where
    take_more : (xs : List ℕ) (k : ℕ) → k < length xs → take (suc k) xs ≡ take k xs ++ get_or xs k 0 ∷ []
    take_more [] k b = absurd (omega arith)
    take_more (x ∷ xs) zero b = refl
    take_more (x ∷ xs) (suc k) b = ap (λ ys. x ∷ ys) (take_more xs k (omega arith))

module _ {S : Type 0} (step : S → Command → Reply → S → Type 0) (f : ℕ → Command) (h mid : S) (i : ℕ) (c : ℕ → Command) where
  -- A run reads words.
  pub reads_on : (n : ℕ) (after : S) (front words : List ℕ) → n ≤ length words → ((k : ℕ) → k < n → c k ≡ f (i + k)) → DoesWithBy step h (map f (upto i)) (words_told front) (record { done = i; refused = None }) mid
      → EachBy step mid c (λ k. replies.Word (get_or words k 0)) n after → DoesWithBy step h (map f (upto (i + n))) (words_told (front ++ take n words)) (record { done = i + n; refused = None }) after
  reads_on zero after front words few is w e =
      let same : i ≡ i + 0 = omega arith in
      subst (λ k. DoesWithBy step h (map f (upto k)) (words_told (front ++ [])) (record { done = k; refused = None }) after) same
      (subst (λ xs. DoesWithBy step h (map f (upto i)) (words_told xs) (record { done = i; refused = None }) after) (sym (append_nil front))
      (subst (λ x. DoesWithBy step h (map f (upto i)) (words_told front) (record { done = i; refused = None }) x) (sym e) w))
  reads_on (suc n) after front words few is w (next, s, last) =
      let before = reads_on n next front words (omega arith) (λ k l. is k (omega arith)) w s in
      let sum : i + n + 1 ≡ i + suc n = omega arith in
      subst (λ k. DoesWithBy step h (map f (upto k)) (words_told (front ++ take (suc n) words)) (record { done = k; refused = None }) after) sum
      (subst (λ (rs : List Reply). DoesWithBy step h (map f (upto (i + n + 1))) rs (record { done = i + n + 1; refused = None }) after) (sym (told_more front words n (omega arith)))
      (goes_on_with step f h next after (i + n) (c n) (replies.Word (get_or words n 0)) (is n (omega arith)) last (words_told (front ++ take n words)) before refl))

  -- A run of commands that are done is told so.
  pub does_on : (n : ℕ) (after : S) → ((k : ℕ) → k < n → c k ≡ f (i + k)) → DoesFrontBy step h (map f (upto i)) (record { done = i; refused = None }) mid
      → EachBy step mid c (λ k. replies.Done) n after → DoesFrontBy step h (map f (upto (i + n))) (record { done = i + n; refused = None }) after
  does_on zero after is w e =
      let same : i ≡ i + 0 = omega arith in
      subst (λ k. DoesFrontBy step h (map f (upto k)) (record { done = k; refused = None }) after) same (subst (λ x. DoesFrontBy step h (map f (upto i)) (record { done = i; refused = None }) x) (sym e) w)
  does_on (suc n) after is w (next, s, last) =
      let sum : i + n + 1 ≡ i + suc n = omega arith in
      subst (λ k. DoesFrontBy step h (map f (upto k)) (record { done = k; refused = None }) after) sum
      (goes_on step f h next after (i + n) (c n) replies.Done (is n (omega arith)) last (does_on n next (λ k l. is k (omega arith)) w s) refl)

-- The first run cleared these slots.
pub first_clears : {S : Type 0} (step : S → Command → Reply → S → Type 0) (h after : S) (first n : ℕ) → first + n ≤ 2 ^ 32 → EachBy step h (λ k. commands.Clear (first + k)) (λ k. replies.Done) n after
    → DoesFrontBy step h (map (clear_at first) (upto n)) (record { done = n; refused = None }) after
first_clears step h after first n few s =
    let same : 0 + n ≡ n = omega arith in
    subst (λ k. DoesFrontBy step h (map (clear_at first) (upto k)) (record { done = k; refused = None }) after) same
    (does_on step (clear_at first) h h 0 (λ k. commands.Clear (first + k)) n after (λ k b. ap (λ z. commands.Clear z) (number k b)) (none_done step h) s)
  where
    number : (k : ℕ) → k < n → first + k ≡ number_after first (0 + k)
    number k b = omega (arith, few, b)

-- A slice whose words from `i` on are replaced.
module _ (old new : List ℕ) (i : ℕ) (l : i ≤ length old) where
  abbrev whole : List ℕ
  whole = put_mid i (length old - i) old new

  behind_front : whole ≡ take i old ++ new
  behind_front =
      let nothing : drop (length old - i) (drop i old) ≡ [] = drop_of_length-le (drop i old) (let e = length-drop i old in omega (arith, e)) in
      ap (λ zs. take i old ++ (new ++ zs)) nothing ∙ ap (λ zs. take i old ++ zs) (append_nil new)

  front : length (take i old) ≡ i
  front = length-take-le i old l

  pub front_same : take i whole ≡ take i old
  front_same = ap (take i) behind_front ∙ subst (λ k. take k (take i old ++ new) ≡ take i old) front (take-append_seam (take i old) new)

  module _ (n : ℕ) where
    pub front_more : take (i + n) whole ≡ take i old ++ take n new
    front_more = ap (take (i + n)) behind_front ∙ subst (λ k. take (k + n) (take i old ++ new) ≡ take i old ++ take n new) front (take-append-add (take i old) new n)

    pub rest_stays : drop n new ≡ drop n (drop i old) → drop (i + n) whole ≡ drop (i + n) old
    rest_stays e =
        ap (drop (i + n)) behind_front ∙ subst (λ k. drop (k + n) (take i old ++ new) ≡ drop n new) front (drop-append-add (take i old) new n) ∙ e ∙ drop-drop n i old

-- Word `k` after the first `i` is word `i + k`.
pub word_behind : (words : List ℕ) (i k : ℕ) → get_or (take (length words - i) (drop i words)) k 0 ≡ get_or words (i + k) 0
word_behind words i k = ap (λ xs. get_or xs k 0) (take_rest words i) ∙ get_or-drop i words k 0

pub word_first : (words : List ℕ) (i : ℕ) → get_or words (i + 0) 0 ≡ get_or words i 0
word_first words i = let e : i + 0 ≡ i = omega arith in ap (λ k. get_or words k 0) e
