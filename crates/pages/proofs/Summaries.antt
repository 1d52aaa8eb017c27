-- Rows of bits, level by level.
use Rattle.std.proofs.Common.{◌≡◌, ◌≢◌, ℕ, ◌+◌, ◌*◌, ◌/◌, ◌%◌, ◌^◌, ◌<◌, ◌≤◌, Bool, true, false, cond, List, length, replicate, get_or, set, Option, Some, None, ap, ◌∙◌, sym, inl, inr, arith, w64}
use Rattle.std.specs.Int.{bit_at}
use Rattle.std.proofs.lemmas.Bool.{cases_eq, cases_lt}
use Rattle.std.proofs.lemmas.List.{length-replicate, get_or-replicate, get_or_past, get_or-set_same, get_or-set_other}
use Rattle.std.proofs.lemmas.Nat.Bits.{bit_at-zero, bit_at-trailing_zeros}
use Rattle.pages.specs.Bits.{bit_in, word_bit, IsSummary, IsLowest, IsLowestBut}

-- what the bit of a word says
bit_zero : (n : ℕ) → n ≡ 0 → word_bit n ≡ 0
bit_zero n e = grind arith

bit_some : (n : ℕ) → 0 < n → word_bit n ≡ 1
bit_some n h = grind arith

word_zero : (n : ℕ) → word_bit n ≡ 0 → n ≡ 0
word_zero n e = elim (cases_lt 0 n) [ inl l ↦ absurd (let z = bit_some n l in omega (arith, z, e)) | inr l ↦ omega (arith, l) ]

word_some : (n : ℕ) → word_bit n ≡ 1 → 0 < n
word_some n e = elim (cases_lt 0 n) [ inl l ↦ l | inr l ↦ absurd (let z = bit_zero n (omega (arith, l)) in omega (arith, z, e)) ]

-- a word that has a bit isn't 0, and one that isn't 0 has a bit
has_some : (n i : ℕ) → bit_at n i ≡ 1 → 0 < n
has_some n i e = elim (cases_lt 0 n) [ inl l ↦ l | inr l ↦ absurd (let z : bit_at n i ≡ 0 = ap (λ x. bit_at x i) (omega (arith, l)) ∙ bit_at-zero i in omega (arith, z, e)) ]

some_bit : (n : ℕ) → 0 < n → n < 2 ^ 64 → (i : ℕ) × (i < 64) × (bit_at n i ≡ 1)
some_bit n h fits = let t = bit_at-trailing_zeros w64 n h fits in (_, t.0, t.1)

-- a word of zeros has no bit
zero_word : (words : List ℕ) (k : ℕ) → get_or words (k / 64) 0 ≡ 0 → bit_in words k ≡ 0
zero_word words k e = ap (λ x. bit_at x (k % 64)) e ∙ bit_at-zero (k % 64)

-- if no bit is set up to one, the words before its own are 0
pub zero_before : (words : List ℕ) (k : ℕ) → ((v : ℕ) → get_or words v 0 < 2 ^ 64) → ((i : ℕ) → i ≤ k → bit_in words i ≡ 0) → (v : ℕ) → v < k / 64 → get_or words v 0 ≡ 0
zero_before words k fits none v below = elim (cases_lt 0 (get_or words v 0)) [
  | inl l ↦ absurd (
      let s = some_bit (get_or words v 0) l (fits v) in
      let at : (64 * v + s.0) / 64 ≡ v = omega (arith, s.1) in
      let place : (64 * v + s.0) % 64 ≡ s.0 = omega (arith, s.1) in
      let one : bit_in words (64 * v + s.0) ≡ 1 = ap (λ n. bit_at (get_or words n 0) ((64 * v + s.0) % 64)) at ∙ ap (bit_at (get_or words v 0)) place ∙ s.2 in
      let z = none (64 * v + s.0) (omega (arith, s.1, below)) in
      omega (arith, z, one))
  | inr l ↦ omega (arith, l)
]

-- the lowest bit of the first word that isn't 0
pub lowest_by : (words : List ℕ) (w j : ℕ) → ((v : ℕ) → v < w → get_or words v 0 ≡ 0) → j < 64 → bit_at (get_or words w 0) j ≡ 1
    → ((i : ℕ) → i < j → bit_at (get_or words w 0) i ≡ 0) → IsLowest words (Some (64 * w + j))
lowest_by words w j before few here first =
    let at : (64 * w + j) / 64 ≡ w = omega (arith, few) in
    let place : (64 * w + j) % 64 ≡ j = omega (arith, few) in (
      ap (λ n. bit_at (get_or words n 0) ((64 * w + j) % 64)) at ∙ ap (bit_at (get_or words w 0)) place ∙ here,
      λ i l. elim (cases_lt (i / 64) w) [
        | inl below ↦ zero_word words i (before (i / 64) below)
        | inr past ↦ (let e : i / 64 ≡ w = omega (arith, l, few, past) in
            ap (λ n. bit_at (get_or words n 0) (i % 64)) e ∙ first (i % 64) (omega (arith, l, e)))
      ],
    )

pub none_by : (words : List ℕ) → ((v : ℕ) → get_or words v 0 ≡ 0) → IsLowest words None
none_by words zero = (tt, λ k _. zero_word words k (zero (k / 64)))

-- a level and the one above it
module _ (words above : List ℕ) (s : IsSummary words above) where
  word_none : (w : ℕ) → bit_in above w ≡ 0 → get_or words w 0 ≡ 0
  word_none w e = word_zero (get_or words w 0) (sym (s.each w) ∙ e)

  pub none_below : IsLowest above None → IsLowest words None
  none_below none = (tt, λ k _. zero_word words k (word_none (k / 64) (none.1 (k / 64) tt)))

  pub some_there : (w : ℕ) → IsLowest above (Some w) → 0 < get_or words w 0
  some_there w low = word_some (get_or words w 0) (sym (s.each w) ∙ low.0)

  word_there : (w : ℕ) → 0 < get_or words w 0 → w < length words
  word_there w some = elim (cases_lt w (length words)) [
    | inl l ↦ l
    | inr past ↦ absurd (let z = get_or_past words w 0 past in omega (arith, z, some))
  ]

  pub there : (w : ℕ) → IsLowest above (Some w) → w < length words
  there w low = word_there w (some_there w low)

  -- a bit that is found in the level above is of a word that is there
  pub found : (w j : ℕ) → ((v : ℕ) → v < w → get_or above v 0 ≡ 0) → j < 64 → bit_at (get_or above w 0) j ≡ 1
      → ((i : ℕ) → i < j → bit_at (get_or above w 0) i ≡ 0) → 64 * w + j < length words
  found w j before few here first = there (64 * w + j) (lowest_by above w j before few here first)

  pub lowest_below : (w j : ℕ) → IsLowest above (Some w) → j < 64 → bit_at (get_or words w 0) j ≡ 1
      → ((i : ℕ) → i < j → bit_at (get_or words w 0) i ≡ 0) → IsLowest words (Some (64 * w + j))
  lowest_below w j low = lowest_by words w j (λ v l. word_none v (low.1 v l))

  -- a word of the level above that isn't 0 stands for words that are there
  pub above_small : ((v : ℕ) → get_or above v 0 < 2 ^ 64) → (w : ℕ) → 0 < get_or above w 0 → 64 * w < length words
  above_small fits w some =
      let b = some_bit (get_or above w 0) some (fits w) in
      let at : (64 * w + b.0) / 64 ≡ w = omega (arith, b.1) in
      let place : (64 * w + b.0) % 64 ≡ b.0 = omega (arith, b.1) in
      let one : bit_in above (64 * w + b.0) ≡ 1 = ap (λ n. bit_at (get_or above n 0) ((64 * w + b.0) % 64)) at ∙ ap (bit_at (get_or above w 0)) place ∙ b.2 in
      let l : 64 * w + b.0 < length words = word_there (64 * w + b.0) (word_some (get_or words (64 * w + b.0) 0) (sym (s.each (64 * w + b.0)) ∙ one)) in
      omega (arith, l)

  -- if no bit is set up to bit k, and its word is 0, none is in the level above up to that word's
  pub none_above : (k : ℕ) → ((v : ℕ) → get_or words v 0 < 2 ^ 64) → ((i : ℕ) → i ≤ k → bit_in words i ≡ 0) → get_or words (k / 64) 0 ≡ 0
      → (w : ℕ) → w ≤ k / 64 → bit_in above w ≡ 0
  none_above k fits none zero w le = s.each w ∙ bit_zero (get_or words w 0) (elim (cases_lt w (k / 64)) [
    | inl l ↦ zero_before words k fits none w l
    | inr l ↦ ap (λ n. get_or words n 0) (omega (arith, l, le)) ∙ zero
  ])

-- one bit of one word is changed
module _ (words : List ℕ) (k word : ℕ) (on : Bool) (below : k < 64 * length words) (here : bit_at word (k % 64) ≡ cond on 1 0)
    (others : (i : ℕ) → i < 64 → i ≢ k % 64 → bit_at word i ≡ bit_at (get_or words (k / 64) 0) i) where
  inside : k / 64 < length words
  inside = omega (arith, below)

  read : get_or (set words (k / 64) word) (k / 64) 0 ≡ word
  read = get_or-set_same words (k / 64) word 0 inside

  pub put_words : (w : ℕ) → w ≢ k / 64 → get_or (set words (k / 64) word) w 0 ≡ get_or words w 0
  put_words w ne = get_or-set_other words (k / 64) w word 0 ne

  now : (b : ℕ) → word_bit word ≡ b → word_bit (get_or (set words (k / 64) word) (k / 64) 0) ≡ b
  now b e = ap word_bit read ∙ e

  some_on : on ≡ true → word_bit word ≡ 1
  some_on is = bit_some word (has_some word (k % 64) (here ∙ ap (λ b. cond b 1 0) is))

  pub kept_on : on ≡ true → 0 < get_or words (k / 64) 0 → word_bit (get_or (set words (k / 64) word) (k / 64) 0) ≡ word_bit (get_or words (k / 64) 0)
  kept_on is some = now (word_bit (get_or words (k / 64) 0)) (some_on is ∙ sym (bit_some (get_or words (k / 64) 0) some))

  pub kept_off : on ≡ false → 0 < word → word < 2 ^ 64 → word_bit (get_or (set words (k / 64) word) (k / 64) 0) ≡ word_bit (get_or words (k / 64) 0)
  kept_off is some fits =
      let s = some_bit word some fits in
      let zero : bit_at word (k % 64) ≡ 0 = here ∙ ap (λ b. cond b 1 0) is in
      let apart : s.0 ≢ k % 64 = λ e. (let z : bit_at word s.0 ≡ 0 = ap (bit_at word) e ∙ zero in omega (arith, z, s.2)) in
      let old : 0 < get_or words (k / 64) 0 = has_some (get_or words (k / 64) 0) s.0 (sym (others s.0 s.1 apart) ∙ s.2) in
      now (word_bit (get_or words (k / 64) 0)) (bit_some word some ∙ sym (bit_some (get_or words (k / 64) 0) old))

-- no bit is set
zeros : (n w : ℕ) → get_or (replicate {A = ℕ} n 0) w 0 ≡ 0
zeros n w = elim (cases_lt w n) [
  | inl l ↦ get_or-replicate {A = ℕ} n w 0 0 l
  | inr past ↦ get_or_past (replicate {A = ℕ} n 0) w 0 (omega (arith, past, length-replicate {A = ℕ} n 0))
]

pub none_set : (n : ℕ) → IsLowest (replicate {A = ℕ} n 0) None
none_set n = none_by (replicate {A = ℕ} n 0) (zeros n)

pub none_summed : (n m : ℕ) → n ≤ 64 * m → IsSummary (replicate {A = ℕ} n 0) (replicate {A = ℕ} m 0)
none_summed n m few = record {
  room = omega (arith, few, length-replicate {A = ℕ} n 0, length-replicate {A = ℕ} m 0);
  each = λ w. (none_set m).1 w tt ∙ sym (bit_zero (get_or (replicate {A = ℕ} n 0) w 0) (zeros n w));
}

-- the lowest bit once bit k is another
pub but_put : (words words' : List ℕ) (k : ℕ) (was : Option ℕ) → IsLowest words was → ((i : ℕ) → i ≢ k → bit_in words' i ≡ bit_in words i) → IsLowestBut words' k was
but_put words words' k None low others = (tt, λ i _ ne. others i ne ∙ low.1 i tt)
but_put words words' k (Some f) low others = (λ ne. others f ne ∙ low.0, λ i l ne. others i ne ∙ low.1 i l)

module _ (words : List ℕ) (k : ℕ) where
  pub none_left : bit_in words k ≡ 0 → IsLowestBut words k None → IsLowest words None
  none_left here but = (tt, λ i _. elim (cases_eq i k) [ inl e ↦ ap (bit_in words) e ∙ here | inr ne ↦ but.1 i tt ne ])
