-- The number that bytes begin with.
use Rattle.std.proofs.Common.{◌≡◌, ℕ, zero, suc, ◌+◌, ◌-◌, ◌*◌, ◌^◌, ◌<◌, ◌≤◌, ◌⊎◌, inl, inr, List, [], ◌∷◌, ◌++◌, length, take, drop, get_or, Option, Some, None, arith, ap, sym, ◌∙◌, refl, length-append, length-take, take-take, append-nil}
use Rattle.std.specs.Prelude.{decimal, IfSome}
use Rattle.std.specs.Str.Parse.{AllDigits, digits_value}
use Rattle.std.proofs.lemmas.Option.{same_Some}
use Rattle.std.proofs.lemmas.Bool.{cases_lt}
use Rattle.std.proofs.lemmas.Int.Digits.{digits_more, digits_value_more}
use Rattle.std.proofs.lemmas.List.{take_at, take_all, get_or_at, get_or-take, get_or_append_left, get_or-append-add}
use Rattle.std.proofs.lemmas.Fmt.{decimal_is_IsNumeral, decimal_digit, decimal_nonempty, first_decimal, decimal-digits_value, length-decimal-le}
use Rattle.std.proofs.lemmas.Str.{digit_value_digit}
use Rattle.std.proofs.lemmas.Str.Parse.{digit_at, digits_value-take-le, numerals_by_value, tells_digits, digits_value_short}
use Rattle.trace.specs.Numbers.{DigitsSpell, NoDigitAt, Fronts}
use Rattle.trace.specs.Reading.{number_in, field_in}
use Rattle.trace.proofs.Numbers.{number_in-spelled, number_in-Some, number_in-None}
use Rattle.trace.proofs.Cuts.{parted}
use Rattle.trace.proofs.Exact.{narrow, wide, field_in-Some, field_in-spelled}

-- 18 digits and one more write a number below 10 ^ 19
pub row_small : (bytes : List ℕ) (n count : ℕ) → DigitsSpell bytes n count → count ≤ 18 → n < 10 ^ 18
row_small bytes n count r few = omega (arith, r.value, digits_value_short (numerals_by_value _ tells_digits) (take count bytes) 18 r.digits (omega (arith, few, length-take count bytes)))

-- 9 digits write a number of 32 bits
pub row_narrow : (bytes : List ℕ) (n count : ℕ) → DigitsSpell bytes n count → count ≤ 9 → n < 2 ^ 32
row_narrow bytes n count r few = omega (arith, r.value, digits_value_short (numerals_by_value _ tells_digits) (take count bytes) 9 r.digits (omega (arith, few, length-take count bytes)))

-- a row with a digit more
pub row_more : (bytes : List ℕ) (n count total : ℕ) → DigitsSpell bytes n count → count < length bytes → 48 ≤ get_or bytes count 0 → get_or bytes count 0 ≤ 57 → total ≡ n * 10 + (get_or bytes count 0 - 48) → DigitsSpell bytes total (count + 1)
row_more bytes n count total r inside low high is =
    let digit = digit_value_digit (get_or bytes count 0) (low, high) in
    record {
      within = omega (arith, inside);
      digits = digits_more 10 bytes count inside r.digits (omega (arith, digit, low, high));
      value = omega (arith, r.value, digits_value_more 10 bytes count inside, digit, is, low);
    }

-- no digit writes 0
pub row_none : (bytes : List ℕ) → DigitsSpell bytes 0 0
row_none bytes = record { within = omega arith; digits = tt; value = refl }

-- a number in front has no leading zero
module _ (bytes : List ℕ) (n count : ℕ) (r : DigitsSpell bytes n count) where
  pub row_fronts : 0 < count → (get_or bytes 0 0 ≡ 48 → count ≡ 1) → n < 2 ^ 64 → Fronts bytes n count
  row_fronts some lead small =
      let long : length (take count bytes) ≡ count = omega (arith, length-take count bytes, r.within) in
      record {
        fits = small;
        within = r.within;
        spelled = sym (ap decimal r.value ∙ decimal-digits_value (numerals_by_value _ tells_digits) (take count bytes) r.digits (omega (arith, long, some))
            (λ z. long ∙ lead (sym (get_or-take count bytes 0 0 some) ∙ z)) (omega (arith, r.value, small)));
      }

abbrev pub Pair : ℕ → ℕ → Option (ℕ × ℕ)
Pair n count = Some (n, count)

-- the bytes at the front, if they begin with a number
module _ (bytes rest : List ℕ) (m : ℕ) (fits : m < 2 ^ 64) (is : bytes ≡ decimal m ++ rest) (ends : NoDigitAt rest 0) where
  -- its digits are all the digits in front
  pub reach : (count : ℕ) → count ≤ length bytes → AllDigits 10 (take count bytes) → count ≤ length (decimal m)
  reach count within digits = elim (cases_lt (length (decimal m)) count) [
    | inl more ↦
        let long : length (take count bytes) ≡ count = omega (arith, length-take count bytes, within) in
        let here = digit_at (take count bytes) (length (decimal m)) digits (omega (arith, more, long)) in
        let at : get_or (take count bytes) (length (decimal m)) 0 ≡ get_or rest 0 0 =
        get_or-take count bytes (length (decimal m)) 0 more ∙ ap (λ l. get_or l (length (decimal m)) 0) is ∙ ap (λ k. get_or (decimal m ++ rest) k 0) (omega arith) ∙ get_or-append-add (decimal m) rest 0 0 in
        let inside : 0 < length rest = omega (arith, more, within, ap length is, length-append (decimal m) rest) in
        absurd (ends inside (omega (arith, here, at)) (omega (arith, here, at)))
    | inr few ↦ few
  ]

  -- and each of its bytes is a digit
  pub inner : (i : ℕ) → i < length (decimal m) → (48 ≤ get_or bytes i 0) × (get_or bytes i 0 ≤ 57)
  inner i inside =
      let d = digit_at (decimal m) i (decimal_is_IsNumeral m fits).0.1 inside in
      let same : get_or bytes i 0 ≡ get_or (decimal m) i 0 = ap (λ l. get_or l i 0) is ∙ get_or_append_left (decimal m) rest 0 i inside in
      (omega (arith, d, same), omega (arith, d, same))

  shorter : length (decimal m) ≤ length bytes
  shorter = omega (arith, ap length is, length-append (decimal m) rest)

  front_is : take (length (decimal m)) bytes ≡ decimal m
  front_is = ap (λ l. take (length (decimal m)) l) is ∙ take_at (decimal m) rest (length (decimal m)) refl

  -- a row that no digit follows is that number
  pub row_count : (n count : ℕ) → DigitsSpell bytes n count → NoDigitAt bytes count → count ≡ length (decimal m)
  row_count n count r last =
      let most = reach count r.within r.digits in
      elim (cases_lt count (length (decimal m))) [
        | inl less ↦ let d = inner count less in absurd (last (omega (arith, less, shorter)) d.0 d.1)
        | inr all ↦ omega (arith, all, most)
      ]

  pub row_is : (n count : ℕ) → DigitsSpell bytes n count → NoDigitAt bytes count → Pair n count ≡ Pair m (length (decimal m))
  row_is n count r last =
      let same = row_count n count r last in
      let value : n ≡ m = r.value ∙ ap (λ k. digits_value 10 (take k bytes)) same ∙ ap (digits_value 10) front_is ∙ (decimal_is_IsNumeral m fits).1 in
      ap (λ k. Pair k count) value ∙ ap (Pair m) same

  -- the first digits write at most the number
  pub row_most : (n count : ℕ) → DigitsSpell bytes n count → n ≤ m
  row_most n count r =
      let most = reach count r.within r.digits in
      let part : take count bytes ≡ take count (decimal m) = sym (take-take count (length (decimal m)) bytes most) ∙ ap (take count) front_is in
      omega (arith, r.value, ap (digits_value 10) part, digits_value-take-le 10 (decimal m) count (omega arith), (decimal_is_IsNumeral m fits).1)

  -- it has a digit, and at most 20
  pub some_digit : 0 < length (decimal m)
  some_digit = decimal_nonempty m fits

  pub few_digits : length (decimal m) ≤ 20
  few_digits = length-decimal-le 20 m (omega arith) (omega (arith, fits)) fits

  -- 21 digits are too many
  pub too_many : (n : ℕ) → DigitsSpell bytes n 19 → 20 < length bytes → (48 ≤ get_or bytes 19 0) × (get_or bytes 19 0 ≤ 57) → (48 ≤ get_or bytes 20 0) × (get_or bytes 20 0 ≤ 57) → ⊥
  too_many n r inside d e =
      let s = row_more bytes n 19 (n * 10 + (get_or bytes 19 0 - 48)) r (omega (arith, inside)) d.0 d.1 refl in
      let t = row_more bytes (n * 10 + (get_or bytes 19 0 - 48)) 20 ((n * 10 + (get_or bytes 19 0 - 48)) * 10 + (get_or bytes 20 0 - 48)) s inside e.0 e.1 refl in
      omega (arith, reach 21 t.within t.digits, few_digits)

  zero_alone : (k : ℕ) → m ≡ k → (48 < get_or bytes 0 0) ⊎ (m ≡ 0)
  zero_alone zero e = inr e
  zero_alone (suc k) e = inl (omega (arith, first_decimal m (omega (arith, e)) fits, ap (λ l. get_or l 0 0) is, get_or_append_left (decimal m) rest 0 0 some_digit))

  -- with a zero in front it is 0
  pub one_zero : get_or bytes 0 0 ≡ 48 → length (decimal m) ≡ 1
  one_zero z = elim (zero_alone m refl) [
    | inl h ↦ absurd (omega (arith, h, z))
    | inr e ↦ ap (λ k. length (decimal k)) e ∙ ap length (decimal_digit 0 (omega arith))
  ]

-- the promise of a reader of a number at the front
abbrev pub Only : List ℕ → Option (ℕ × ℕ) → Type 0
Only bytes result = (m : ℕ) (rest : List ℕ) → m < 2 ^ 64 → bytes ≡ decimal m ++ rest → NoDigitAt rest 0 → result ≡ Pair m (length (decimal m))

pub no_pair : (n k : ℕ) → None ≡ Pair n k → ⊥
no_pair n k e = cc e

pub pair_count : (a b c d : ℕ) → Pair a b ≡ Pair c d → b ≡ d
pair_count a b c d e = ap (λ (p : ℕ × ℕ). p.1) (same_Some (a, b) (c, d) e)

-- all the bytes as a number
pub word_is : (bytes : List ℕ) (w count : ℕ) → Fronts bytes w count → count ≡ length bytes → Some w ≡ number_in 64 bytes
word_is bytes w count f all = sym (number_in-spelled 64 w bytes f.fits f.fits (sym (take_all count bytes (omega (arith, all))) ∙ f.spelled))

nothing : NoDigitAt [] 0
nothing inside low high = omega (arith, inside)

pub whole_number : (bytes : List ℕ) (count : ℕ) (o : Option ℕ) → IfSome o (λ n. Fronts bytes n count) → count ≡ length bytes → IfSome o (λ n. Some n ≡ number_in 64 bytes)
whole_number bytes count None f all = tt
whole_number bytes count (Some n) f all = word_is bytes n count f all

pub word_none : (bytes : List ℕ) (o : Option (ℕ × ℕ)) → Only bytes o → ((n : ℕ) → o ≡ Pair n (length bytes) → ⊥) → None ≡ number_in 64 bytes
word_none bytes o only not = sym (number_in-None 64 bytes (λ n h e. not n (only n [] h (e ∙ sym (append-nil (decimal n))) nothing ∙ ap (Pair n) (ap length (sym e)))))

-- a number and a blank
pub field_is : (bytes : List ℕ) (w count : ℕ) → Fronts bytes w count → count < length bytes → get_or bytes count 0 ≡ 32 → Some (w, drop (count + 1) bytes) ≡ field_in 64 bytes
field_is bytes w count f inside blank =
    let is : bytes ≡ decimal w ++ 32 ∷ drop (count + 1) bytes = parted 32 bytes count inside blank ∙ ap (λ l. l ++ 32 ∷ drop (count + 1) bytes) f.spelled in
    sym (ap (field_in 64) is ∙ field_in-spelled 64 w (drop (count + 1) bytes) wide f.fits)

none_case : (o : Option (ℕ × List ℕ)) → ((a : ℕ × List ℕ) → o ≡ Some a → ⊥) → None ≡ o
none_case None h = refl
none_case (Some a) h = absurd (h a refl)

blank_ends : (rest : List ℕ) → NoDigitAt (32 ∷ rest) 0
blank_ends rest inside low high = omega (arith, low)

pub field_none : (bytes : List ℕ) (o : Option (ℕ × ℕ)) → Only bytes o → ((n count : ℕ) → o ≡ Pair n count → count < length bytes → get_or bytes count 0 ≡ 32 → ⊥) → None ≡ field_in 64 bytes
field_none bytes o only not = none_case (field_in 64 bytes) (λ a e.
    let f = field_in-Some 64 bytes a e in
    not a.0 (length (decimal a.0)) (only a.0 (32 ∷ a.1) f.1 f.0 (blank_ends a.1))
    (omega (arith, ap length f.0, length-append (decimal a.0) (32 ∷ a.1)))
    (ap (λ l. get_or l (length (decimal a.0)) 0) f.0 ∙ get_or_at (decimal a.0) 32 a.1 0 (length (decimal a.0)) refl))

pub blank_moved : (bytes : List ℕ) (count other : ℕ) → count ≡ other → get_or bytes other 0 ≡ 32 → get_or bytes count 0 ≡ 32
blank_moved bytes count other e blank = ap (λ k. get_or bytes k 0) e ∙ blank

-- fields of 32 bits, by those of 64
pub narrow_is : (bytes rest : List ℕ) (w : ℕ) → Some (w, rest) ≡ field_in 64 bytes → w < 2 ^ 32 → Some (w, rest) ≡ field_in 32 bytes
narrow_is bytes rest w e small =
    let f = field_in-Some 64 bytes (w, rest) (sym e) in
    sym (ap (field_in 32) f.0 ∙ field_in-spelled 32 w rest narrow small)

-- a number that is read of 64 bits, and has 32
pub number_narrow : (bytes : List ℕ) (n : ℕ) → Some n ≡ number_in 64 bytes → n < 2 ^ 32 → Some n ≡ number_in 32 bytes
number_narrow bytes n e small = let f = number_in-Some 64 n bytes (sym e) in sym (number_in-spelled 32 n bytes small f.0 f.1)

narrow_none : (bytes : List ℕ) → ((a : ℕ × List ℕ) → a.0 < 2 ^ 32 → Some a ≡ field_in 64 bytes → ⊥) → None ≡ field_in 32 bytes
narrow_none bytes not = none_case (field_in 32 bytes) (λ a e.
    let f = field_in-Some 32 bytes a e in
    not a f.1 (sym (ap (field_in 64) f.0 ∙ field_in-spelled 64 a.0 a.1 wide (narrow a.0 f.1))))

pub narrow_wide : (bytes rest : List ℕ) (w : ℕ) → Some (w, rest) ≡ field_in 64 bytes → 2 ^ 32 ≤ w → None ≡ field_in 32 bytes
narrow_wide bytes rest w e large = narrow_none bytes (λ a small is. omega (arith, ap (λ (p : ℕ × List ℕ). p.0) (same_Some (w, rest) a (e ∙ sym is)), small, large))

pub narrow_gone : (bytes : List ℕ) → None ≡ field_in 64 bytes → None ≡ field_in 32 bytes
narrow_gone bytes e = narrow_none bytes (λ a small is. gone a (e ∙ sym is))
  where
    gone : (a : ℕ × List ℕ) → None ≡ Some a → ⊥
    gone a e = cc e
