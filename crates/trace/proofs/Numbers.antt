-- The number that bytes spell.
use Rattle.std.proofs.Common.{◌≡◌, ℕ, ◌+◌, ◌/◌, ◌%◌, ◌^◌, ◌<◌, ◌≤◌, Bool, true, false, ◌&&◌, cond, List, [], ◌∷◌, ◌++◌, Some, None, nat_lt, Option, ap, ◌∙◌, sym, refl, subst, append_assoc}
use Rattle.std.specs.Prelude.{decimal}
use Rattle.std.specs.Str.{bytes_eq}
use Rattle.std.specs.Str.Parse.{AllDigits, digits_value}
use Rattle.std.proofs.lemmas.Bool.{lt-ltb, ltb-true, and_parts}
use Rattle.std.proofs.lemmas.Slice.Eq.{bytes_eq-Decides}
use Rattle.std.proofs.lemmas.Fmt.{decimal_is_IsNumeral, decimal_step}
use Rattle.std.proofs.lemmas.Str.Parse.{numerals_by_value, tells_digits, IsNumeralModel}
use Rattle.trace.specs.Reading.{number_in}

both_true : (a b : Bool) → a ≡ true → b ≡ true → (a && b) ≡ true
both_true true b p q = q
both_true false b p q = p

-- a number that is spelled so is read
pub number_in-spelled : (bits n : ℕ) (bytes : List ℕ) → n < 2 ^ bits → n < 2 ^ 64 → bytes ≡ decimal n → number_in bits bytes ≡ Some n
unfolding number_in
number_in-spelled bits n bytes h wide e =
    let v : digits_value 10 bytes ≡ n = ap (digits_value 10) e ∙ (decimal_is_IsNumeral n wide).1 in
    let small : nat_lt (digits_value 10 bytes) (2 ^ bits) ≡ true = ap (λ m. nat_lt m (2 ^ bits)) v ∙ lt-ltb n (2 ^ bits) h in
    let same : bytes_eq bytes (decimal (digits_value 10 bytes)) ≡ true = (bytes_eq-Decides bytes (decimal (digits_value 10 bytes))).1 (e ∙ ap decimal (sym v)) in
    ap (λ b. cond b (Some (digits_value 10 bytes)) None) (both_true _ _ small same) ∙ ap Some v

-- the value found by a test
pub found_case : {A : Type 0} (b : Bool) (x y : A) → cond b (Some x) None ≡ Some y → (b ≡ true) × (x ≡ y)
found_case true x y e = (refl, (cc))
found_case false x y e = absurd (cc)

-- the digits of a number are those that std reads
pub read_digits : IsNumeralModel (AllDigits 10) (digits_value 10)
read_digits = numerals_by_value (AllDigits 10) tells_digits

-- a number that is read is spelled so
pub number_in-Some : (bits n : ℕ) (bytes : List ℕ) → number_in bits bytes ≡ Some n → (n < 2 ^ bits) × (bytes ≡ decimal n)
unfolding number_in
number_in-Some bits n bytes e =
    let f = found_case (nat_lt (digits_value 10 bytes) (2 ^ bits) && bytes_eq bytes (decimal (digits_value 10 bytes))) (digits_value 10 bytes) n e in
    let parts = and_parts (nat_lt (digits_value 10 bytes) (2 ^ bits)) (bytes_eq bytes (decimal (digits_value 10 bytes))) f.0 in
    (subst (λ m. m < 2 ^ bits) f.1 (ltb-true (digits_value 10 bytes) (2 ^ bits) parts.0), (bytes_eq-Decides bytes (decimal (digits_value 10 bytes))).0 parts.1 ∙ ap decimal f.1)

none_case : (o : Option ℕ) → ((n : ℕ) → o ≡ Some n → ⊥) → o ≡ None
none_case None h = refl
none_case (Some n) h = absurd (h n refl)

pub number_in-None : (bits : ℕ) (bytes : List ℕ) → ((n : ℕ) → n < 2 ^ bits → bytes ≡ decimal n → ⊥) → number_in bits bytes ≡ None
number_in-None bits bytes h = none_case (number_in bits bytes) (λ n e. let f = number_in-Some bits n bytes e in h n f.0 f.1)

-- the last digit, after the others
pub one_digit_more : (front mid after : List ℕ) (n : ℕ) → 10 ≤ n → n < 2 ^ 64 → mid ≡ front ++ decimal (n / 10) → after ≡ mid ++ ((48 + n % 10) ∷ []) → after ≡ front ++ decimal n
one_digit_more front mid after n some fits e is =
    is ∙ ap (λ l. l ++ ((48 + n % 10) ∷ [])) e ∙ append_assoc front (decimal (n / 10)) ((48 + n % 10) ∷ []) ∙ ap (λ l. front ++ l) (sym (decimal_step n some fits))
