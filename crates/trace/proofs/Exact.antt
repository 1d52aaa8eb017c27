-- Exact readers: each value that is read is spelled so, and each value that is spelled so is read.
use Rattle.std.proofs.Common.{◌≡◌, ℕ, zero, suc, ◌+◌, ◌^◌, ◌<◌, ◌≢◌, ◌⊎◌, inl, inr, Bool, true, false, cond, eqb, List, [], ◌∷◌, ◌++◌, length, take, drop, get_or, Some, None, nat_lt, Option, ap, ◌∙◌, sym, refl, arith, subst, length-append}
use Rattle.std.specs.Prelude.{decimal, position, find}
use Rattle.std.specs.List.{position_or_len}
use Rattle.std.specs.Str.{bytes_eq}
use Rattle.std.proofs.lemmas.Option.{same_Some}
use Rattle.std.proofs.lemmas.Bool.{lt-ltb, ltb-true, ne_eqb, eq-eqb, eqb-true}
use Rattle.std.proofs.lemmas.List.{take_at, drop_at, take-append-drop, get_or_at, get_or_append_left}
use Rattle.std.proofs.Math.Seq.{drop-append-add}
use Rattle.std.proofs.lemmas.List.Sums.{position_or_len_is, split_at_first, passes_at_first}
use Rattle.std.proofs.lemmas.Slice.Eq.{bytes_eq-Decides}
use Rattle.std.proofs.lemmas.Fmt.{digits_decimal}
use Rattle.std.proofs.lemmas.Str.Parse.{not_in_digits}
use Rattle.trace.specs.Spelling.{two, three, four}
use Rattle.trace.specs.Reading.{◌>>=◌, number_in, cut_at, after_in, after_or, field_in, two_in, three_in, four_in, number_then}
use Rattle.trace.proofs.Numbers.{found_case, read_digits, number_in-spelled, number_in-Some}

-- the parts of a value that was read in steps
pub bind_parts : {A B P : Type 0} (o : Option A) (f : A → Option B) (y : B) → (o >>= f) ≡ Some y → ((x : A) → o ≡ Some x → f x ≡ Some y → P) → P
bind_parts None f y e k = absurd (cc)
bind_parts (Some x) f y e k = k x refl e

pub told : {A : Type 0} (P : A → Type 0) (x y : A) → P x → Some x ≡ Some y → P y
told P x y h e = subst P (same_Some x y e) h

pub chosen : {A : Type 0} (b : Bool) (x y : Option A) (z : A) → cond b x y ≡ Some z → ((b ≡ true) × (x ≡ Some z)) ⊎ ((b ≡ false) × (y ≡ Some z))
chosen true x y z e = inl (refl, e)
chosen false x y z e = inr (refl, e)

-- a value that is found in a list passes the test
pub found_passes : {A : Type 0} (p : A → Bool) (xs : List A) (x : A) → find p xs ≡ Some x → p x ≡ true
found_passes p [] x e = absurd (cc)
found_passes p (y ∷ xs) x e = elim (chosen (p y) (Some y) (find p xs) x e) [
  | inl h ↦ told (λ z. p z ≡ true) y x h.0 h.1
  | inr r ↦ found_passes p xs x r.1
]

-- a word at the front, and the bytes after it
pub behind_is : (word bytes : List ℕ) → bytes_eq (take (length word) bytes) word ≡ true → bytes ≡ word ++ drop (length word) bytes
behind_is word bytes e = sym (take-append-drop (length word) bytes) ∙ ap (λ l. l ++ drop (length word) bytes) ((bytes_eq-Decides (take (length word) bytes) word).0 e)

pub after_in-Some : (word bytes rest : List ℕ) → after_in word bytes ≡ Some rest → bytes ≡ word ++ rest
unfolding after_in
after_in-Some word bytes rest e = elim (chosen (bytes_eq (take (length word) bytes) word) (Some (drop (length word) bytes)) None rest e) [
  | inl h ↦ behind_is word bytes h.0 ∙ ap (λ l. word ++ l) (same_Some (drop (length word) bytes) rest h.1)
  | inr h ↦ absurd (cc h.1)
]

pub after_in-spelled : (word rest : List ℕ) → after_in word (word ++ rest) ≡ Some rest
unfolding after_in
after_in-spelled word rest =
    let front = take_at word rest (length word) refl in
    let same : bytes_eq (take (length word) (word ++ rest)) word ≡ true = (bytes_eq-Decides (take (length word) (word ++ rest)) word).1 front in
    rw (same, drop_at word rest (length word) refl) refl

-- no such byte
abbrev pub Lacks : ℕ → List ℕ → Type 0
Lacks byte x = (k : ℕ) → k < length x → get_or x k 0 ≢ byte

abbrev is_byte : ℕ → ℕ → Bool
is_byte byte b = eqb b byte

cut_parts : (byte : ℕ) (bytes x y : List ℕ) (i : ℕ) → position_or_len (is_byte byte) bytes ≡ i → position_or_len (is_byte byte) bytes < length bytes → take i bytes ≡ x → drop (i + 1) bytes ≡ y → bytes ≡ x ++ byte ∷ y
cut_parts byte bytes x y i at within front back =
    let q = position_or_len (is_byte byte) bytes in
    let here : get_or bytes q 0 ≡ byte = eqb-true (get_or bytes q 0) byte (passes_at_first (is_byte byte) bytes 0 within) in
    split_at_first (is_byte byte) bytes 0 within
    ∙ ap (λ l. l ++ (get_or bytes q 0 ∷ drop (q + 1) bytes)) (ap (λ n. take n bytes) at ∙ front)
    ∙ ap (λ b. x ++ (b ∷ drop (q + 1) bytes)) here
    ∙ ap (λ l. x ++ (byte ∷ l)) (ap (λ n. drop (n + 1) bytes) at ∙ back)

pub cut_at-Some : (byte : ℕ) (bytes : List ℕ) (c : List ℕ × List ℕ) → cut_at byte bytes ≡ Some c → bytes ≡ c.0 ++ byte ∷ c.1
unfolding cut_at
cut_at-Some byte bytes c e =
    bind_parts (position (is_byte byte) bytes) _ c e (λ i ei e1.
    let place = found_case (nat_lt (position_or_len (is_byte byte) bytes) (length bytes)) (position_or_len (is_byte byte) bytes) i ei in
    cut_parts byte bytes c.0 c.1 i place.1 (ltb-true (position_or_len (is_byte byte) bytes) (length bytes) place.0)
    (ap (λ (d : List ℕ × List ℕ). d.0) (same_Some _ _ e1)) (ap (λ (d : List ℕ × List ℕ). d.1) (same_Some _ _ e1)))

cut_at_place : (byte n : ℕ) (bytes : List ℕ) → position (is_byte byte) bytes ≡ Some n → cut_at byte bytes ≡ Some (take n bytes, drop (n + 1) bytes)
unfolding cut_at
cut_at_place byte n bytes e = ap (λ o. o >>= (λ i. Some (take i bytes, drop (i + 1) bytes))) e

same_pair : (a b c d : List ℕ) → a ≡ c → b ≡ d → ◌≡◌ {A = Option (List ℕ × List ℕ)} (Some (a, b)) (Some (c, d))
same_pair a b c d e f = cc

pub cut_at-spelled : (byte : ℕ) (x y : List ℕ) → Lacks byte x → cut_at byte (x ++ byte ∷ y) ≡ Some (x, y)
cut_at-spelled byte x y none =
    let bytes = x ++ byte ∷ y in
    let n : length x < length bytes = omega (arith, length-append x (byte ∷ y)) in
    let at : position_or_len (is_byte byte) bytes ≡ length x = position_or_len_is (is_byte byte) bytes (length x) 0 (omega arith)
    (λ k h. ne_eqb (get_or bytes k 0) byte (λ e. none k h (sym (get_or_append_left x (byte ∷ y) 0 k h) ∙ e)))
    (λ h. eq-eqb (get_or bytes (length x) 0) byte (get_or_at x byte y 0 (length x) refl)) in
    let found : position (is_byte byte) bytes ≡ Some (length x) = rw at (ap (λ b. cond b (Some (length x)) None) (lt-ltb (length x) (length bytes) n)) in
    cut_at_place byte (length x) bytes found
    ∙ same_pair _ _ x y (take_at x (byte ∷ y) (length x) refl) (drop-append-add x (byte ∷ y) 1)

-- a text in which a test finds no such byte
abbrev pub free : ℕ → List ℕ → Bool
free byte [] = true
free byte (c ∷ cs) = cond (eqb c byte) false (free byte cs)

free_parts : (b r : Bool) → cond b false r ≡ true → (b ≡ false) × (r ≡ true)
free_parts true r e = absurd (cc)
free_parts false r e = (refl, e)

pub lacks : (byte : ℕ) (x : List ℕ) → free byte x ≡ true → Lacks byte x
lacks byte [] h k l e = absurd (omega (arith, l))
lacks byte (c ∷ cs) h zero l e =
    let no : eqb c byte ≡ false = (free_parts (eqb c byte) (free byte cs) h).0 in
    let yes : eqb c byte ≡ true = eq-eqb c byte e in
    absurd (cc)
lacks byte (c ∷ cs) h (suc k) l e = lacks byte cs (free_parts (eqb c byte) (free byte cs) h).1 k (omega (arith, l)) e

pub plain : (byte n : ℕ) → byte < 48 ⊎ 57 < byte → n < 2 ^ 64 → Lacks byte (decimal n)
plain byte n out h k l = not_in_digits read_digits (decimal n) byte (digits_decimal read_digits n h) (λ r. absurd (omega (arith, r.0, out))) k l

-- a reader returns the values that fit, each for its one text
pub record Exact {A : Type 0} (read : List ℕ → Option A) (text : A → List ℕ) (Fits : A → Type 0) : Type 0 where
  pub found : (bytes : List ℕ) (x : A) → read bytes ≡ Some x → (bytes ≡ text x) × Fits x
  pub only : (x : A) → Fits x → read (text x) ≡ Some x

-- either a word was at the front and the bytes after it were read, or there is another result
pub word_or : {A P : Type 0} (o : Option (List ℕ)) (read : List ℕ → Option A) (other : Option A) (x : A) → after_or o read other ≡ Some x
    → ((rest : List ℕ) → o ≡ Some rest → read rest ≡ Some x → P) → (other ≡ Some x → P) → P
word_or None read other x e f g = g e
word_or (Some rest) read other x e f g = f rest refl e

-- the value read after a word at the front, made into another value that has a spelling
pub made_of : {A B : Type 0} (Is : List ℕ → B → Type 0) (word bytes rest : List ℕ) (read : List ℕ → Option A) (text : A → List ℕ) (Fits : A → Type 0) → Exact read text Fits → (f : A → B) → ((x : A) → Fits x → Is (word ++ text x) (f x))
    → (y : B) → after_in word bytes ≡ Some rest → (read rest >>= λ x. Some (f x)) ≡ Some y → Is bytes y
made_of Is word bytes rest read text Fits exact f is y front e = bind_parts (read rest) _ y e (λ x ex e1.
    let r = exact.found rest x ex in
    told (Is bytes) (f x) y (subst (λ l. Is l (f x)) (sym (after_in-Some word bytes rest front ∙ ap (λ l. word ++ l) r.0)) (is x r.1)) e1)

-- numbers of this many bits are numbers of 64
abbrev pub Narrow : ℕ → Type 0
Narrow bits = (n : ℕ) → n < 2 ^ bits → n < 2 ^ 64

pub narrow : Narrow 32
narrow n h = omega arith

pub wide : Narrow 64
wide n h = h

pub exact_number : (bits : ℕ) → Narrow bits → Exact (number_in bits) decimal (λ n. n < 2 ^ bits)
exact_number bits to = record {
  found = λ bytes n e. let f = number_in-Some bits n bytes e in (f.1, f.0);
  only = λ n h. number_in-spelled bits n (decimal n) h (to n h) refl;
}

pub field_in-Some : (bits : ℕ) (bytes : List ℕ) (a : ℕ × List ℕ) → field_in bits bytes ≡ Some a → (bytes ≡ decimal a.0 ++ 32 ∷ a.1) × (a.0 < 2 ^ bits)
unfolding field_in
field_in-Some bits bytes a e =
    bind_parts (cut_at 32 bytes) _ a e (λ c ec e1. bind_parts (number_in bits c.0) _ a e1 (λ n en e2.
    let f = number_in-Some bits n c.0 en in
    told (λ (b : ℕ × List ℕ). (bytes ≡ decimal b.0 ++ 32 ∷ b.1) × (b.0 < 2 ^ bits)) (n, c.1) a (cut_at-Some 32 bytes c ec ∙ ap (λ l. l ++ 32 ∷ c.1) f.1, f.0) e2))

pub field_in-spelled : (bits n : ℕ) (rest : List ℕ) → Narrow bits → n < 2 ^ bits → field_in bits (decimal n ++ 32 ∷ rest) ≡ Some (n, rest)
unfolding field_in
field_in-spelled bits n rest to h =
    rw (cut_at-spelled 32 (decimal n) rest (plain 32 n (inl (omega arith)) (to n h)), number_in-spelled bits n (decimal n) h (to n h) refl) refl

-- a number and a blank before the value of another reader
module _ {A : Type 0} (bits : ℕ) (to : Narrow bits) (read : List ℕ → Option A) (text : A → List ℕ) (Fits : A → Type 0) (behind : Exact read text Fits) where
  abbrev pub front_text : ℕ × A → List ℕ
  front_text p = decimal p.0 ++ 32 ∷ text p.1

  abbrev pub FrontFits : ℕ × A → Type 0
  FrontFits p = (p.0 < 2 ^ bits) × Fits p.1

  front_found : (bytes : List ℕ) (p : ℕ × A) → number_then bits read bytes ≡ Some p → (bytes ≡ front_text p) × FrontFits p
  front_found bytes p e =
      bind_parts (field_in bits bytes) _ p e (λ a ea e1. bind_parts (read a.1) _ p e1 (λ b eb e2.
      let f = field_in-Some bits bytes a ea in
      let r = behind.found a.1 b eb in
      told (λ (q : ℕ × A). (bytes ≡ front_text q) × FrontFits q) (a.0, b) p (f.0 ∙ ap (λ l. decimal a.0 ++ 32 ∷ l) r.0, (f.1, r.1)) e2))

  front_only : (p : ℕ × A) → FrontFits p → number_then bits read (front_text p) ≡ Some p
  front_only p f = rw (field_in-spelled bits p.0 (text p.1) to f.0, behind.only p.1 f.1) refl

  pub exact_front : Exact (number_then bits read) front_text FrontFits
  exact_front = record { found = front_found; only = front_only }

abbrev Below : ℕ → ℕ → Type 0
Below bits n = n < 2 ^ bits

pub exact_two : (a b : ℕ) → Narrow a → Narrow b → Exact (two_in a b) (λ p. two p.0 p.1) (λ p. (p.0 < 2 ^ a) × (p.1 < 2 ^ b))
exact_two a b to_a to_b = exact_front a to_a (number_in b) decimal (Below b) (exact_number b to_b)

pub exact_three : (a b c : ℕ) → Narrow a → Narrow b → Narrow c → Exact (three_in a b c) (λ p. three p.0 p.1.0 p.1.1) (λ p. (p.0 < 2 ^ a) × ((p.1.0 < 2 ^ b) × (p.1.1 < 2 ^ c)))
exact_three a b c to_a to_b to_c = exact_front a to_a (two_in b c) _ _ (exact_two b c to_b to_c)

pub exact_four : (a b c d : ℕ) → Narrow a → Narrow b → Narrow c → Narrow d → Exact (four_in a b c d) (λ p. four p.0 p.1.0 p.1.1.0 p.1.1.1) (λ p. (p.0 < 2 ^ a) × ((p.1.0 < 2 ^ b) × ((p.1.1.0 < 2 ^ c) × (p.1.1.1 < 2 ^ d))))
exact_four a b c d to_a to_b to_c to_d = exact_front a to_a (three_in b c d) _ _ (exact_three b c d to_b to_c to_d)
