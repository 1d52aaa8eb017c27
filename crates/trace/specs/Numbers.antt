-- Numbers at the front of bytes.
use Rattle.std.specs.Prelude.{◌≡◌, ℕ, ◌-◌, ◌^◌, ◌<◌, ◌≤◌, List, length, take, get_or, decimal}
use Rattle.std.specs.Str.Parse.{AllDigits, digits_value}

-- A digit (bytes 48 to 57) stands at i, and its value is d.
pub record DigitAt (bytes : List ℕ) (i d : ℕ) : Type 0 where
  pub within : i < length bytes
  pub low : 48 ≤ get_or bytes i 0
  pub high : get_or bytes i 0 ≤ 57
  pub value : d ≡ get_or bytes i 0 - 48

-- The first `count` bytes are digits, and write the number n.
pub record DigitsSpell (bytes : List ℕ) (n count : ℕ) : Type 0 where
  pub within : count ≤ length bytes
  pub digits : AllDigits 10 (take count bytes)
  pub value : n ≡ digits_value 10 (take count bytes)

-- no digit (bytes 48 to 57) stands at i
abbrev pub NoDigitAt : List ℕ → ℕ → Type 0
NoDigitAt bytes i = i < length bytes → 48 ≤ get_or bytes i 0 → get_or bytes i 0 ≤ 57 → ⊥

-- The first `count` bytes are the spelling of a number below 2 ^ 64.
pub record Fronts (bytes : List ℕ) (n count : ℕ) : Type 0 where
  pub fits : n < 2 ^ 64
  pub within : count ≤ length bytes
  pub spelled : take count bytes ≡ decimal n
