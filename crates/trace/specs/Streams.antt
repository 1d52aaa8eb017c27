-- Readers and writers of bytes.
use Rattle.std.specs.Prelude.{◌≡◌, ℕ, ◌+◌, ◌<◌, Bool, IsTrue, List, [], ◌++◌, length, take, Option, Some, IfSome, Result, Ok, Err}

-- the number of failed calls, for one call with this result
abbrev pub failed : {A E : Type 0} → Result A E → ℕ
failed (Ok x) = 0
failed (Err e) = 1

-- The bytes of a source between two moments: those that it had given before and after, and whether its input has
-- ended.
pub record Given : Type 0 where
  pub before : List ℕ
  pub after : List ℕ
  pub ended : Bool

-- the bytes of a source between two moments, as contracts see it
abbrev pub given_by : {S : Type 0} → (S → List ℕ) → (S → Bool) → S → S → Given
given_by given ended old new = record { before = given old; after = given new; ended = ended new }

-- The bytes of a sink between two moments: those that it had taken before and after, and how many of the latter it
-- has sent on, from the first one.
pub record Taken : Type 0 where
  pub before : List ℕ
  pub after : List ℕ
  pub sent : ℕ

-- the bytes of a sink between two moments, as contracts see it
abbrev pub taken_by : {K : Type 0} → (K → List ℕ) → (K → ℕ) → K → K → Taken
taken_by taken sent old new = record { before = taken old; after = taken new; sent = sent new }

-- if all the bytes of an input are known, they stay
abbrev pub Stays : Option (List ℕ) → Option (List ℕ) → Type 0
Stays old new = IfSome old (λ all. new ≡ Some all)

-- The given bytes are a beginning of all the input, and all of it once the input has ended.
pub record Begins (given : List ℕ) (ended : Bool) (all : List ℕ) : Type 0 where
  pub rest : List ℕ
  pub whole : all ≡ given ++ rest
  pub over : IsTrue ended → rest ≡ []

-- new is old, and after it a beginning of the bytes that lacks at least one of them
abbrev pub GrowsByPart : List ℕ → List ℕ → List ℕ → Type 0
GrowsByPart old new bytes = (n : ℕ) × (n < length bytes) × (new ≡ old ++ take n bytes)
