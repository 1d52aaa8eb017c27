-- Texts in lines.
use Rattle.std.specs.Prelude.{◌≡◌, ◌≢◌, ℕ, ◌+◌, ◌<◌, ◌≤◌, List, [], ◌∷◌, ◌++◌, length, take, drop, All}
use Rattle.std.specs.List.{flat_map, AllByRecursion}

-- none of the bytes is LF (byte 10)
abbrev pub NoLf : List ℕ → Type 0
NoLf bytes = All (λ b. b ≢ 10) bytes

-- a line: at most 256 bytes, none of which is LF
abbrev pub IsLine : List ℕ → Type 0
IsLine line = NoLf line × (length line ≤ 256)

-- the text of lines: each with LF after it
abbrev pub text_of : List (List ℕ) → List ℕ
text_of lines = flat_map (λ line. line ++ 10 ∷ []) lines

-- the text is these lines, and then a rest
pub record Splits (text : List ℕ) (lines : List (List ℕ)) (rest : List ℕ) : Type 0 where
  pub whole : text ≡ text_of lines ++ rest
  pub each : AllByRecursion IsLine lines

-- A source gave some bytes more: after what was kept, they make this text.
pub record Comes (given given' kept text : List ℕ) : Type 0 where
  pub more : List ℕ
  pub given_more : given' ≡ given ++ more
  pub makes : kept ++ more ≡ text

-- the first LF stands at i, and i is at most 256
pub record FirstLf (bytes : List ℕ) (i : ℕ) : Type 0 where
  pub near : i ≤ 256
  pub within : i < length bytes
  pub here : bytes ≡ take i bytes ++ 10 ∷ drop (i + 1) bytes
  pub before : NoLf (take i bytes)
