-- Files that words name, as far as contracts know them.
use Rattle.std.specs.Prelude.{◌≡◌, ℕ, ◌<◌, ◌≤◌, ◌⊎◌, ◌++◌, Bool, true, false, IsTrue, List, [], length, take, Option, Some, None, IfSome}
use Rattle.trace.specs.Streams.{Given, Stays}

-- The bytes of a file, if they are known, and whether opening or reading it failed.
pub record KnownFile : Type 0 where
  pub bytes : Option (List ℕ)
  pub failed : Bool

-- The file of each name, and standard input, as far as they are known.
pub record KnownFiles : Type 0 where
  pub named : List ℕ → KnownFile
  pub input : KnownFile

-- a file of which nothing is known: it may hold any bytes, and opening or reading it may fail
abbrev pub unknown_file : KnownFile
unknown_file = record { bytes = None; failed = true }

-- no file, which has no bytes
abbrev pub no_file : KnownFile
no_file = record { bytes = Some []; failed = false }

-- a reader that has these bytes, if they are known; a read of it may fail
abbrev pub read_from : Option (List ℕ) → KnownFile
read_from bytes = record { bytes = bytes; failed = true }

-- A source reads a file from its beginning: it has given nothing, no read has failed, and it has the file's bytes, if
-- they are known. If a read of it ever fails, the file counts as failed.
abbrev pub IsOpened : {S : Type 0} → (S → List ℕ) → (S → ℕ) → (S → Option (List ℕ)) → KnownFile → S → Type 0
IsOpened given failures input file source = (given source ≡ []) × (failures source ≡ 0) × Stays file.bytes (input source)
    × ((later : _) → 0 < failures later → IsTrue file.failed)

-- the bytes of a document that are read: one more than it may have shows that it is too long
abbrev pub document_bytes : List ℕ → List ℕ
document_bytes all = take 65537 all

-- This text is all that the source had still to give, or a beginning of it with as many bytes as the most.
abbrev pub IsFront : Option ℕ → Given → List ℕ → Type 0
IsFront most given text = (given.after ≡ given.before ++ text) × IfSome most (λ n. length text ≤ n)
    × (IsTrue given.ended ⊎ (most ≡ Some (length text)))
