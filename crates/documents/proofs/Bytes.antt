-- The document in bytes, and its members.
use Rattle.std.proofs.Common.{◌≡◌, ℕ, Bool, true, false, cond, List, Option, None, refl}
use Rattle.std.proofs.lemmas.Str.{IsUtf8-from_is_utf8, is_utf8-from_IsUtf8}
use Rattle.std.specs.Str.{IsUtf8, is_utf8}
use Rattle.toml.specs.Data.{Members}
use Rattle.toml.specs.Parse.{parse_document}
use Rattle.documents.specs.TomlTable.{document_of}

-- A text's document is the one that TOML reads in it.
pub document_of-text : (bytes : List ℕ) (o : Option Members) → IsUtf8 bytes → parse_document bytes ≡ o → document_of bytes ≡ o
document_of-text bytes o text e = rw (is_utf8-from_IsUtf8 bytes text) e

-- Bytes that are no text are no document.
pub document_of-other : (bytes : List ℕ) → ¬ (IsUtf8 bytes) → document_of bytes ≡ None
document_of-other bytes other = go (is_utf8 bytes) refl
  where
    go : (b : Bool) → is_utf8 bytes ≡ b → cond b (parse_document bytes) None ≡ None
    go true e = absurd (other (IsUtf8-from_is_utf8 bytes e))
    go false e = refl
