-- TOML documents: opening one, and searching its members.
use Rattle.std.specs.Prelude.{◌≡◌, ℕ, ◌<◌, ◌≤◌, Bool, false, ◌||◌, ◌⊎◌, if◌then◌else◌, List, [], ◌∷◌, length, Option, Some, None, Result, Ok, Err, String}
use Rattle.std.specs.Str.{IsUtf8, is_utf8}
use Rattle.std.specs.BTreeMap.{BTreeMap}
use Rattle.std.specs.declared.alloc.Global.{Global}
use Rattle.toml.specs.Data.{Data, Members, no_members, member}
use Rattle.toml.specs.Errors.{IsBlank}
use Rattle.toml.specs.Parse.{parse_document}
use Rattle.toml.specs.View.{table_view}
use Rattle.toml.specs.declared.value.Value.{Value}
use Rattle.documents.specs.declared.toml_table.ReadFault.{ReadFault}
use Rattle.documents.specs.declared.toml_table.ReadFault.TheVariants.{Refused, NoMemory}

-- the members of the document in these bytes, if they are UTF-8 and TOML reads a document in them
abbrev pub document_of : List ℕ → Option Members
document_of bytes = if is_utf8 bytes then parse_document bytes else None

-- Memory may be refused for these bytes: they aren't too many, and are a text that isn't blank.
pub record NeedsMemory (bytes : List ℕ) : Type 0 where
  pub short : length bytes ≤ 65536
  pub text : IsUtf8 bytes
  pub said : ¬ (IsBlank bytes)

-- The table of a TOML document, by its keys.
abbrev pub Table : Type 0
Table = BTreeMap (String Global) Value

-- The answer to these bytes is the document in them, or the fault of too many bytes or of no document, or no memory.
abbrev pub IsOpened : {F : Type 0} → F → F → List ℕ → Result Table (ReadFault F) → Type 0
IsOpened too_long not_toml bytes (Ok table) = (length bytes ≤ 65536) × (document_of bytes ≡ Some (table_view table))
IsOpened too_long not_toml bytes (Err (Refused fault)) =
    ((65536 < length bytes) × (fault ≡ too_long))
    ⊎ ((length bytes ≤ 65536) × (document_of bytes ≡ None) × (fault ≡ not_toml))
IsOpened too_long not_toml bytes (Err NoMemory) = NeedsMemory bytes

-- whether some member passes a test
abbrev pub any_member : (List ℕ → Data → Bool) → Members → Bool
any_member test no_members = false
any_member test (member name value rest) = test name value || any_member test rest

-- the first value, if there is one
abbrev pub first_some : {F : Type 0} → List (Option F) → Option F
first_some [] = None
first_some (None ∷ rest) = first_some rest
first_some (Some fault ∷ rest) = Some fault
