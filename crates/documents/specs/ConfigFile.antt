-- Configurations in files, and their faults.
use Rattle.std.specs.Prelude.{◌≡◌, ℕ, nat_lt, ℤ, pos, ◌≤ℤ◌, Bool, not, if◌then◌else◌, List, [], ◌∷◌, ◌++◌, map, length, Option, Some, None, is_some, Result, Ok, Err}
use Rattle.std.specs.Option.{unwrap_or}
use Rattle.std.specs.List.{list_any}
use Rattle.std.specs.Str.{bytes_eq}
use Rattle.size_classes.specs.declared.config.Config.{Config}
use Rattle.size_classes.specs.declared.ranges.Ranges.TheVariants.{File}
use Rattle.size_classes.specs.declared.key.Key.{Key}
use Rattle.size_classes.specs.declared.key.Key.TheVariants as keys_of_files
use Rattle.size_classes.specs.declared.key.TheConstants.Key.{ALL}
use Rattle.size_classes.specs.declared.fault.ConfigFault.{ConfigFault}
use Rattle.size_classes.specs.declared.fault.ConfigFault.TheVariants as faults
use Rattle.size_classes.specs.declared.settings.Settings.{Settings}
use Rattle.size_classes.specs.Keys.{name_of, row_of, is_allowed}
use Rattle.size_classes.specs.Config.{budget_fault, IsOf}
use Rattle.toml.specs.Data.{Data, as_integer, get_member, Members}
use Rattle.documents.specs.declared.toml_table.ReadFault.{ReadFault}
use Rattle.documents.specs.declared.toml_table.ReadFault.TheVariants.{Refused, NoMemory}
use Rattle.documents.specs.TomlTable.{document_of, NeedsMemory, any_member, first_some}

-- whether it is the name of a key
abbrev pub is_known : List ℕ → Bool
is_known name = list_any (λ key. bytes_eq (name_of key) name) ALL

-- whether a document has a key that isn't known
abbrev pub has_unknown_key : Members → Bool
has_unknown_key document = any_member (λ name value. not (is_known name)) document

-- the number at a key, or its default, in a file with this number of mutators
abbrev pub number_in : ℤ → Key → Option Data → ℤ
number_in mutators key None = unwrap_or (row_of File mutators key).default (pos 0)
number_in mutators key (Some value) = unwrap_or (as_integer value) (pos 0)

-- the document's number of mutators, or 0 if it has none; the row of this key doesn't depend on it
abbrev pub mutators_of : Members → ℤ
mutators_of document = number_in (pos 0) keys_of_files.Mutators (get_member (name_of keys_of_files.Mutators) document)

-- the fault of a whole number at a key, or of a value that is none
abbrev pub number_fault : ℤ → Key → Option ℤ → Option ConfigFault
number_fault mutators key None = Some (faults.NotWhole key)
number_fault mutators key (Some n) = if is_allowed File mutators key n then None else Some (faults.OutOfRange key)

-- the fault of the value at a key, or of a missing one
abbrev pub value_fault : ℤ → Key → Option Data → Option ConfigFault
value_fault mutators key None = if is_some (row_of File mutators key).default then None else Some (faults.Missing key)
value_fault mutators key (Some value) = number_fault mutators key (as_integer value)

-- the fault of a key of a document
abbrev pub key_fault : Members → Key → Option ConfigFault
key_fault document key = value_fault (mutators_of document) key (get_member (name_of key) document)

-- the number that a document has for a key, or the key's default
abbrev pub number_for : Members → Key → ℤ
number_for document key = number_in (mutators_of document) key (get_member (name_of key) document)

-- Some number is in the range of a key. For `live`, the number of mutators isn't negative.
abbrev pub HasRange : Members → Key → Type 0
HasRange document key = pos (row_of File (mutators_of document) key).least ≤ℤ (row_of File (mutators_of document) key).greatest

-- the settings that a document asks for
abbrev pub settings_of : Members → Settings
settings_of document = record {
  pages = number_for document keys_of_files.Pages;
  mutators = number_for document keys_of_files.Mutators;
  slots = number_for document keys_of_files.Slots;
  statics = number_for document keys_of_files.Statics;
  identities = number_for document keys_of_files.Identities;
  defrag_below = number_for document keys_of_files.DefragBelow;
  defrag_pages = number_for document keys_of_files.DefragPages;
  collector_ticks = number_for document keys_of_files.CollectorTicks;
  mutator_ticks = number_for document keys_of_files.MutatorTicks;
  rate = number_for document keys_of_files.Rate;
  live = number_for document keys_of_files.Live;
}

-- for each key in turn, its fault
abbrev pub keys_faults : Members → List (Option ConfigFault)
keys_faults document = map (key_fault document) ALL

-- the fault of a document with a key that isn't known
abbrev pub unknown_fault : Members → Option ConfigFault
unknown_fault document = if has_unknown_key document then Some faults.UnknownKey else None

-- the first fault of a document: a key that isn't known, then the fault of each key in turn, last the budget
abbrev pub document_fault : Members → Option ConfigFault
document_fault document =
    first_some (unknown_fault document ∷ keys_faults document ++ budget_fault (settings_of document) ∷ [])

-- the first fault of a parsed document, or that the bytes are none
abbrev pub fault_in : Option Members → Option ConfigFault
fault_in None = Some faults.NotToml
fault_in (Some document) = document_fault document

-- the first fault of a file of these bytes: it is too long, it is no document, or the document's
abbrev pub file_fault : List ℕ → Option ConfigFault
file_fault bytes = if nat_lt 65536 (length bytes) then Some faults.TooLong else fault_in (document_of bytes)

-- The configuration has the numbers of the document.
abbrev pub Configures : Option Members → Config → Type 0
Configures None config = ⊥
Configures (Some document) config = IsOf (settings_of document) config

-- The answer to a file of these bytes is the configuration, if the file has no fault, or its first fault, or no memory.
abbrev pub IsRead : List ℕ → Result Config (ReadFault ConfigFault) → Type 0
IsRead bytes (Ok config) = (file_fault bytes ≡ None) × Configures (document_of bytes) config
IsRead bytes (Err (Refused fault)) = file_fault bytes ≡ Some fault
IsRead bytes (Err NoMemory) = NeedsMemory bytes
