-- The order of faults in a document.
use Rattle.std.proofs.Common.{◌≡◌, false, List, [], ◌∷◌, ◌++◌, Option, Some, None, refl}
use Rattle.size_classes.specs.declared.fault.ConfigFault.{ConfigFault}
use Rattle.size_classes.specs.Config.{budget_fault}
use Rattle.toml.specs.Data.{Members}
use Rattle.documents.specs.ConfigFile.{has_unknown_key, keys_faults, settings_of, document_fault}
use Rattle.documents.specs.TomlTable.{first_some}

-- The first of two lists' values is the first of the one, or else the first of the other.
pub first_some-append : (xs ys : List (Option ConfigFault)) (o : Option ConfigFault) → first_some xs ≡ o → first_some (xs ++ ys) ≡ elim o [ None ↦ first_some ys | Some fault ↦ Some fault ]
first_some-append [] ys o e = rw (← e) refl
first_some-append (None ∷ xs) ys o e = first_some-append xs ys o e
first_some-append (Some fault ∷ xs) ys o e = rw (← e) refl

pub first_some-none : (xs : List (Option ConfigFault)) (b : Option ConfigFault) → first_some xs ≡ None → first_some (xs ++ b ∷ []) ≡ b
first_some-none xs None e = first_some-append xs _ None e
first_some-none xs (Some fault) e = first_some-append xs _ None e

pub first_some-some : (xs ys : List (Option ConfigFault)) (fault : ConfigFault) → first_some xs ≡ Some fault → first_some (xs ++ ys) ≡ Some fault
first_some-some xs ys fault e = first_some-append xs ys (Some fault) e

-- A document without unknown keys has the fault of a key, or else the fault of the budget.
pub document_fault-key : (document : Members) (fault : ConfigFault) → has_unknown_key document ≡ false → first_some (keys_faults document) ≡ Some fault → document_fault document ≡ Some fault
document_fault-key document fault known e = rw known (first_some-some (keys_faults document) _ fault e)

pub document_fault-budget : (document : Members) → has_unknown_key document ≡ false → first_some (keys_faults document) ≡ None → document_fault document ≡ budget_fault (settings_of document)
document_fault-budget document known e = rw known (first_some-none (keys_faults document) _ e)
