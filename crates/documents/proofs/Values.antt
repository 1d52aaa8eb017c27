-- Values at the keys of a document.
use Rattle.std.proofs.Common.{◌≡◌, true, Option, Some, None, refl, sym, ap, arith}
use Rattle.std.proofs.lemmas.Int.{ints}
use Rattle.std.specs.Prelude.{ℤ, pos, ◌≤ℤ◌, IfOk}
use Rattle.std.specs.Option.{ok_or, unwrap_or}
use Rattle.std.specs.Result.{result_err}
use Rattle.size_classes.specs.declared.key.Key.{Key}
use Rattle.size_classes.specs.declared.key.Key.TheVariants.{Pages, Mutators, Slots, Statics, Identities, DefragBelow, DefragPages, CollectorTicks, MutatorTicks, Rate, Live}
use Rattle.size_classes.specs.declared.fault.ConfigFault.TheVariants as faults
use Rattle.size_classes.specs.declared.ranges.Ranges.TheVariants.{File}
use Rattle.size_classes.specs.Keys.{name_of, row_of, is_between, is_allowed}
use Rattle.toml.specs.Data.{Data, Members, get_member}
use Rattle.documents.specs.ConfigFile.{value_fault, number_in, number_for, mutators_of}

-- Two values are one.
some_same : (a b : ℤ) → Some a ≡ Some b → a ≡ b
some_same a b e = ap (λ o. unwrap_or o a) e

-- A default is in its key's range.
pub default_within : (m : ℤ) (key : Key) (n : ℤ) → pos (row_of File m key).least ≤ℤ (row_of File m key).greatest → (row_of File m key).default ≡ Some n → is_allowed File m key n ≡ true
unfolding is_between
default_within m Pages n some e = cc
default_within m Mutators n some e = cc
default_within m Slots n some e = cc
default_within m Statics n some e = rw (← some_same _ _ e) refl
default_within m Identities n some e = rw (← some_same _ _ e) refl
default_within m DefragBelow n some e = rw (← some_same _ _ e) refl
default_within m DefragPages n some e = rw (← some_same _ _ e) refl
default_within m CollectorTicks n some e = rw (← some_same _ _ e) refl
default_within m MutatorTicks n some e = rw (← some_same _ _ e) refl
default_within m Rate n some e = rw (← some_same _ _ e) refl
default_within m Live n some e = rw (← some_same _ _ e) (grind (arith, ints))

-- A key without a value gives its default, or is missing.
pub missing_fault : (m : ℤ) (key : Key) (d : Option ℤ) → d ≡ (row_of File m key).default → result_err (ok_or d (faults.Missing key)) ≡ value_fault m key None
missing_fault m key None e = rw (← e) refl
missing_fault m key (Some n) e = rw (← e) refl

pub missing_value : (m : ℤ) (key : Key) (d : Option ℤ) → d ≡ (row_of File m key).default → IfOk (ok_or d (faults.Missing key)) (λ n. n ≡ number_in m key None)
missing_value m key None e = tt
missing_value m key (Some n) e = rw (← e) refl

pub missing_within : (m : ℤ) (key : Key) (d : Option ℤ) → pos (row_of File m key).least ≤ℤ (row_of File m key).greatest → d ≡ (row_of File m key).default → IfOk (ok_or d (faults.Missing key)) (λ n. is_allowed File m key n ≡ true)
missing_within m key None some e = tt
missing_within m key (Some n) some e = default_within m key n some (sym e)

-- The number at the key of the mutators doesn't depend on the number of mutators.
same_number : (m n : ℤ) (d : Option Data) → number_in m Mutators d ≡ number_in n Mutators d
same_number m n None = refl
same_number m n (Some value) = refl

pub mutators_same : (document : Members) → number_for document Mutators ≡ mutators_of document
mutators_same document = same_number (mutators_of document) (pos 0) (get_member (name_of Mutators) document)

-- If there is a mutator, some number of them may be live.
pub some_live : (m : ℤ) → is_allowed File m Mutators m ≡ true → pos 0 ≤ℤ m
unfolding is_between
some_live m e = grind (arith, ints)
