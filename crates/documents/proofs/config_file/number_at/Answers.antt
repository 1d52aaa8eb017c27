use Rattle.std.proofs.Common.{rules, ◌≡◌, ◌∙◌, refl, sym, true, false, SFits, w64, to_z, of_z}
use Rattle.std.proofs.lemmas.Int.{to_z-of_z}
use Rattle.size_classes.specs.declared.ranges.Ranges.TheVariants.{File}
use Rattle.size_classes.specs.Keys.{row_of, is_allowed}
use Rattle.toml.proofs.Views.{table_get}
use Rattle.toml.specs.View.{table_view}
use Rattle.documents.specs.ConfigFile.{mutators_of}
use Rattle.documents.proofs.Values.{missing_fault, missing_value, missing_within}
use Rattle.documents.proofs.config_file.number_at.Goals as goal

pub returns-in_default : goal.returns-in_default
returns-in_default c =
    let found = table_get c.get.result c.name.result.now c.args.document.now.entries c.get.ensures.value in
    let key = c.args.key in
    let here = rw (c.in_default.is, c.name.ensures) at found in
    let m = mutators_of (table_view c.args.document.now) in
    let told = c.mutators_in-mutators in
    let fits : SFits w64 told.result = search rules in
    let same : to_z w64 (of_z w64 told.result) ≡ m = to_z-of_z w64 told.result fits ∙ told.ensures in
    let default : c.row.result.default ≡ (row_of File m key).default = rw same at c.row.ensures.default in
    record {
      fault = rw (← here, c.ok_or.ensures.value) (missing_fault m key _ default);
      value = rw (← here, c.ok_or.ensures.value) (missing_value m key _ default);
      within = λ some. rw c.ok_or.ensures.value (missing_within m key _ some default);
    }

pub returns-in-Some-as_integer : goal.returns-in-Some-as_integer
returns-in-Some-as_integer c =
    let found = table_get c.get.result c.name.result.now c.args.document.now.entries c.get.ensures.value in
    let here = rw (c.in-Some.is, c.name.ensures) at found in
    let whole = sym c.as_integer.ensures ∙ c.in-Some-as_integer.is in
    let number = c.in-Some-as_integer.number in
    let fits : SFits w64 number = search rules in
    let same : to_z w64 (of_z w64 number) ≡ number = to_z-of_z w64 number fits in
    let m = mutators_of (table_view c.args.document.now) in
    let told = c.mutators_in-mutators in
    let told_fits : SFits w64 told.result = search rules in
    let mutators : to_z w64 (of_z w64 told.result) ≡ m = to_z-of_z w64 told.result told_fits ∙ told.ensures in
    let allowed : is_allowed File m c.args.key (to_z w64 (of_z w64 number)) ≡ true = rw mutators at (sym c.allows.ensures ∙ c.if-allows.true) in
    record {
      fault = rw (← here, whole, rw same at allowed) refl;
      value = rw (← here, whole) same;
      within = λ some. allowed;
    }

pub returns-in-Some-2 : goal.returns-in-Some-2
returns-in-Some-2 c =
    let found = table_get c.get.result c.name.result.now c.args.document.now.entries c.get.ensures.value in
    let here = rw (c.in-Some.is, c.name.ensures) at found in
    let whole = sym c.as_integer.ensures ∙ c.in-Some-as_integer.is in
    let number = c.in-Some-as_integer.number in
    let fits : SFits w64 number = search rules in
    let m = mutators_of (table_view c.args.document.now) in
    let told = c.mutators_in-mutators in
    let told_fits : SFits w64 told.result = search rules in
    let mutators : to_z w64 (of_z w64 told.result) ≡ m = to_z-of_z w64 told.result told_fits ∙ told.ensures in
    let outside : is_allowed File m c.args.key number ≡ false = rw (mutators, to_z-of_z w64 number fits) at (sym c.allows.ensures ∙ c.if-allows.false) in
    record { fault = rw (← here, whole, outside) refl; value = tt; within = λ some. tt }

pub returns-in-None : goal.returns-in-None
returns-in-None c =
    let found = table_get c.get.result c.name.result.now c.args.document.now.entries c.get.ensures.value in
    let here = rw (c.in-Some.is, c.name.ensures) at found in
    record { fault = rw (← here, sym c.as_integer.ensures ∙ c.in-None.is) refl; value = tt; within = λ some. tt }
