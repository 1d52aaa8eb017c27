use Rattle.std.proofs.Common.{rules, ◌≡◌, refl, SFits, w64, to_z, of_z}
use Rattle.std.proofs.lemmas.Int.{to_z-of_z}
use Rattle.toml.proofs.Views.{table_get}
use Rattle.documents.proofs.config_file.mutators_in.Goals as goal

pub returns-in-Some : goal.returns-in-Some
returns-in-Some c =
    let found = table_get c.get.result c.name.result.now c.args.document.now.entries c.get.ensures.value in
    let here = rw (c.in-Some.is, c.name.ensures) at found in
    let fits : SFits w64 c.unwrap_or.result = search rules in
    let same : to_z w64 (of_z w64 c.unwrap_or.result) ≡ c.unwrap_or.result = to_z-of_z w64 c.unwrap_or.result fits in
    rw (← here, same, c.unwrap_or.ensures, c.as_integer.ensures) refl

pub returns-in-None : goal.returns-in-None
returns-in-None c =
    let found = table_get c.get.result c.name.result.now c.args.document.now.entries c.get.ensures.value in
    let here = rw (c.in-None.is, c.name.ensures) at found in
    rw (← here) refl
