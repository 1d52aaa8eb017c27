use Rattle.std.proofs.Common.{rules, ◌∙◌, tests, string_bytes}
use Rattle.std.proofs.lemmas.Iterator.Search.{any_from_yields_List}
use Rattle.std.proofs.lemmas.Iterator.Consumers.{YieldsList-from_rest}
use Rattle.toml.specs.View.{view}
use Rattle.documents.proofs.Members.{any_entry}
use Rattle.documents.proofs.toml_table.any_member.Goals as goal

pub returns : goal.returns
returns g c = λ passes decides.
    any_from_yields_List (λ e. passes (string_bytes e.0) (view e.1)) _ _ _ c.any.ensures.ran
    (YieldsList-from_rest c.args.table.now.entries c.iter.ensures.rest)
    (λ x b q k. search (rules, tests, decides))
    ∙ any_entry passes c.args.table.now.entries
