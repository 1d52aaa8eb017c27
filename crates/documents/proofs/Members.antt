-- The entries of a map, and the members of its document.
use Rattle.std.proofs.Common.{◌≡◌, ℕ, Bool, List, [], ◌∷◌, ◌||◌, refl, ap, String, Global}
use Rattle.std.specs.Prelude.{string_bytes}
use Rattle.std.specs.List.{list_any}
use Rattle.toml.specs.Data.{Data}
use Rattle.toml.specs.View.{view, members_view}
use Rattle.toml.specs.declared.value.Value.{Value}
use Rattle.documents.specs.TomlTable.{any_member}

pub any_entry : (passes : List ℕ → Data → Bool) (entries : List (String Global × Value)) → list_any (λ e. passes (string_bytes e.0) (view e.1)) entries ≡ any_member passes (members_view entries)
any_entry passes [] = refl
any_entry passes (e ∷ es) = ap (λ b. passes (string_bytes e.0) (view e.1) || b) (any_entry passes es)
