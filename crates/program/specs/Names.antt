-- Names of files, as texts in JSON that may stand in a page.
use Rattle.std.specs.Prelude.{ℕ, ◌/◌, ◌%◌, ◌==◌, ◌&&◌, not, nat_le, Bool, if◌then◌else◌, List, [], ◌∷◌, ◌++◌, codes}
use Rattle.std.specs.Char.{digit_char}
use Rattle.std.specs.List.{flat_map}

-- a byte that stands for itself: a printable one of ASCII, except `"` (34), `\` (92), and `<` (60), which might end a page's
-- data
abbrev pub stands_for_itself : ℕ → Bool
stands_for_itself byte = nat_le 32 byte && (nat_le byte 126 && (not (byte == 34) && (not (byte == 92) && not (byte == 60))))

-- the text of a byte: itself, or its escape, with two digits of base 16
abbrev pub byte_text : ℕ → List ℕ
byte_text byte = if stands_for_itself byte then byte ∷ []
    else codes "\\u00" ++ digit_char (byte / 16) ∷ digit_char (byte % 16) ∷ []

-- the names of a run's configuration and trace, as a member of its data
abbrev pub files_member : List ℕ → List ℕ → List ℕ
files_member config trace =
    codes "\"files\":[\"" ++ (flat_map byte_text config ++ (codes "\",\"" ++ (flat_map byte_text trace ++ codes "\"],\n")))
