-- A std reader as a source.
use Rattle.std.specs.Prelude.{◌≡◌, ℕ, Bool, true, List, [], refl, Option, Some, None, IfSome}
use Rattle.std.specs.Option.{ForSome}
use Rattle.std.specs.Io.KnownBytes.{prepend_known}
use Rattle.trace.specs.Streams.{Begins}

-- if the bytes left are known, the input is the bytes given before and those
pub left_begins : (left : Option (List ℕ)) (given : List ℕ) (ended : Bool)
    → (ended ≡ true → ForSome left (λ rest. rest ≡ []))
    → IfSome (prepend_known given left) (λ all. Begins given ended all)
left_begins None given ended over = tt
left_begins (Some rest) given ended over = record { rest = rest; whole = refl; over = λ h. over h rest refl }
