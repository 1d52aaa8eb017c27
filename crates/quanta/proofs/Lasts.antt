-- The last item of a list.
use Rattle.std.proofs.Common.{◌≡◌, ◌-◌, List, [], ◌∷◌, ◌++◌, length, Option, Some, None, refl, ap, ◌∙◌, arith}
use Rattle.std.specs.List.{last_or, slice_get}

behind : {X : Type 0} (x : X) (xs : List X) → slice_get (x ∷ xs) (length xs) ≡ last_or (Some x) xs
behind x [] = refl
behind x (y ∷ ys) = behind y ys

pub slice_get-last : {X : Type 0} (xs : List X) → slice_get xs (length xs - 1) ≡ last_or None xs
slice_get-last [] = refl
slice_get-last (x ∷ xs) = let at : length (x ∷ xs) - 1 ≡ length xs = omega arith in ap (slice_get (x ∷ xs)) at ∙ behind x xs

pub last_or-append : {X : Type 0} (o : Option X) (xs : List X) (x : X) → last_or o (xs ++ x ∷ []) ≡ Some x
last_or-append o [] x = refl
last_or-append o (y ∷ ys) x = last_or-append (Some y) ys x
