-- Lines that are written one behind the other.
use Rattle.std.proofs.Common.{◌≡◌, ℕ, ◌+◌, ◌<◌, List, [], ◌∷◌, ◌++◌, length, drop, get_or, map, Option, None, Some, ap, ◌∙◌, sym, refl}
use Rattle.std.proofs.lemmas.Grind.{flat_map-append}
use Rattle.std.proofs.lemmas.List.{drop_more, map-append}
use Rattle.trace.specs.Lines.{text_of}
use Rattle.pictures.specs.Lines.{each_from, lines_text, present}
use Rattle.pictures.specs.Statements.{statement_line, dot_text}
use Rattle.pictures.proofs.Parts.{IsText}

pub lines_are : {A : Type 0} (line : A → List ℕ) → IsText (lines_text line)
unfolding lines_text
lines_are line = record {
  both = λ a b. ap text_of (map-append line a b) ∙ flat_map-append (λ bytes. bytes ++ 10 ∷ []) (map line a) (map line b);
  empty = refl;
}

pub dot_is : IsText dot_text
dot_is = lines_are statement_line

-- the next item of a list, and those behind it
pub next_on : {A : Type 0} (xs : List A) (d x : A) (k : ℕ) → k < length xs → x ≡ get_or xs k d → drop k xs ≡ (x ∷ []) ++ drop (k + 1) xs
next_on xs d x k l is = drop_more xs k d l ∙ ap (λ y. y ∷ drop (k + 1) xs) (sym is)

-- what is drawn of it, and of those behind it
pub each_on : {A B : Type 0} (drawn : ℕ → A → List B) (xs : List A) (d x : A) (k : ℕ) (here : List B) → k < length xs → x ≡ get_or xs k d → here ≡ drawn k x
    → each_from drawn k (drop k xs) ≡ here ++ each_from drawn (k + 1) (drop (k + 1) xs)
each_on drawn xs d x k here l is e =
    ap (each_from drawn k) (next_on xs d x k l is) ∙ ap (λ ys. ys ++ each_from drawn (k + 1) (drop (k + 1) xs)) (sym e)

-- the next of some items, if it is there, and those behind it
present_cons : {A : Type 0} (x : Option A) (xs : List (Option A)) → present (x ∷ xs) ≡ present (x ∷ []) ++ present xs
present_cons None xs = refl
present_cons (Some x) xs = refl

present_on : {A : Type 0} (xs : List (Option A)) (d x : Option A) (k : ℕ) → k < length xs → x ≡ get_or xs k d → present (drop k xs) ≡ present (x ∷ []) ++ present (drop (k + 1) xs)
present_on xs d x k l is = ap present (next_on xs d x k l is) ∙ present_cons x (drop (k + 1) xs)

pub present_some : {A : Type 0} (xs : List (Option A)) (d o : Option A) (x : A) (k : ℕ) → k < length xs → o ≡ get_or xs k d → o ≡ Some x → present (drop k xs) ≡ (x ∷ []) ++ present (drop (k + 1) xs)
present_some xs d o x k l is some = present_on xs d o k l is ∙ ap (λ z. present (z ∷ []) ++ present (drop (k + 1) xs)) some

pub present_none : {A : Type 0} (xs : List (Option A)) (d o : Option A) (k : ℕ) → k < length xs → o ≡ get_or xs k d → o ≡ None → present (drop k xs) ≡ present (drop (k + 1) xs)
present_none xs d o k l is none = present_on xs d o k l is ∙ ap (λ z. present (z ∷ []) ++ present (drop (k + 1) xs)) none
