-- A line for each item of a list.
use Rattle.std.proofs.Common.{◌≡◌, ℕ, ◌+◌, ◌<◌, List, [], ◌∷◌, ◌++◌, length, map, take, get_or, ap, ap₂, ◌∙◌, sym}
use Rattle.std.specs.List.{concat}
use Rattle.std.proofs.lemmas.List.{map-append, take_more}
use Rattle.plans.proofs.Rows.{concat_more}

-- The line of one more item comes behind the lines of those before it.
pub lines_more : {X : Type 0} (line_of : X → List ℕ) (items : List X) (i : ℕ) (d : X) (text new line : List ℕ) → i < length items → text ≡ concat (map line_of (take i items)) → new ≡ text ++ line → line ≡ line_of (get_or items i d)
    → new ≡ concat (map line_of (take (i + 1) items))
lines_more {X} line_of items i d text new line low so is same =
    let item = get_or items i d in
    let before = take i items in
    let all : map line_of (take (i + 1) items) ≡ map line_of before ++ line_of item ∷ [] = ap (map line_of) (take_more items i d low) ∙ map-append line_of before (item ∷ []) in
    is ∙ ap₂ (λ (x y : List ℕ). x ++ y) so same ∙ sym (concat_more (map line_of before) (line_of item)) ∙ ap concat (sym all)
