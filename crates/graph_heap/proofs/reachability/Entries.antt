-- A graph heap that follows a legal history, entry after entry.
use Rattle.std.proofs.Common.{◌≡◌, ℕ, suc, ◌+◌, ◌<◌, ◌≤◌, List, ◌∷◌, length, get_or, take, drop, take_all, add-one, ap, ◌∙◌, sym, subst, refl}
use Rattle.std.proofs.Math.Seq.{drop-cons}
use Rattle.std.proofs.lemmas.List.{take_more}
use Rattle.graph_heap.specs.declared.command.Entry.{Entry}
use Rattle.graph_heap.specs.Graph.{Graph}
use Rattle.graph_heap.specs.History.{after, after_entry, IsEntryOf, IsLegal}
use Rattle.graph_heap.proofs.Histories.{after-push}

-- if the history is legal, its first entries lead to a graph heap, and the others are legal behind it
abbrev pub Follows : Graph → List Entry → ℕ → Graph → Type 0
Follows first history count g = IsLegal first history → (g ≡ after first (take count history)) × IsLegal g (drop count history)

pub follows_none : (first g : Graph) (history : List Entry) → g ≡ first → Follows first history 0 g
follows_none first g history e legal = (e, subst (λ x. IsLegal x history) (sym e) legal)

pub follows_more : (first : Graph) (history : List Entry) (count : ℕ) (d : Entry) (old new : Graph) → count < length history → Follows first history count old
    → (IsEntryOf old (get_or history count d) → new ≡ after_entry old (get_or history count d)) → Follows first history (count + 1) new
follows_more first history count d old new l f step legal =
    let b = f legal in
    let e = get_or history count d in
    let rest : IsLegal old (e ∷ drop (suc count) history) = subst (IsLegal old) (drop-cons history count d l) b.1 in
    let is : new ≡ after_entry old e = step rest.0 in
    let so : new ≡ after first (take (count + 1) history) = is ∙ ap (λ g. after_entry g e) b.0 ∙ sym (after-push first (take count history) e) ∙ ap (after first) (sym (take_more history count d l)) in
    let more : suc count ≡ count + 1 = rw add-one refl in
    (so, subst (λ n. IsLegal new (drop n history)) more (subst (λ g. IsLegal g (drop (suc count) history)) (sym is) rest.1))

pub follows_all : (first g : Graph) (history : List Entry) (count : ℕ) → length history ≤ count → Follows first history count g → IsLegal first history → g ≡ after first history
follows_all first g history count l f legal = (f legal).0 ∙ ap (after first) (take_all count history l)
