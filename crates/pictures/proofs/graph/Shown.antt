-- Which objects are shown.
use Rattle.std.proofs.Common.{◌≡◌, ℕ, ◌<◌, false, nat_lt, List, take, ap, ◌∙◌, sym, arith}
use Rattle.std.specs.Prelude.{nat_eq}
use Rattle.std.specs.Set.{is_member}
use Rattle.std.proofs.lemmas.Bool.Decides.{Decides-ltb, same_from_decides}
use Rattle.std.proofs.lemmas.List.{length-take, get_or-take}
use Rattle.graph_heap.specs.declared.reachability.found.Found.{Found}
use Rattle.graph_heap.specs.Distance.{none_found, found_at, AreOnce}
use Rattle.graph_heap.specs.Search.{IsAt, IsNowhere}
use Rattle.graph_heap.proofs.Reaching.{stands_by}
use Rattle.pictures.specs.GraphDrawing.{shown_of}

module _ (found : List Found) (most id : ℕ) where
  taken_at : (k : ℕ) → k < most → (found_at (take most found) k).id ≡ (found_at found k).id
  taken_at k l = ap (λ (f : Found). f.id) (get_or-take most found k none_found l)

  -- one of the first is where it was found
  first_at : (k : ℕ) → IsAt (take most found) id k → (k < most) × IsAt found id k
  first_at k at = let few = length-take most found in let l : k < most = omega (arith, at.0, few) in (l, (omega (arith, at.0, few), sym (taken_at k l) ∙ at.1))

  -- what was found nowhere isn't shown
  pub nowhere_shown : IsNowhere found id → false ≡ is_member nat_eq (shown_of most found) id
  nowhere_shown none =
      same_from_decides {P = (k : ℕ) × IsAt (take most found) id k} false (is_member nat_eq (shown_of most found) id)
      (λ no. absurd (cc), λ w. absurd (let f = first_at w.0 w.1 in none w.0 f.1.0 f.1.1)) (stands_by (take most found) id)

  -- what was found at a place is shown if that is one of the first
  pub shown_by_place : (k : ℕ) → AreOnce found → IsAt found id k → nat_lt k most ≡ is_member nat_eq (shown_of most found) id
  shown_by_place k once at =
      same_from_decides {P = (j : ℕ) × IsAt (take most found) id j} (nat_lt k most) (is_member nat_eq (shown_of most found) id) (
        λ t. (let l = (Decides-ltb k most).0 t in let few = length-take most found in (k, (omega (arith, l, at.0, few), taken_at k l ∙ at.1))),
        λ w. (Decides-ltb k most).1 (let f = first_at w.0 w.1 in let same = once w.0 k f.1.0 at.0 (f.1.1 ∙ sym at.1) in omega (arith, same, f.0)),
      )
      (stands_by (take most found) id)
