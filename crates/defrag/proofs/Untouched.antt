-- Looks at pages that are free change no candidate.
use Rattle.std.proofs.Common.{◌≡◌, ℕ, zero, suc, ◌+◌, ◌<◌, ◌≤◌, List, Option, None, ap, ◌∙◌, sym, inl, inr, arith}
use Rattle.std.proofs.lemmas.Bool.{cases_eq}
use Rattle.std.specs.Prelude.{if◌then◌else◌}
use Rattle.heap_model.specs.declared.phase.Candidate.{Candidate}
use Rattle.heap_model.specs.Pages.{Page, page_at}
use Rattle.heap_model.specs.Action.{candidate_after, is_choosable, emptier, allocated_on}
use Rattle.defrag.specs.Candidates.{candidate_after_pages}

no_candidate : (pages : List (Option Page)) (class page : ℕ) (best : Option Candidate) → page_at pages page ≡ None → candidate_after pages class page best ≡ best
no_candidate pages class page best none =
    ap (λ (o : Option Page). if is_choosable class o then emptier best (record { page = page; allocated = allocated_on o }) else best) none

-- looks at more pages find the same if all of these are free
pub free_behind : (pages : List (Option Page)) (class from : ℕ) (best : Option Candidate) (n m : ℕ) → n ≤ m → ((k : ℕ) → from + n ≤ k → k < from + m → page_at pages k ≡ None)
    → candidate_after_pages pages class from best m ≡ candidate_after_pages pages class from best n
unfolding candidate_after_pages
free_behind pages class from best n zero le free = ap (candidate_after_pages pages class from best) (let e : zero ≡ n = omega (arith, le) in e)
free_behind pages class from best n (suc m) le free = elim (cases_eq n (suc m)) [
  | inl e ↦ ap (candidate_after_pages pages class from best) (sym e)
  | inr ne ↦ (let below : n ≤ m = omega (arith, le, ne) in
      no_candidate pages class (from + m) (candidate_after_pages pages class from best m) (free (from + m) (omega (arith, below)) (omega arith)) ∙ free_behind pages class from best n m below (λ k past within. free k past (omega (arith, within))))
]
