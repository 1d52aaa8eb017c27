-- The candidate of a pass, after one look or several.
use Rattle.std.specs.Prelude.{ℕ, zero, suc, ◌+◌, List, Option}
use Rattle.heap_model.specs.declared.phase.Candidate.{Candidate}
use Rattle.heap_model.specs.Pages.{Page}
use Rattle.heap_model.specs.Action.{candidate_after}

-- the candidate after looks at this many pages, from one on
unfoldable pub candidate_after_pages : List (Option Page) → ℕ → ℕ → Option Candidate → ℕ → Option Candidate
candidate_after_pages pages class page best zero = best
candidate_after_pages pages class page best (suc n) =
    candidate_after pages class (page + n) (candidate_after_pages pages class page best n)
