-- The answer to a look of a pass.
use Rattle.std.specs.Prelude.{ℕ, ◌+◌, nat_lt, if◌then◌else◌, List, length, Option, Some, None}
use Rattle.heap_model.specs.declared.phase.Candidate.{Candidate}
use Rattle.heap_model.specs.Pages.{Page}
use Rattle.heap_model.specs.Action.{candidate_after, is_chosen}
use Rattle.defrag.specs.declared.choosing.Chosen.{Chosen}
use Rattle.defrag.specs.declared.choosing.Chosen.TheVariants as answers

-- after the last page: the best one, if it is chosen
abbrev pub chosen_of : List (Option Page) → ℕ → Option Candidate → Chosen
chosen_of pages class None = answers.NoPage
chosen_of pages class (Some c) = if is_chosen pages class (Some c) then answers.Page c.page else answers.NoPage

-- the answer after a look at a page, with the best page so far
abbrev pub chosen_after : List (Option Page) → ℕ → ℕ → Option Candidate → Chosen
chosen_after pages class page best =
    if nat_lt (page + 1) (length pages) then answers.Looked
    else chosen_of pages class (candidate_after pages class page best)
