-- The commands and budgets that the workers of a play have done.
use Rattle.std.specs.Prelude.{ℕ, ◌≡◌, ◌↔◌, ◌<◌, ◌≤◌, ◌⊎◌, true, false, List, [], ◌∷◌, length, map, take, drop, All, sum, slice_index, slice_index_or}
use Rattle.std.specs.List.{AllZip}
use Rattle.graph_heap.specs.declared.command.Command.{Command}
use Rattle.graph_heap.specs.declared.command.Entry.{Entry}
use Rattle.graph_heap.specs.Merge.{mine, commands_of, upto, IsMerge}
use Rattle.heap_model.specs.Event.{IsBudget}
use Rattle.heap_model.specs.ReachedFrom.{IsReachedFrom}
use Rattle.heap_model.specs.Settings.{HeapSettings}
use Rattle.heap_server.specs.Views.{PacerView, SeatView}
use Rattle.heap_server.specs.Seats.{mutators_of}
use Rattle.heap_server.specs.Kept.{IsSound}
use Rattle.heap_server.specs.declared.play.Outcome.{Outcome}

-- The history has exactly the first `done` commands of each mutator's script, in their order, and none of a mutator
-- without a script.
abbrev pub HasFronts : List Entry → List (List Command) → List ℕ → Type 0
HasFronts h scripts done = (m : ℕ) → commands_of (mine h m) ≡ take (slice_index done m) (slice_index_or scripts m [])

-- the first list is the second one with some left out
abbrev pub IsPart : List Command → List Command → Type 0
IsPart [] ys = Unit {0}
IsPart (x ∷ xs) [] = ⊥
IsPart (x ∷ xs) (y ∷ ys) = ((x ≡ y) × IsPart xs ys) ⊎ IsPart (x ∷ xs) ys

-- The seat has made no more calls than its script has commands. The entries that it has seen include those of as many
-- first commands of the script.
pub record HasPlayed (s : SeatView) (script : List Command) : Type 0 where
  pub within : s.calls ≤ length script
  pub told : IsPart (take s.calls script) (commands_of (mine s.seen s.mutator))

-- The seat of a mutator, which had made no call, has made no more calls than its script has commands. Among the entries
-- that it has seen are those of as many first commands of the script.
pub record IsPlayed (script : List Command) (old new : SeatView) : Type 0 where
  pub mutator : new.mutator ≡ old.mutator
  pub within : new.calls ≤ length script
  pub told : IsPart (take new.calls script) (commands_of (mine new.seen new.mutator))

-- The seats of this many mutators, in rising order, after these scripts. Each of the first seats has played its script,
-- or the first commands of it. No call was made from the others.
pub record HavePlayed (mutators : ℕ) (scripts : List (List Command)) (seats : List SeatView) : Type 0 where
  pub all : mutators_of seats ≡ upto mutators
  pub played : AllZip HasPlayed (take (length scripts) seats) scripts
  pub rest : All (λ s. s.calls ≡ 0) (drop (length scripts) seats)

-- Budgets were used, all up to the first that is no budget of a quantum. Each was used for one quantum, which spent at
-- least one unit and at most the whole budget. At most one cycle was begun for each budget.
pub record IsCollected (budgets : List ℕ) (used : ℕ) (p : PacerView) : Type 0 where
  pub within : used ≤ length budgets
  pub allowed : All IsBudget (take used budgets)
  pub stops : used < length budgets → ¬ IsBudget (slice_index budgets used)
  pub done : p.quanta ≡ used
  pub begun : p.begun ≤ length budgets
  pub least : used ≤ p.spent
  pub most : p.spent ≤ sum (take used budgets)

-- The outcome of scripts and budgets on a new heap of these settings. It is sound. Each entry of its history is counted
-- once, for one script, and no script counts more than it has. If the place word isn't torn, the history has the first
-- commands of each script. The cycles, quanta and units that led to the heap are those of the budgets used. All is done
-- if nothing is left and the word isn't torn; then the history is a merge of the scripts.
pub record IsOutcome (settings : HeapSettings) (scripts : List (List Command)) (budgets : List ℕ)
    (o : Outcome) : Type 0 where
  pub sound : IsSound settings o.recorded.course
  pub counted : length o.recorded.course.history ≡ sum o.done.items
  pub within : AllZip (λ n most. n ≤ most) o.done.items (map length scripts)
  pub fronts : o.torn ≡ false → HasFronts o.recorded.course.history scripts o.done.items
  pub reached_from : IsReachedFrom o.recorded.course o.tally.value.begun o.tally.value.quanta o.tally.value.spent
  pub collected : IsCollected budgets o.used o.tally.value
  pub all : o.all ≡ true ↔ (o.torn ≡ false) × (o.done.items ≡ map length scripts) × (o.used ≡ length budgets)
  pub merge : o.all ≡ true → IsMerge o.recorded.course.history scripts
