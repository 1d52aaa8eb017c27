-- The effect of a quantum on the pacer's numbers.
use Rattle.std.specs.Prelude.{ℕ, ◌≡◌, ◌≢◌, ◌+◌, ◌<◌, ◌≤◌, ◌⊎◌}
use Rattle.heap_model.specs.declared.phase.Phase.TheVariants as phases
use Rattle.machine.specs.declared.collector.Spent.{Spent}
use Rattle.heap_server.specs.Views.{PacerView}

-- either the cycle ended, or it is still running and fewer than 256 units of the budget are left
abbrev pub EndsOrUsesUp : PacerView → ℕ → Spent → PacerView → Type 0
EndsOrUsesUp old budget s new =
    ((s.phase ≡ phases.Idle) × (new.ended ≡ old.ended + 1))
    ⊎ ((s.phase ≢ phases.Idle) × (new.ended ≡ old.ended) × (budget < s.units + 256))

-- A quantum is counted, spends its units, and begins no cycle. If no cycle runs, it spends none and stays idle. Else it
-- spends from 1 unit to the whole budget, and ends the cycle or uses up the budget.
pub record IsPaced (old : PacerView) (budget : ℕ) (s : Spent) (new : PacerView) : Type 0 where
  pub begun : new.begun ≡ old.begun
  pub quanta : new.quanta ≡ old.quanta + 1
  pub spent : new.spent ≡ old.spent + s.units
  pub rests : old.ended ≡ old.begun → (s.units ≡ 0) × (s.phase ≡ phases.Idle) × (new.ended ≡ old.ended)
  pub runs : old.ended ≢ old.begun → (0 < s.units) × (s.units ≤ budget) × EndsOrUsesUp old budget s new
