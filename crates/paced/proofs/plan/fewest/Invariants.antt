use Rattle.std.proofs.Common.{◌≡◌, ℕ, ◌≤◌, ◌<◌, Bool}
use Rattle.fragmentation.specs.Flow.{classes_made}
use Rattle.paced.specs.Planning.{HasPlanOn}
use Rattle.paced.proofs.plan.fewest.Given as goal

-- none of the numbers so far
abbrev pub invariant-loop-pages : goal.invariant-loop-pages
invariant-loop-pages l = record {
  none : (makes : ℕ → Bool) → classes_made makes ≡ l.classes → (pages : ℕ) → 1 ≤ pages → pages < l.pages → HasPlanOn makes l.config l.live_words l.largest pages → ⊥;
}
