use Rattle.std.proofs.Common.{◌≡◌, ℕ, ◌-◌, ◌<◌, ◌≤◌, None}
use Rattle.heap_model.specs.Pages.{page_at}
use Rattle.sweeper.proofs.sweep.free_until.Given as goal

-- the pages before this one are free
abbrev pub invariant-loop-page : goal.invariant-loop-page
invariant-loop-page l = (l.from ≤ l.page) × (l.page ≤ l.end) × ((k : ℕ) → l.from ≤ k → k < l.page → page_at l.nodes.pages k ≡ None)

abbrev pub decreases-loop-page : goal.decreases-loop-page
decreases-loop-page l = l.end - l.page
