use Rattle.std.proofs.Common.{◌≡◌, ◌-◌, ◌≤◌}
use Rattle.defrag.specs.Candidates.{candidate_after_pages}
use Rattle.defrag.proofs.choosing.look_on.Given as goal

-- the candidate after the looks so far
abbrev pub invariant-loop-page : goal.invariant-loop-page
invariant-loop-page l = (l.from ≤ l.page) × (l.candidate ≡ candidate_after_pages l.nodes.pages l.class l.from l.fn.best (l.page - l.from))
