use Rattle.std.proofs.Common.{◌≡◌, ◌*◌}
use Rattle.nodes.specs.Copies.{copies_below}
use Rattle.nodes.proofs.nodes.Nodes.copies.Given as goal

-- those before the next page are counted
abbrev pub invariant-loop-page : goal.invariant-loop-page
invariant-loop-page l = l.copies ≡ copies_below l.self (2048 * l.page)
