use Rattle.std.proofs.Common.{take}
use Rattle.plans.specs.Order.{IsNext}
use Rattle.plans.proofs.order.next_of.Given as goal

-- the least of those so far
abbrev pub invariant-loop-pages : goal.invariant-loop-pages
invariant-loop-pages l = IsNext (take l.pages-index l.numbers) l.above l.next
