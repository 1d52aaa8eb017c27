use Rattle.std.proofs.Common.{slice_index}
use Rattle.pages.proofs.Needing.{Needs}
use Rattle.pages.proofs.table.PageTable.room_for.Given as goal

abbrev pub invariant-loop-number : goal.invariant-loop-number
invariant-loop-number l = Needs l.self (λ class. slice_index l.need class) l.number l.pages
