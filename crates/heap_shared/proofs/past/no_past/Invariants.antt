use Rattle.std.proofs.Common.{[]}
use Rattle.heap_shared.proofs.past.no_past.Given as goal

-- nothing
abbrev pub ghost-new : goal.ghost-new
ghost-new a = record { events = []; place = 0 }
