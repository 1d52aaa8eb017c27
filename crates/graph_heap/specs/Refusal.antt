-- The numbers of refusals.
use Rattle.std.specs.Prelude.{ℕ}
use Rattle.graph_heap.specs.declared.command.Refusal.{Refusal}
use Rattle.graph_heap.specs.declared.command.Refusal.TheVariants.{BadSlot, NullSlot, BadIndex, WrongKind, TooLarge, IdentitiesSpent, NoSpace, BadStatic, NotLive, AlreadyLive}

-- the number of a refusal
abbrev pub refusal_number : Refusal → ℕ
refusal_number BadSlot = 1
refusal_number NullSlot = 2
refusal_number BadIndex = 3
refusal_number WrongKind = 4
refusal_number TooLarge = 5
refusal_number IdentitiesSpent = 6
refusal_number NoSpace = 7
refusal_number BadStatic = 8
refusal_number NotLive = 14
refusal_number AlreadyLive = 15
