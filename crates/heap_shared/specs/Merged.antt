-- The commands and the deeds that members' accounts have.
use Rattle.std.specs.Prelude.{ℕ, ◌≡◌, ◌<◌, ◌%◌, List, [], ◌∷◌, map, nat_eq, nat_le, nat_lt, ◌&&◌, Bool, true, false, if◌then◌else◌}
use Rattle.graph_heap.specs.declared.command.Command.{Command}
use Rattle.graph_heap.specs.Merge.{mine, commands_of, upto}
use Rattle.heap_shared.specs.declared.deed.Deed.{Deed}
use Rattle.heap_shared.specs.declared.rule.Account.{Account}
use Rattle.heap_shared.specs.Accounts.{history_by}

-- whether an account has a mutator
abbrev pub has_mutator : Account → ℕ → Bool
has_mutator a m = nat_le a.from m && nat_lt m a.to

-- the commands of a mutator, by the first account that has it
abbrev pub commands_by : List Account → ℕ → List Command
commands_by [] m = []
commands_by (a ∷ rest) m = if has_mutator a m then commands_of (mine (history_by a.seen) m) else commands_by rest m

-- whether one of the accounts has a mutator
abbrev pub is_covered : List Account → ℕ → Bool
is_covered [] m = false
is_covered (a ∷ rest) m = if has_mutator a m then true else is_covered rest m

-- one of the accounts has each mutator
abbrev pub Covers : ℕ → List Account → Type 0
Covers mutators accounts = (m : ℕ) → m < mutators → is_covered accounts m ≡ true

-- the commands of each mutator
abbrev pub called_by : ℕ → List Account → List (List Command)
called_by mutators accounts = map (commands_by accounts) (upto mutators)

-- the deeds of the member of a number
abbrev pub deeds_of : ℕ → List Deed → List Deed
deeds_of n [] = []
deeds_of n (d ∷ log) = if nat_eq d.by n then d ∷ deeds_of n log else deeds_of n log

-- whether an account has a number
abbrev pub has_number : Account → ℕ → Bool
has_number a n = nat_eq (n % a.step) a.number

-- the deeds of a number's member, by the first account that has it
abbrev pub deeds_by : List Account → ℕ → List Deed
deeds_by [] n = []
deeds_by (a ∷ rest) n = if has_number a n then deeds_of n a.seen else deeds_by rest n

-- whether one of the accounts has a number
abbrev pub is_numbered : List Account → ℕ → Bool
is_numbered [] n = false
is_numbered (a ∷ rest) n = if has_number a n then true else is_numbered rest n

-- one of the accounts has each number
abbrev pub CoverAll : List Account → Type 0
CoverAll accounts = (n : ℕ) → is_numbered accounts n ≡ true
