-- The numbers and texts of how a call ends.
use Rattle.std.specs.Prelude.{ℕ, ◌+◌, ◌++◌, ◌==◌, List, map, Option, Some, None, codes, find}
use Rattle.std.specs.List.{position_or_len}
use Rattle.graph_heap.specs.declared.command.Refusal.TheVariants.{BadSlot, NullSlot, BadIndex, WrongKind, TooLarge, IdentitiesSpent, NoSpace, BadStatic, NotLive, AlreadyLive}
use Rattle.graph_heap.specs.Refusal.{refusal_number}
use Rattle.size_classes.specs.declared.key.Key.{Key}
use Rattle.size_classes.specs.contracts.key.KeyPartialEq.TheImpl as same_key
use Rattle.size_classes.specs.declared.key.TheConstants.Key.{ALL}
use Rattle.size_classes.specs.Keys.{name_of}
use Rattle.size_classes.specs.declared.fault.ConfigFault.{ConfigFault}
use Rattle.size_classes.specs.declared.fault.ConfigFault.TheVariants as faults
use Rattle.heap_shared.specs.declared.fault.NoTurn.{NoTurn}
use Rattle.heap_shared.specs.declared.fault.NoTurn.TheVariants as turns
use Rattle.heap_shared.specs.declared.fault.NotDone.{NotDone}
use Rattle.heap_shared.specs.declared.fault.NotDone.TheVariants as undone
use Rattle.heap_shared.specs.declared.fault.NoMember.{NoMember}
use Rattle.heap_shared.specs.declared.fault.NoMember.TheVariants as members
use Rattle.metronome_c.specs.declared.status.Status.{Status}
use Rattle.metronome_c.specs.declared.status.Status.TheVariants as statuses
use Rattle.metronome_c.specs.declared.status.TheConstants.Status.{BEFORE_SETTINGS, BEHIND_SETTINGS}

-- the place of a key among the settings, from 0: that in `Key::ALL`
abbrev pub key_number : Key → ℕ
key_number key = position_or_len (same_key.ghosts.eq key) ALL

-- the number of a status: a refusal of a command has its own
abbrev pub status_number : Status → ℕ
status_number statuses.Done = 0
status_number (statuses.Refused refusal) = refusal_number refusal
status_number statuses.NoMemory = 9
status_number statuses.Busy = 11
status_number statuses.BudgetOutOfRange = 12
status_number statuses.Closed = 16
status_number statuses.Open = 17
status_number statuses.ScheduleOutOfRange = 18
status_number statuses.BadHandle = 19
status_number (statuses.SettingOutOfRange key) = 20 + key_number key
status_number statuses.OtherVersion = 40
status_number statuses.Taken = 41
status_number statuses.Inside = 42
status_number statuses.Outside = 43
status_number statuses.NotYours = 44
status_number statuses.NoPlan = 46
status_number statuses.AbovePlan = 47
status_number statuses.NoMutator = 48
status_number statuses.SlotsUsed = 49
status_number statuses.OtherMutator = 50
status_number statuses.NotShared = 51
status_number statuses.IsShared = 52
status_number statuses.InUse = 53

-- all statuses, in the order of their numbers: one for each setting, in the order of `Key::ALL`
abbrev pub all_statuses : List Status
all_statuses = (BEFORE_SETTINGS ++ map statuses.SettingOutOfRange ALL) ++ BEHIND_SETTINGS

-- the status that is the first of them with a number
abbrev pub status_numbered : ℕ → Option Status
status_numbered number = find (λ s. status_number s == number) all_statuses

-- the status of a fault of a configuration: a setting that is out of its range, or the budget of a quantum
abbrev pub fault_status : ConfigFault → Status
fault_status (faults.OutOfRange key) = statuses.SettingOutOfRange key
fault_status _ = statuses.ScheduleOutOfRange

-- the status of why a member doesn't get the turn
abbrev pub no_turn_status : NoTurn → Status
no_turn_status turns.Taken = statuses.Taken
no_turn_status turns.Inside = statuses.Inside

-- the status of why a member's command isn't done
abbrev pub not_done_status : NotDone → Status
not_done_status undone.Outside = statuses.Outside
not_done_status undone.NotYours = statuses.NotYours
not_done_status undone.AbovePlan = statuses.AbovePlan

-- the status of why there is no other member
abbrev pub no_member_status : NoMember → Status
no_member_status members.Inside = statuses.Inside
no_member_status members.NotYours = statuses.NotYours
no_member_status members.NoMemory = statuses.NoMemory

-- a setting is out of its range: the name by which a file gives it, and the same words after each
abbrev pub setting_text : Key → List ℕ
setting_text key = name_of key ++ codes " is out of range"

-- the text of a status
abbrev pub status_text : Status → List ℕ
status_text statuses.Done = codes "done"
status_text (statuses.Refused BadSlot) = codes "no such mutator or slot"
status_text (statuses.Refused NullSlot) = codes "the slot holds null"
status_text (statuses.Refused BadIndex) = codes "no such cell"
status_text (statuses.Refused WrongKind) = codes "the object has no such cells"
status_text (statuses.Refused TooLarge) = codes "too large an object, or too many cells"
status_text (statuses.Refused IdentitiesSpent) = codes "all identities are spent"
status_text (statuses.Refused NoSpace) = codes "no space"
status_text (statuses.Refused BadStatic) = codes "no such static"
status_text (statuses.Refused NotLive) = codes "the mutator isn't live"
status_text (statuses.Refused AlreadyLive) = codes "the mutator is live already"
status_text statuses.NoMemory = codes "no memory"
status_text statuses.Busy = codes "a cycle is on already"
status_text statuses.BudgetOutOfRange = codes "the budget is out of range"
status_text statuses.Closed = codes "the heap is closed"
status_text statuses.Open = codes "the heap is open already"
status_text statuses.ScheduleOutOfRange = codes "collector_ticks times rate is out of range"
status_text statuses.BadHandle = codes "this is no handle"
status_text (statuses.SettingOutOfRange key) = setting_text key
status_text statuses.OtherVersion = codes "the program was built for another version"
status_text statuses.Taken = codes "another handle has the turn"
status_text statuses.Inside = codes "the handle has the turn"
status_text statuses.Outside = codes "the handle doesn't have the turn"
status_text statuses.NotYours = codes "the mutator is another handle's"
status_text statuses.NoPlan = codes "no plan fits"
status_text statuses.AbovePlan = codes "the object is above the plan"
status_text statuses.NoMutator = codes "no such mutator"
status_text statuses.SlotsUsed = codes "all slots are used"
status_text statuses.OtherMutator = codes "the root is another mutator's"
status_text statuses.NotShared = codes "the heap isn't shared"
status_text statuses.IsShared = codes "the heap is shared"
status_text statuses.InUse = codes "the heap is in use"

-- the text of a number, which may be that of no status
abbrev pub text_or_none : Option Status → List ℕ
text_or_none (Some status) = status_text status
text_or_none None = codes "no such status"

-- the text of a number, none where it is no status's
abbrev pub text_of : ℕ → List ℕ
text_of number = text_or_none (status_numbered number)
