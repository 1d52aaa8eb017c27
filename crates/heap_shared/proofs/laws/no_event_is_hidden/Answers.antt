use Rattle.heap_model.specs.Event.{Event}
use Rattle.heap_shared.proofs.Refuted.{no_enter_and_do, no_do_and_leave, no_turn_before_entering, no_turn_before_looking, no_turn_in_a_new_heap, no_work_before}
use Rattle.heap_shared.proofs.laws.no_event_is_hidden.Goals as goal

abbrev same : Event → Event
same e = e

pub returns-clause-entering : goal.returns-clause-entering
returns-clause-entering c event old mid new does enters = no_enter_and_do same old mid new event does enters

pub returns-clause-leaving : goal.returns-clause-leaving
returns-clause-leaving c event old mid new does left leaves = no_do_and_leave same old mid new event does left leaves

pub returns-clause-between : goal.returns-clause-between
returns-clause-between c event old inside did left new named enters does leaves again claims = no_turn_before_entering same old inside did left event named enters does leaves new again claims

pub returns-clause-looking : goal.returns-clause-looking
returns-clause-looking c event old inside did left new n named enters does leaves looks claims = no_turn_before_looking same old inside did left event named enters does leaves n new looks claims

pub returns-clause-made : goal.returns-clause-made
returns-clause-made c event old inside did left named enters does leaves none = no_turn_in_a_new_heap same old inside did left event named enters does leaves none

pub returns-clause-opening : goal.returns-clause-opening
returns-clause-opening c config words heap keeps = no_work_before config words heap keeps
