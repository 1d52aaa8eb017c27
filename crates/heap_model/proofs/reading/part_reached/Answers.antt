use Rattle.heap_model.proofs.Readings.Hops as hops
use Rattle.heap_model.proofs.reading.part_reached.Goals as goal

pub returns-clause-main : goal.returns-clause-main
returns-clause-main c h g id part address a r l m = hops.part_reached h g id a r part address l m

pub returns-clause-spine : goal.returns-clause-spine
returns-clause-spine c h g id part address a r whole p l m some = hops.root_to_spine h g id a r address m part p l some whole

pub returns-clause-piece : goal.returns-clause-piece
returns-clause-piece c h g id part address a r whole p l m = hops.spine_to_part h g id a r address m part p l whole
