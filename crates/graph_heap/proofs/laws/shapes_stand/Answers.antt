use Rattle.graph_heap.proofs.Growth.{changed_stands}
use Rattle.graph_heap.proofs.laws.shapes_stand.Goals as goal

pub returns : goal.returns
returns c = changed_stands
