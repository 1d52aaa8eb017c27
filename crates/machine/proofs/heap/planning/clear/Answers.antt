use Rattle.std.proofs.Common.{refl, inl}
use Rattle.graph_heap.specs.declared.command.Change.TheVariants as changes
use Rattle.machine.proofs.Effects.{clear_effect}
use Rattle.machine.proofs.Plans.{placed, within}
use Rattle.machine.proofs.heap.planning.clear.Goals as goal

pub returns : goal.returns
returns c g a = rw c.done.ensures (
  changes.Root c.in_ok-cell.cell 0,
  clear_effect c.args.heap.now g a c.args.mutator c.args.dst c.in_ok-cell.cell (placed c.heap.view_is c.args.mutator c.args.dst c.in_ok-cell.cell c.in_ok-cell.ensures.place),
  (0, refl, within c.heap.view_is c.in_ok-cell.cell c.in_ok-cell.ensures.within, inl refl, record { allocated = refl; forward = refl; name = refl }),
)
