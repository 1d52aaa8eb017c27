use Rattle.std.proofs.Common.{◌≡◌, ◌*◌, ◌≤◌}
use Rattle.std.specs.Prelude.{IfSome}
use Rattle.heap_model.specs.Pages.{page_at}
use Rattle.heap_model.specs.Units.{total}
use Rattle.nodes.specs.Wasted.{wasted_in}
use Rattle.nodes.proofs.nodes.Nodes.wasted_inside.Given as goal

-- the words of the blocks before are counted
abbrev pub invariant-loop-index : goal.invariant-loop-index
invariant-loop-index l = record {
  wasted : IfSome (page_at l.self.pages l.page) (λ p. l.wasted ≡ total (wasted_in l.self l.page p) l.index);
  within : l.wasted ≤ 256 * l.index;
}
