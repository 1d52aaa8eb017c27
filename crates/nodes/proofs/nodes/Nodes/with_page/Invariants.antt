use Rattle.std.proofs.Common.{◌≡◌, ◌+◌, ◌*◌}
use Rattle.heap_model.specs.Pages.{page_at}
use Rattle.heap_model.specs.Store.{size_in}
use Rattle.nodes.specs.Copies.{copies_below}
use Rattle.nodes.proofs.nodes.Nodes.with_page.Given as goal

-- those before the next block are counted
abbrev pub invariant-loop-index : goal.invariant-loop-index
invariant-loop-index l = l.copies ≡ copies_below l.self (2048 * l.page + l.index * size_in (page_at l.self.pages l.page))
