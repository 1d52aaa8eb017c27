-- However many pages a cycle may empty: through each change and each chain of actions.
use Rattle.std.proofs.Common.{ℕ, ◌+◌, ◌<◌, ◌≤◌, length, sym, arith, refl}
use Rattle.size_classes.specs.declared.class.TheConstants.{CLASSES}
use Rattle.graph_heap.specs.declared.command.Change.{Change}
use Rattle.graph_heap.specs.Graph.{Graph}
use Rattle.graph_heap.specs.History.{after}
use Rattle.heap_model.specs.Pages.{ArePages}
use Rattle.heap_model.specs.State.{HeapState}
use Rattle.heap_model.specs.Represents.{Represents}
use Rattle.heap_model.specs.Action.{Chain, Nothing_done, Then}
use Rattle.heap_model.specs.Change.{DoesChange}
use Rattle.heap_model.proofs.Left.{change_left}
use Rattle.heap_model.proofs.Grey.Relinked.{represents_relinked}
use Rattle.heap_model.proofs.Represents.{represents_chain}
use Rattle.space.specs.Demand.{asked_by}
use Rattle.space.specs.Counts.{main_blocks}
use Rattle.space.proofs.Placement.Tidying.{shrinks_keeps}
use Rattle.fragmentation.specs.Gathering.{IsGathering}
use Rattle.fragmentation.proofs.Suffice.IsSparse.{IsSparse}
use Rattle.fragmentation.proofs.Gathering.Steps.{gather_action, gather_same}
use Rattle.fragmentation.proofs.Tight.Growing.{change_goes}
use Rattle.fragmentation.proofs.Suffice.Sparse.{sparse_goes, sparse_same, sparse_phase, sparse_action}

pub sparse_change : (h after : HeapState) (g : Graph) (c : Change) (need : ℕ → ℕ) → ArePages h.store.pages → ((k : ℕ) → k < CLASSES → main_blocks h.store.pages k + asked_by c k ≤ need k) → DoesChange h g c after → IsSparse h.store h.phase need → IsSparse after.store after.phase need
sparse_change h after g c need a fits does w = sparse_phase after.store h.phase after.phase need (sym (change_left h after g c does).phase) (sparse_goes h.store after.store need need (change_goes h after g c need need a (λ k l. omega arith) fits does) h.phase w)

-- through a chain of actions
pub chain_sparse : (h after : HeapState) (spent : ℕ) (present snapshot : Graph) (need : ℕ → ℕ) → Represents h present snapshot → Chain h spent after → IsGathering h.store.pages (length h.store.pages) h.phase × IsSparse h.store h.phase need → IsGathering after.store.pages (length after.store.pages) after.phase × IsSparse after.store after.phase need
chain_sparse h after spent g s need st Nothing_done w = w
chain_sparse h after spent g s need st (Then u cost j k linked chain links action) w =
    let r = chain_sparse h j u g s need st chain w in
    let i : HeapState = record j { store = linked } in
    let si = represents_relinked j linked links g s (represents_chain h j u g s st chain) in
    let ga = gather_same j.store.pages linked.pages j.phase j.phase links.pages refl r.0 in
    let sp = sparse_same j.store linked j.phase need (shrinks_keeps j.store linked links.blocks) links.pages r.1 in
    (gather_action i k cost si.pages si.closed ga action, sparse_action i k cost g s need si ga action sp)
