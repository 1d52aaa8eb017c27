-- The grey parts of a heap.
use Rattle.std.specs.Prelude.{◌≡◌, ℕ, ◌-◌, ◌*◌, ◌<◌, ◌≤◌, true, false, length}
use Rattle.size_classes.specs.declared.class.TheConstants.{MOST_BLOCKS}
use Rattle.heap_model.specs.Collector.{contains, Once}
use Rattle.heap_model.specs.State.{HeapState, seen}
use Rattle.heap_model.specs.Store.{is_allocated}

-- There are pages. No grey part is null, and none stands twice. Each is allocated and marked. There are no more than a
-- quarter of the arena's words, because a block has at least four.
pub record AreGrey (h : HeapState) : Type 0 where
  pub pages : 0 < length h.store.pages
  pub some : contains h.grey 0 ≡ false
  pub allocated : (x : ℕ) → contains h.grey x ≡ true → is_allocated h.store (x - 1) ≡ true
  pub marked : (x : ℕ) → contains h.grey x ≡ true → (seen h).marked x ≡ true
  pub once : Once h.grey
  pub few : length h.grey ≤ MOST_BLOCKS * length h.store.pages
