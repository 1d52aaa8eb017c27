-- Blocks are linked anew: the heap represents the same graph heaps.
use Rattle.std.proofs.Common.{◌≡◌, ◌<◌, length, List, Option, refl, ap, subst, sym}
use Rattle.graph_heap.specs.Graph.{Graph}
use Rattle.heap_model.specs.Action.{Relinks}
use Rattle.heap_model.specs.Collector.{Coherent}
use Rattle.heap_model.specs.Cut.{view}
use Rattle.heap_model.specs.Marks.{AreClosed}
use Rattle.heap_model.specs.Pages.{ArePages, Page}
use Rattle.heap_model.specs.Placed.{IsPlaced}
use Rattle.heap_model.specs.Settings.{settings_of}
use Rattle.heap_model.specs.Represents.{Represents}
use Rattle.heap_model.specs.State.{HeapState, seen, collector_by, collector_of}
use Rattle.heap_model.specs.Store.{Store}
use Rattle.heap_model.proofs.Action.Collecting.{again, keeps_seen, keeps_whole}
use Rattle.heap_model.proofs.Collector.Coherence.{same_coherent}
use Rattle.heap_model.proofs.Spent.Mutators.{cell_more, more_within}

module _ (h : HeapState) (new : Store) (links : Relinks h.store new) where
  abbrev after : HeapState
  after = record h { store = new }

  -- the same number of pages
  pub relinked_count : length new.pages ≡ length h.store.pages
  relinked_count = ap length links.pages

  pub relinked_settings : settings_of after ≡ settings_of h
  relinked_settings = ap (λ n. record (settings_of h) { pages = n }) relinked_count

  pub represents_relinked : (present snapshot : Graph) → Represents h present snapshot → Represents after present snapshot
  represents_relinked p s w = record {
    pages = subst ArePages (sym links.pages) w.pages;
    some = subst (λ n. 0 < n) (sym relinked_count) w.some;
    consistent = again h after p s w.consistent refl refl refl (keeps_whole h.store new links.blocks w.consistent.whole) coherent;
    within = more_within h after (cell_more h new (seen h) links.pages (λ x. refl) (λ x. refl) (keeps_seen h new links.blocks)) w.within;
    placed = subst (λ pages. IsPlaced pages h.phase) (sym links.pages) w.placed;
    closed = subst (λ pages. AreClosed pages h.phase) (sym links.pages) w.closed;
  }
    where
      coherent : Coherent (collector_of after) (view p) (view s)
      coherent =
          subst (λ (pages : List (Option Page)). Coherent (collector_by (seen after) pages h.phase h.grey) (view p) (view s)) (sym links.pages)
          (same_coherent (collector_of h) (seen after) (view p) (view s) (keeps_seen h new links.blocks) w.consistent.parts)
