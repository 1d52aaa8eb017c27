-- The settings of a heap, which stay while it is used.
use Rattle.std.specs.Prelude.{ℕ, length}
use Rattle.graph_heap.specs.declared.command.Limits.{Limits}
use Rattle.size_classes.specs.declared.config.Config.{Config}
use Rattle.size_classes.specs.Config.{limits_of}
use Rattle.heap_model.specs.State.{HeapState}

-- its limits, how many pages it has, below how many free pages it moves, and how many pages a cycle empties at most
pub record HeapSettings : Type 0 where
  pub limits : Limits
  pub pages : ℕ
  pub defrag_below : ℕ
  pub defrag_pages : ℕ

-- the settings of a heap
abbrev pub settings_of : HeapState → HeapSettings
settings_of h = record {
  limits = h.limits;
  pages = length h.store.pages;
  defrag_below = h.defrag_below;
  defrag_pages = h.defrag_pages;
}

-- the settings that a configuration asks for
abbrev pub settings_by : Config → HeapSettings
settings_by config = record {
  limits = limits_of config;
  pages = config.pages;
  defrag_below = config.defrag_below;
  defrag_pages = config.defrag_pages;
}
