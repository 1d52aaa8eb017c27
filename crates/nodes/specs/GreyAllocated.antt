-- The grey parts are allocated.
use Rattle.std.specs.Prelude.{◌≡◌, ℕ, ◌-◌, true}
use Rattle.heap_model.specs.Collector.{contains}
use Rattle.heap_model.specs.Store.{is_allocated}
use Rattle.nodes.specs.Grey.{grey_in}
use Rattle.nodes.specs.declared.heap_fields.HeapFields.{HeapFields}

-- each grey part is a block that is allocated
abbrev pub AreAllocated : HeapFields → Type 0
AreAllocated a = (x : ℕ) → contains (grey_in a.nodes a.grey) x ≡ true → is_allocated a.nodes (x - 1) ≡ true
