-- One move, and its answer.
use Rattle.std.specs.Prelude.{◌≡◌, ℕ, ◌<◌, ◌≤◌, false}
use Rattle.size_classes.specs.Sizes.{size_of}
use Rattle.heap_model.specs.Action.{Action}
use Rattle.heap_model.specs.Block.{with_forward}
use Rattle.heap_model.specs.Core.{Name}
use Rattle.heap_model.specs.Pages.{Page}
use Rattle.heap_model.specs.QuantumSpending.{MovesNext}
use Rattle.heap_model.specs.Reading.{IsMainCopy}
use Rattle.heap_model.specs.State.{HeapState}
use Rattle.heap_model.specs.Store.{Store, is_allocated, record_of, address_of}
use Rattle.nodes.specs.declared.heap_fields.HeapFields.{HeapFields}
use Rattle.nodes.specs.HeapFields.{state_of}
use Rattle.defrag.specs.Moving.{IsEmptied}
use Rattle.defrag.specs.declared.moving.Moved.{Moved}
use Rattle.defrag.specs.declared.moving.Moved.TheVariants as answers

-- A block of a page, a main copy, is an old copy from then on. It forwards to a block that was free, of the first page
-- of its class that isn't evacuating and has a free one. That block is the main copy then, with the same words except
-- the forwarding word.
pub record RetiresMain (h : HeapState) (p : Page) (m : MovesNext h p) (new : Store) : Type 0 where
  pub name : Name
  pub from : ℕ
  pub index : ℕ
  pub to : ℕ
  pub source : from ≡ address_of p.class m.page m.next
  pub target : to ≡ address_of p.class m.to index
  pub was : IsMainCopy h.store from name
  pub free : is_allocated h.store to ≡ false
  pub is : IsMainCopy new to name
  pub words : record_of new to ≡ with_forward (record_of h.store from) to
  pub old : record_of new from ≡ with_forward (record_of h.store from) to

-- The effect of a move off a page, from a block on, with this room: the words of the next block, which are its cost. Or
-- nothing changed, because the block doesn't fit, because no block is left, or because there is no place for it.
abbrev pub MovesOne : HeapFields → ℕ → ℕ → ℕ → Moved → HeapFields → Type 0
MovesOne old page block room (answers.Words words) new =
    (p : Page) × (m : MovesNext (state_of old) p) × (words ≡ size_of p.class) × (words ≤ room)
    × RetiresMain (state_of old) p m new.nodes × Action (state_of old) words (state_of new)
MovesOne old page block room answers.DoesNotFit new =
    (p : Page) × MovesNext (state_of old) p × (room < size_of p.class) × (new ≡ old)
MovesOne old page block room answers.PageDone new = IsEmptied old.nodes page block × (new ≡ old)
