-- Pages are touched, and the heap represents and agrees with the same graph heaps.
use Rattle.std.proofs.Common.{◌≡◌, ℕ, ◌+◌, ◌-◌, ◌*◌, ◌≤◌, length, min, refl, ap, ◌∙◌, subst, sym, arith}
use Rattle.graph_heap.specs.Graph.{Graph}
use Rattle.heap_model.specs.Action.{KeepsBlocks, Relinks}
use Rattle.heap_model.specs.Agreement.{Agrees}
use Rattle.heap_model.specs.State.{HeapState}
use Rattle.heap_model.specs.Store.{Store}
use Rattle.heap_model.proofs.Agreements.Implied.{consistent_agrees}
use Rattle.heap_model.proofs.Alike.Sameness.{told, agrees_alike}
use Rattle.heap_model.proofs.Grey.Relinked.{represents_relinked}
use Rattle.pages.proofs.Touching.{length_touched}
use Rattle.nodes.specs.Links.{KeepsLinks}
use Rattle.nodes.specs.Touching.{touched}
use Rattle.nodes.specs.declared.heap_fields.HeapFields.{HeapFields}
use Rattle.nodes.specs.HeapFields.{state_of, IsHeap, AreHeapFields}
use Rattle.nodes.proofs.Keeping.{are_allocated, grey_kept, store_kept, linked_still}
use Rattle.machine.proofs.Collecting.{flushed_heap}
use Rattle.machine.proofs.Doing.{present_agrees}

-- if blocks are at most threaded anew, the heap agrees with the same graph heaps
relinked_agrees : (h : HeapState) (s : Store) → IsHeap h → Relinks h.store s → (g : Graph) → Agrees h g → Agrees (record h { store = s }) g
relinked_agrees h s w links g a =
    agrees_alike (record h { store = s }) w.present g (consistent_agrees (record h { store = s }) w.present w.snapshot (represents_relinked h s links w.present w.snapshot w.represents).consistent) (told h w.present g (present_agrees h w) a)

-- the first pages have their words
pub words_there : (s new : Store) (pages : ℕ) → new ≡ touched s pages → 2048 * min pages (length new.pages) ≤ length new.words
words_there s new pages is =
    let long : length (touched s pages).words ≡ length s.words + (2048 * min pages (length s.pages) - length s.words) = length_touched s.words (2048 * min pages (length s.pages) - length s.words) in
    subst (λ (x : Store). 2048 * min pages (length x.pages) ≤ length x.words) (sym is) (omega (arith, long))

module _ (a : HeapFields) (w : AreHeapFields a) (new : Store) (pages : ℕ) (is : new ≡ touched a.nodes pages) (kept : KeepsBlocks a.nodes new) (links : KeepsLinks a.nodes new) where
  same_pages : new.pages ≡ a.nodes.pages
  same_pages = ap (λ (x : Store). x.pages) is

  relinks : Relinks a.nodes new
  relinks = record { blocks = kept; pages = same_pages }

  pub touched_fields : AreHeapFields (record a { nodes = new })
  touched_fields = flushed_heap a (record a { nodes = new }) w refl (grey_kept a (are_allocated a w) new (ap length same_pages) links) relinks refl (linked_still a new w.linked (are_allocated a w) (ap length same_pages) links)

  still : state_of (record a { nodes = new }) ≡ record (state_of a) { store = new }
  still = store_kept a (are_allocated a w) new (ap length same_pages) links

  pub touched_state : state_of (record a { nodes = new }) ≡ record (state_of a) { store = touched a.nodes pages }
  touched_state = still ∙ ap (λ (x : Store). record (state_of a) { store = x }) is

  pub touched_agrees : (g : Graph) → Agrees (state_of a) g → Agrees (state_of (record a { nodes = new })) g
  touched_agrees g agrees = subst (λ (h : HeapState). Agrees h g) (sym still) (relinked_agrees (state_of a) new w.heap relinks g agrees)
