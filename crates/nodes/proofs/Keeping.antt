-- The same parts stay grey, if the links of allocated blocks stay, or if no part is grey.
use Rattle.std.proofs.Common.{◌≡◌, ℕ, ◌+◌, ◌-◌, Bool, true, false, length, ap, ◌∙◌, sym, subst, refl, inl, inr}
use Rattle.std.proofs.lemmas.Bool.{cases_eq}
use Rattle.heap_model.specs.declared.phase.Phase.{Phase}
use Rattle.heap_model.specs.Action.{Relinks, MovesBlock}
use Rattle.heap_model.specs.Collector.{contains}
use Rattle.heap_model.specs.Block.{BlockRecord}
use Rattle.heap_model.specs.Store.{Store, Writes, is_allocated}
use Rattle.heap_model.specs.Written.{records}
use Rattle.heap_model.proofs.State.{allocated_pages}
use Rattle.nodes.specs.Links.{link_of, KeepsLinks, LeavesLinks, CopiesLink}
use Rattle.nodes.specs.declared.heap_fields.HeapFields.{HeapFields}
use Rattle.nodes.specs.Grey.{grey_in, AreLinked}
use Rattle.nodes.specs.HeapFields.{state_of, AreHeapFields}
use Rattle.nodes.specs.GreyAllocated.{AreAllocated}
use Rattle.nodes.proofs.Linking.{none_linked, linked_kept}
use Rattle.nodes.proofs.Representing.{are_grey}
use Rattle.nodes.proofs.Threading.{grey_same, first_none, buffers_none, grey_none}

pub are_allocated : (a : HeapFields) → AreHeapFields a → AreAllocated a
are_allocated a w x c = (are_grey a w).allocated x c

-- the links of allocated blocks stay
pub grey_kept : (a : HeapFields) → AreAllocated a → (new : Store) → length new.pages ≡ length a.nodes.pages → KeepsLinks a.nodes new → grey_in new a.grey ≡ grey_in a.nodes a.grey
grey_kept a allocated new pages links = grey_same a.nodes a.grey new pages (λ y some c. links.each (y - 1) (allocated y c))

-- and so do the links of records; the others are 0 still
pub linked_still : (a : HeapFields) (new : Store) → AreLinked a.nodes a.grey → AreAllocated a → length new.pages ≡ length a.nodes.pages → KeepsLinks a.nodes new → AreLinked new a.grey
linked_still a new linked allocated pages links = linked_kept a.nodes new a.grey linked (grey_kept a allocated new pages links) (λ y c. links.each (y - 1) (allocated y c)) unused
  where
    by_block : (b : ℕ) (t : Bool) → is_allocated a.nodes b ≡ t → is_allocated new b ≡ true → contains (grey_in a.nodes a.grey) (b + 1) ≡ false → link_of new b ≡ 0
    by_block b true was now c = links.each b was ∙ linked.unused b was c
    by_block b false was now c = links.fresh b was now

    unused : (b : ℕ) → is_allocated new b ≡ true → contains (grey_in a.nodes a.grey) (b + 1) ≡ false → link_of new b ≡ 0
    unused b now c = by_block b (is_allocated a.nodes b) refl now c

-- the place in a phase changes, and the units
pub linked_charged : (a b : HeapFields) (phase : Phase) (units : ℕ) → b ≡ record a { phase = phase; units = units } → AreLinked a.nodes a.grey → AreLinked b.nodes b.grey
linked_charged a b phase units is linked = subst (λ (x : HeapFields). AreLinked x.nodes x.grey) (sym is) linked

-- no part is grey, and no block has another link than 0
module _ (a : HeapFields) (w : AreHeapFields a) (off : records a.phase ≡ false) where
  unlinked : (b : ℕ) → is_allocated a.nodes b ≡ true → link_of a.nodes b ≡ 0
  unfolding contains
  unlinked b h = w.linked.unused b h (ap (λ xs. contains xs (b + 1)) (w.empty off))

  -- Links stay with the blocks that are allocated still.
  pub linked_left : (new : Store) → LeavesLinks a.nodes new → AreLinked new a.grey
  linked_left new left = none_linked new a.grey (buffers_none a.nodes a.grey (w.empty off)) (λ b now c. let q = left b now in q.1 ∙ unlinked b q.0)

  -- A block is copied.
  pub linked_copied : (new : Store) (from to : ℕ) → MovesBlock a.nodes new from to → is_allocated a.nodes from ≡ true → CopiesLink a.nodes new from to → AreLinked new a.grey
  linked_copied new from to moves allocated copies =
      none_linked new a.grey (buffers_none a.nodes a.grey (w.empty off))
      (λ b now c. elim (cases_eq b to) [
        | inl e ↦ ap (link_of new) e ∙ copies.copy ∙ unlinked from allocated
        | inr ne ↦ (let was : is_allocated a.nodes b ≡ true = sym (moves.same b ne) ∙ now in copies.each b was ∙ unlinked b was)
      ])

-- no part is grey, whatever the blocks say
pub grey_stays : (a : HeapFields) → AreHeapFields a → records a.phase ≡ false → (new : Store) → grey_in new a.grey ≡ grey_in a.nodes a.grey
grey_stays a w off new =
    let none = w.empty off in
    grey_none new a.grey (first_none a.nodes a.grey w.heap.represents.some none) (buffers_none a.nodes a.grey none) ∙ sym none

pub store_still : (a : HeapFields) → AreHeapFields a → records a.phase ≡ false → (new : Store) → state_of (record a { nodes = new }) ≡ record (state_of a) { store = new }
store_still a w off new = ap (λ xs. record (state_of a) { store = new; grey = xs }) (grey_stays a w off new)

-- The links of allocated blocks stay.
pub store_kept : (a : HeapFields) → AreAllocated a → (new : Store) → length new.pages ≡ length a.nodes.pages → KeepsLinks a.nodes new → state_of (record a { nodes = new }) ≡ record (state_of a) { store = new }
store_kept a allocated new pages links = ap (λ xs. record (state_of a) { store = new; grey = xs }) (grey_kept a allocated new pages links)

-- blocks were written, and threaded anew after that
pub writes_relinked : (s mid new : Store) (a : ℕ) (n : BlockRecord) → is_allocated s a ≡ true → Writes s mid a n → Relinks mid new → Writes s new a n
writes_relinked s mid new a n allocated w links = record {
  here = links.blocks.nodes a (allocated_pages s mid a w.pages ∙ allocated) ∙ w.here;
  others = λ b h ne. links.blocks.nodes b (allocated_pages s mid b w.pages ∙ h) ∙ w.others b h ne;
  pages = links.pages ∙ w.pages;
}

-- blocks were threaded anew, and written after that
pub relinked_writes : (s mid new : Store) (a : ℕ) (n : BlockRecord) → Relinks s mid → Writes mid new a n → Writes s new a n
relinked_writes s mid new a n links w = record {
  here = w.here;
  others = λ b h ne. w.others b (links.blocks.allocated b ∙ h) ne ∙ links.blocks.nodes b h;
  pages = w.pages ∙ links.pages;
}

pub relinked_twice : (s mid new : Store) → Relinks s mid → Relinks mid new → Relinks s new
relinked_twice s mid new x y = record {
  blocks = record { allocated = λ b. y.blocks.allocated b ∙ x.blocks.allocated b; nodes = λ b h. y.blocks.nodes b (x.blocks.allocated b ∙ h) ∙ x.blocks.nodes b h };
  pages = y.pages ∙ x.pages;
}
