-- A block that is moved was a main copy, and another is then.
use Rattle.std.proofs.Common.{◌≡◌, ℕ, ◌+◌, ◌-◌, ◌*◌, ◌/◌, ◌<◌, ◌==◌, if◌then◌else◌, true, false, ap, ◌∙◌, sym, refl, inl, inr, arith}
use Rattle.std.specs.Prelude.{nat_lt}
use Rattle.std.proofs.lemmas.Option.{slice_get_within}
use Rattle.size_classes.specs.Sizes.{size_of}
use Rattle.heap_model.specs.declared.phase.Phase.{Phase}
use Rattle.heap_model.specs.declared.phase.Phase.TheVariants as phases
use Rattle.heap_model.specs.declared.phase.Moving.TheVariants as moves
use Rattle.heap_model.specs.Action.{MovesBlock}
use Rattle.heap_model.specs.Block.{BlockRecord}
use Rattle.heap_model.specs.Cut.{view}
use Rattle.heap_model.specs.Pages.{Page, page_at}
use Rattle.heap_model.specs.QuantumSpending.{MovesNext}
use Rattle.heap_model.specs.State.{HeapState, is_left, is_evacuating, page_of, reference_of}
use Rattle.heap_model.specs.Store.{Store, is_allocated, record_of, size_in, address_of}
use Rattle.heap_model.proofs.Action.Collecting.{at_phase}
use Rattle.heap_model.proofs.Action.Moving.{at_number, below_end, not_below}
use Rattle.heap_model.proofs.State.{behind}
use Rattle.heap_model.proofs.Store.Allocated.{is_page, block_within, size_some, page_of_place, allocated_at}
use Rattle.nodes.specs.HeapFields.{IsHeap}
use Rattle.defrag.specs.Moved.{RetiresMain}

module _ (h : HeapState) (w : IsHeap h) (p : Page) (m : MovesNext h p) where
  abbrev from : ℕ
  from = address_of p.class m.page m.next

  abbrev was : Phase
  was = phases.Moving (moves.Emptying m.class m.page m.block m.chosen)

  allocated : is_allocated h.store from ≡ true
  allocated = allocated_at h.store m.page m.next p w.represents.pages m.emptied m.is_next.allocated

  -- the block is on the page that is emptied
  page_is : (from + 1 - 1) / 2048 ≡ m.page
  page_is =
      let is = is_page h.store m.page p w.represents.pages m.emptied in
      let within = block_within p m.next is (slice_get_within p.allocated m.next true m.is_next.allocated) in
      let less : m.next * size_of p.class < 2048 = below_end m.next (size_of p.class) (size_some p is) within in
      page_of_place m.page (from + 1 - 1) (omega arith) (omega arith)

  -- Moving hasn't gone past the page.
  not_past : is_left h.store.pages was (from + 1) ≡ false
  not_past =
      let here : ((from + 1 - 1) / 2048 == m.page) ≡ true = at_number ((from + 1 - 1) / 2048) m.page page_is in
      let low : nat_lt (from + 1) (reference_of h.store.pages m.page m.block) ≡ false = not_below m.next m.block (size_of p.class) (size_in (page_at h.store.pages m.page)) m.page m.is_next.from (sym (ap size_in m.emptied)) in
      ap (λ b. if b then nat_lt (from + 1) (reference_of h.store.pages m.page m.block) else is_evacuating (page_of h.store.pages (from + 1))) here ∙ low

  main : (record_of h.store from).forward ≡ from
  main =
      let c = at_phase h was (view w.present) (view w.snapshot) m.phase w.represents.consistent.parts in
      elim (c.stage.2.old (from + 1) (behind true (λ z. is_allocated h.store z) from ∙ allocated)) [
        | inl e ↦ (let f : (record_of h.store from).forward + 1 ≡ from + 1 = sym (behind 0 (λ z. (record_of h.store z).forward + 1) from) ∙ e in omega arith)
        | inr left ↦ absurd (let z : false ≡ true = sym not_past ∙ left in cc)
      ]

  pub retires_main : (new : Store) (j : ℕ) → MovesBlock h.store new from (address_of p.class m.to j) → RetiresMain h p m new
  retires_main new j moved = record {
    name = record { identity = (record_of h.store from).identity; part = (record_of h.store from).part };
    from = from;
    index = j;
    to = address_of p.class m.to j;
    source = refl;
    target = refl;
    was = record { allocated = allocated; forward = main; identity = refl; part = refl };
    free = moved.free;
    is = record {
      allocated = moved.allocated;
      forward = ap (λ (n : BlockRecord). n.forward) moved.copy;
      identity = ap (λ (n : BlockRecord). n.identity) moved.copy;
      part = ap (λ (n : BlockRecord). n.part) moved.copy;
    };
    words = moved.copy;
    old = moved.forward;
  }
