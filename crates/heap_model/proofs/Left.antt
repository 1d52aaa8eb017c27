-- A change leaves the cycle where it stood.
use Rattle.std.proofs.Common.{◌≡◌, ◌≢◌, ℕ, ◌+◌, inl, inr, Bool, true, false, List, length, set, refl, ap, sym, subst, ◌∙◌, arith, length-set, ◌==◌}
use Rattle.std.proofs.Math.Nat.{eq-zero-or-pos}
use Rattle.graph_heap.specs.declared.command.Shape.{Shape}
use Rattle.graph_heap.specs.declared.command.Change.{Change}
use Rattle.graph_heap.specs.Graph.{Graph, first_slot}
use Rattle.size_classes.specs.Parts.{cells_of, parts_in}
use Rattle.heap_model.specs.Store.{Store, is_allocated}
use Rattle.heap_model.specs.State.{HeapState}
use Rattle.heap_model.specs.Making.{made, Making, Nothing_made, Part_made}
use Rattle.heap_model.specs.Change.{DoesChange, Does_nothing, Does_root, Does_ref, Does_word, Does_new, Does_join, Does_leave, Clears, Clears_none, Clears_next}
use Rattle.heap_model.specs.Left.{LeavesCycle}
use Rattle.heap_model.proofs.State.{allocated_pages}
use Rattle.heap_model.proofs.Action.Moving.{same_number}
use Rattle.heap_model.proofs.Placed.{pages_then}
use Rattle.heap_model.proofs.Bound.{same_limit}
use Rattle.heap_model.proofs.Taking.{takes_keep, takes_count}
use Rattle.heap_model.proofs.Change.Changed.{same_pages}
use Rattle.heap_model.proofs.Change.Recording.{Stays, records_stay}

adds_allocated : (s t : Store) (a b : ℕ) → is_allocated s a ≡ false → ((b : ℕ) → b ≢ a → is_allocated t b ≡ is_allocated s b) → is_allocated s b ≡ true → is_allocated t b ≡ true
adds_allocated s t a b free same allocated = by_here (b == a) refl
  where
    by_here : (w : Bool) → (b == a) ≡ w → is_allocated t b ≡ true
    by_here true e = let here : b ≡ a = same_number b a e in absurd (let z : false ≡ true = sym free ∙ sym (ap (is_allocated s) here) ∙ allocated in cc)
    by_here false e = let ne : b ≢ a = grind arith in same b ne ∙ allocated

making_allocated : (old : Store) (shape : Shape) (colour : Bool) (id : ℕ) (at : ℕ → ℕ) (k : ℕ) (new : Store) → Making old (made shape colour id) at k new → (b : ℕ) → is_allocated old b ≡ true → is_allocated new b ≡ true
making_allocated old shape colour id at k new Nothing_made b allocated = allocated
making_allocated old shape colour id at k new (Part_made part s t u making w none some) b allocated =
    let x = adds_allocated s t (at part) b w.free w.same (making_allocated old shape colour id at part s making b allocated) in
    elim (eq-zero-or-pos part) [ inl e ↦ subst (λ z. is_allocated z b ≡ true) (sym (none e)) x | inr l ↦ allocated_pages t u b (some l).pages ∙ x ]

-- The cycle is left as it was by the barrier, and by a write of a cell after it.
written_left : (h k : HeapState) (new : Store) (roots : List ℕ) → Stays h k → new.pages ≡ k.store.pages → length roots ≡ length k.roots → LeavesCycle h (record k { store = new; roots = roots })
written_left h k new roots s e r = record {
  phase = s.phase;
  units = s.units;
  limit = same_limit h (record k { store = new; roots = roots }) (r ∙ ap length s.roots) (ap length (e ∙ s.pages)) s.defrag;
  mark_parity = s.mark_parity;
  pages = same_pages h.store.pages new.pages (e ∙ s.pages);
  allocated = λ b l. allocated_pages h.store new b (e ∙ s.pages) ∙ l;
  grey = s.grey;
}

same_left : (h : HeapState) (new : Store) → new.pages ≡ h.store.pages → LeavesCycle h (record h { store = new })
same_left h new e = record {
  phase = refl;
  units = refl;
  limit = same_limit h (record h { store = new }) refl (ap length e) refl;
  mark_parity = refl;
  pages = same_pages h.store.pages new.pages e;
  allocated = λ b l. allocated_pages h.store new b e ∙ l;
  grey = λ x g. g;
}

-- The cycle is left as it was by one after the other.
left_then : (h j k : HeapState) → LeavesCycle h j → LeavesCycle j k → LeavesCycle h k
left_then h j k a b = record {
  phase = b.phase ∙ a.phase;
  units = b.units ∙ a.units;
  limit = b.limit ∙ a.limit;
  mark_parity = b.mark_parity ∙ a.mark_parity;
  pages = pages_then h.store.pages j.store.pages k.store.pages a.pages b.pages;
  allocated = λ x l. b.allocated x (a.allocated x l);
  grey = λ x g. b.grey x (a.grey x g);
}

clears_left : (h : HeapState) (first n : ℕ) (k : HeapState) → Clears h first n k → LeavesCycle h k
clears_left h first n k Clears_none = same_left h h.store refl
clears_left h first n k (Clears_next n0 j k0 c r) = left_then h j k (clears_left h first n0 j c) (written_left j k0 k0.store (set k0.roots (first + n0) 0) (records_stay j k0 _ r) refl (length-set k0.roots (first + n0) 0))

live_left : (h : HeapState) (live : List Bool) → LeavesCycle h (record h { live = live })
live_left h live = record { phase = refl; units = refl; limit = refl; mark_parity = refl; pages = same_pages h.store.pages h.store.pages refl; allocated = λ b l. l; grey = λ x g. g }

pub change_left : (h after : HeapState) (g : Graph) (c : Change) → DoesChange h g c after → LeavesCycle h after
change_left h after g c Does_nothing = same_left h h.store refl
change_left h after g c (Does_root cell id y k r i) = written_left h k k.store (set k.roots cell y) (records_stay h k _ r) refl (length-set k.roots cell y)
change_left h after g c (Does_ref id i value address y k new at r main writes) = written_left h k new k.roots (records_stay h k _ r) writes.pages refl
change_left h after g c (Does_word id i word address new at writes) = same_left h new writes.pages
change_left h after g c (Does_new cell id shape k new at r makes takes) =
    let s = records_stay h k _ r in
    let keeps = takes_keep (cells_of shape) at k.store.pages (parts_in (cells_of shape)) new.pages takes in
    let count = takes_count (cells_of shape) at k.store.pages (parts_in (cells_of shape)) new.pages takes in
    record {
      phase = s.phase;
      units = s.units;
      limit = same_limit h (record k { store = new; next = k.next + 1; roots = set k.roots cell (at 0 + 1) }) (length-set k.roots cell (at 0 + 1) ∙ ap length s.roots) (count ∙ ap length s.pages) s.defrag;
      mark_parity = s.mark_parity;
      pages = pages_then h.store.pages k.store.pages new.pages (same_pages h.store.pages k.store.pages s.pages) keeps;
      allocated = λ b l. making_allocated k.store shape k.mark_parity k.next at _ new makes b (allocated_pages h.store k.store b s.pages ∙ l);
      grey = s.grey;
    }
change_left h after g c (Does_join m) = live_left h (set h.live m true)
change_left h after g c (Does_leave m k clears) = left_then h k after (clears_left h (first_slot g.limits m) g.limits.slots k clears) (live_left k (set k.live m false))
