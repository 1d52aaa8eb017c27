-- The writes of the heap, each a change of the graph heap.
use Rattle.std.proofs.Common.{◌≡◌, ℕ, ◌+◌, ◌<◌, ◌∷◌, ◌++◌, [], Bool, true, false, if◌then◌else◌, length, length-set, get_or, set, ap, ◌∙◌, sym, subst, refl}
use Rattle.graph_heap.specs.declared.command.Shape.{Shape}
use Rattle.graph_heap.specs.declared.command.Change.{Change}
use Rattle.graph_heap.specs.declared.command.Change.TheVariants as changes
use Rattle.graph_heap.specs.Graph.{Graph, first_slot, changed}
use Rattle.size_classes.specs.Parts.{cells_of, parts_in}
use Rattle.heap_model.specs.Block.{with_cell}
use Rattle.heap_model.specs.Agreement.{Agrees}
use Rattle.heap_model.specs.Store.{Store, record_of, Writes}
use Rattle.heap_model.specs.State.{HeapState, seen}
use Rattle.heap_model.specs.Written.{records}
use Rattle.heap_model.proofs.Left.{change_left}
use Rattle.heap_model.proofs.Change.Recording.{records_stay}
use Rattle.nodes.specs.Grey.{GreySet, buffer_of, with_buffer, AreLinked}
use Rattle.satb_barrier.specs.Recording.{with_room, shades, buffers_after}
use Rattle.machine.specs.Buffers.{AreBuffersBy}
use Rattle.heap_model.specs.Change.{DoesChange, Does_nothing, Does_root, Does_ref, Does_word, Does_new, Does_join, Does_leave, Clears, Clears_none, Clears_next, Records, Records_nothing, Records_main}
use Rattle.heap_model.specs.Making.{MakesObject}
use Rattle.heap_model.specs.Taking.{Takes}
use Rattle.heap_model.specs.Settings.{HeapSettings}
use Rattle.heap_model.proofs.Settings.{change_settings}
use Rattle.heap_model.proofs.Alike.Sameness.{told}
use Rattle.nodes.specs.Referent.{CanFollow}
use Rattle.nodes.specs.declared.heap_fields.HeapFields.{HeapFields}
use Rattle.nodes.specs.HeapFields.{state_of, IsHeap, AreHeapFields}
use Rattle.machine.specs.Plan.{IsPlanned, CanPerform, DoesEach}
use Rattle.arraylets.specs.declared.cells.Cell.{Cell}
use Rattle.machine.specs.declared.plan.Write.{Write}
use Rattle.machine.specs.declared.plan.Write.TheVariants as writes
use Rattle.machine.proofs.Doing.{present_agrees, at_present, founded, planned_alike, heap_after, agrees_after}
use Rattle.machine.proofs.Finding.{reads_root}
use Rattle.nodes.proofs.Representing.{follows}

-- for each graph heap, the heap does each change of which the write is, and agrees with the graph heap after it
abbrev pub Performs : HeapState → Write → HeapState → Type 0
Performs h w after = (g : Graph) (change : Change) → Agrees h g → IsPlanned h g change w → DoesChange h g change after × Agrees after (changed g change)

-- the fields h, which are seen as the value t
module _ (h t : HeapState) (is : h ≡ t) (w : IsHeap h) (write : Write) where
  pub planned_now : CanPerform t write → (c : Change) × IsPlanned h w.present c write
  planned_now can = at_present (λ x g. (c : Change) × IsPlanned x g c write) h t is w can

  module _ (after : HeapState) (does : DoesEach h write after) where
    pub stays_heap : CanPerform t write → IsHeap after
    stays_heap can =
        let p = planned_now can in let b = present_agrees h w in
        heap_after h after w p.0 (founded h w.present b w.represents.consistent.row p.0 write p.1) (does w.present p.0 b p.1)

    performed : Performs h write after
    performed g c a p =
        let b = present_agrees h w in
        let q = planned_alike h g w.present (told h g w.present a b) c write p in
        (does g c a p, agrees_after h after w c (founded h w.present b w.represents.consistent.row c write q) (does w.present c b q) g a)

    pub performs : Performs t write after
    performs = subst (λ (x : HeapState). Performs x write after) is performed

-- the reference in a root can be followed
pub root_follows : (h : HeapState) (w : IsHeap h) (root x : ℕ) → root < length h.roots → x ≡ get_or h.roots root 0 → CanFollow h.store x
root_follows h w root x below e = follows h x _ (reads_root h w.present (present_agrees h w) root below x e)

module _ (h k : HeapState) (before : ℕ) (r : Records h before k) where
  pub root_does : (cell x : ℕ) → before ≡ get_or h.roots cell 0 → DoesEach h (writes.Root cell x) (record k { roots = set k.roots cell x })
  root_does cell x e g c a p =
      subst (λ (z : Change). DoesChange h g z (record k { roots = set k.roots cell x })) (sym p.1) (Does_root cell p.0 x k (subst (λ z. Records h z k) e r) p.4)

  pub ref_does : (at : Cell) (x : ℕ) (new : Store) → before ≡ get_or (record_of h.store at.block).cells at.index 0 → Writes k.store new at.block (with_cell (record_of k.store at.block) at.index x)
      → DoesEach h (writes.Ref at x) (record k { store = new })
  ref_does at x new e wr g c a p =
      subst (λ (z : Change). DoesChange h g z (record k { store = new })) (sym p.3)
      (Does_ref p.0 p.1 p.2 at.block x k new p.4.1.main
      (subst (λ z. Records h z k) (e ∙ ap (λ z. get_or (record_of h.store at.block).cells z 0) p.4.1.index) r) p.6
      (subst (λ z. Writes k.store new at.block (with_cell (record_of k.store at.block) z x)) p.4.1.index wr))

  pub new_does : (cell block : ℕ) (shape : Shape) (new : Store) → before ≡ get_or h.roots cell 0
      → ((at : ℕ → ℕ) × (at 0 ≡ block) × MakesObject k.store shape k.mark_parity k.next at new × Takes (cells_of shape) at k.store.pages (parts_in (cells_of shape)) new.pages)
      → DoesEach h (writes.New cell shape) (record k { store = new; next = k.next + 1; roots = set k.roots cell (block + 1) })
  new_does cell block shape new e makes g c a p =
      subst (λ (z : Change). DoesChange h g z (record k { store = new; next = k.next + 1; roots = set k.roots cell (block + 1) })) (sym p.0)
      (subst (λ b. DoesChange h g (changes.New cell h.next shape) (record k { store = new; next = k.next + 1; roots = set k.roots cell (b + 1) })) makes.1
      (Does_new cell h.next shape k new makes.0 (subst (λ z. Records h z k) e r) makes.2 makes.3))

pub word_does : (h : HeapState) (at : Cell) (word : ℕ) (new : Store) → Writes h.store new at.block (with_cell (record_of h.store at.block) at.index word) → DoesEach h (writes.Word at word) (record h { store = new })
word_does h at word new wr g c a p =
    subst (λ (z : Change). DoesChange h g z (record h { store = new })) (sym p.2)
    (Does_word p.0 p.1 word at.block new p.3.1.main (subst (λ z. Writes h.store new at.block (with_cell (record_of h.store at.block) z word)) p.3.1.index wr))

-- if nothing is recorded, a change leaves the grey parts as they are
records_grey : (h k : HeapState) (x : ℕ) → Records h x k → records h.phase ≡ false → k.grey ≡ h.grey
records_grey h k x (Records_nothing e) off = refl
records_grey h k x (Records_main l on sh) off = absurd (let z : true ≡ false = sym on ∙ off in cc)

clears_phase : (h : HeapState) (first n : ℕ) (k : HeapState) → Clears h first n k → k.phase ≡ h.phase
clears_phase h first n k Clears_none = refl
clears_phase h first n k (Clears_next n0 j k0 c r) = (records_stay j k0 _ r).phase ∙ clears_phase h first n0 j c

clears_grey : (h : HeapState) (first n : ℕ) (k : HeapState) → Clears h first n k → records h.phase ≡ false → k.grey ≡ h.grey
clears_grey h first n k Clears_none off = refl
clears_grey h first n k (Clears_next n0 j k0 c r) off = records_grey j k0 _ r (ap records (clears_phase h first n0 j c) ∙ off) ∙ clears_grey h first n0 j c off

grey_left : (h after : HeapState) (g : Graph) (c : Change) → DoesChange h g c after → records h.phase ≡ false → after.grey ≡ h.grey
grey_left h after g c Does_nothing off = refl
grey_left h after g c (Does_root cell id y k r main) off = records_grey h k _ r off
grey_left h after g c (Does_ref id i value address y k new at r main writes) off = records_grey h k _ r off
grey_left h after g c (Does_word id i word address new at writes) off = refl
grey_left h after g c (Does_new cell id shape k new at r makes takes) off = records_grey h k _ r off
grey_left h after g c (Does_join m) off = refl
grey_left h after g c (Does_leave m k clears) off = clears_grey h (first_slot g.limits m) g.limits.slots k clears off

pub count_after : (a : HeapFields) (m x : ℕ) → length (buffers_after a m x) ≡ length a.grey.buffers
count_after a m x = by_case (shades a x)
  where
    by_case : (b : Bool) → length (if b then (with_buffer a.grey m (with_room (buffer_of a.grey m) ++ (seen (state_of a)).forward x ∷ [])).buffers else a.grey.buffers) ≡ length a.grey.buffers
    by_case true = length-set a.grey.buffers m (record { items = with_room (buffer_of a.grey m) ++ (seen (state_of a)).forward x ∷ [] })
    by_case false = refl

-- a write done leaves a heap
pub written_heap : (a b : HeapFields) → AreHeapFields a → (write : Write) → CanPerform (state_of a) write → DoesEach (state_of a) write (state_of b) → length b.grey.buffers ≡ length a.grey.buffers → AreLinked b.nodes b.grey → AreHeapFields b
written_heap a b w write can does count linked =
    let p = can w.heap.present (present_agrees (state_of a) w.heap) in
    let change = does w.heap.present p.0 (present_agrees (state_of a) w.heap) p.1 in
    record {
      heap = stays_heap (state_of a) (state_of a) refl w.heap write (state_of b) does can;
      buffers = count ∙ w.buffers ∙ sym (ap (λ (x : HeapSettings). x.limits.mutators) (change_settings (state_of a) (state_of b) w.heap.present p.0 change));
      linked = linked;
      empty = λ off.
          let still : records a.phase ≡ false = ap records (sym (change_left (state_of a) (state_of b) w.heap.present p.0 change).phase) ∙ off in
          grey_left (state_of a) (state_of b) w.heap.present p.0 change still ∙ w.empty still;
    }

-- the number of buffers
pub count_by : (a : HeapFields) (m : ℕ) (write : Write) (grey : GreySet) → AreBuffersBy a m write grey → length grey.buffers ≡ length a.grey.buffers
count_by a m writes.Nothing grey e = ap length e
count_by a m (writes.Root cell x) grey e = ap length e ∙ count_after a m (get_or a.roots.cells cell 0)
count_by a m (writes.Ref at x) grey e = ap length e ∙ count_after a m (get_or (record_of a.nodes at.block).cells at.index 0)
count_by a m (writes.Word at word) grey e = ap length e
count_by a m (writes.New cell shape) grey e = ap length e ∙ count_after a m (get_or a.roots.cells cell 0)
count_by a m (writes.Join n) grey e = ap length e
count_by a m (writes.Leave n) grey own = own.0
