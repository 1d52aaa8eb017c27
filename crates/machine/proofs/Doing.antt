-- A change done: the heap represents the graph heap after it, and agrees with each with which it agreed before.
use Rattle.std.proofs.Common.{◌≡◌, ℕ, ◌+◌, ◌*◌, ◌<◌, ◌≤◌, ◌^◌, Bool, true, false, ◌==◌, if◌then◌else◌, length, ap, ◌∙◌, sym, subst, refl, inl, inr, arith}
use Rattle.std.proofs.Math.Nat.{mul-le-mul_right}
use Rattle.graph_heap.specs.declared.command.Change.{Change}
use Rattle.graph_heap.specs.declared.command.Change.TheVariants as changes
use Rattle.graph_heap.specs.declared.command.Limits.{Limits}
use Rattle.graph_heap.specs.Shape.{fits}
use Rattle.graph_heap.specs.Graph.{Graph, first_slot, root_cells, Object, object_of, changed, with_ref, with_word, new_object}
use Rattle.heap_model.specs.State.{HeapState}
use Rattle.heap_model.specs.Represents.{Represents}
use Rattle.heap_model.specs.Agreement.{Agrees}
use Rattle.heap_model.specs.Alike.{IsAlike, IsFounded}
use Rattle.heap_model.specs.Written.{IsKnown}
use Rattle.heap_model.specs.Change.{DoesChange}
use Rattle.heap_model.proofs.Agreements.Implied.{consistent_agrees}
use Rattle.heap_model.proofs.Alike.Sameness.{each_changed, reach_some, alike_back, alike_sym}
use Rattle.heap_model.proofs.Cut.Changes.{put_each, object-append}
use Rattle.heap_model.proofs.Change.Changed.{represents_changed}
use Rattle.heap_model.proofs.Left.{change_left}
use Rattle.nodes.specs.HeapFields.{IsHeap}
use Rattle.machine.specs.Plan.{IsPlanned}
use Rattle.machine.specs.Reading.{IsRefCell, IsWordCell}
use Rattle.arraylets.specs.declared.cells.Cell.{Cell}
use Rattle.machine.specs.declared.plan.Write.{Write}
use Rattle.machine.specs.declared.plan.Write.TheVariants as writes

pub present_agrees : (h : HeapState) (w : IsHeap h) → Agrees h w.present
present_agrees h w = consistent_agrees h w.present w.snapshot w.represents.consistent

-- a fact about the value t and each graph heap holds of the fields h and the present graph heap
pub at_present : (P : HeapState → Graph → Type 0) (h t : HeapState) → h ≡ t → (w : IsHeap h) → ((g : Graph) → Agrees t g → P t g) → P h w.present
at_present P h t is w known = subst (λ (x : HeapState). (g : Graph) → Agrees x g → P x g) (sym is) known w.present (present_agrees h w)

pub place_now : (Is : HeapState → Graph → ℕ → ℕ → Cell → Type 0) (h t : HeapState) → h ≡ t → (w : IsHeap h) (at : Cell) → ((g : Graph) → Agrees t g → (id : ℕ) × (i : ℕ) × Is t g id i at) → (id : ℕ) × (i : ℕ) × Is h w.present id i at
place_now Is h t is w at = at_present (λ x g. (id : ℕ) × (i : ℕ) × Is x g id i at) h t is w

-- no object becomes too large
fits_changed : (g : Graph) (c : Change) → IsFounded g c → ((id : ℕ) → fits (object_of g.objects id).shape ≡ true) → (id : ℕ) → fits (object_of (changed g c).objects id).shape ≡ true
fits_changed g changes.Nothing f w = w
fits_changed g (changes.Root cell id) f w = w
fits_changed g (changes.Ref id i v) f w = λ k.
    ap fits (put_each (λ (o : Object). o.shape) g.objects id (with_ref (object_of g.objects id) i v) (reach_some g id f.0) f.1 refl k) ∙ w k
fits_changed g (changes.Word id i v) f w = λ k.
    ap fits (put_each (λ (o : Object). o.shape) g.objects id (with_word (object_of g.objects id) i v) (reach_some g id f.0) f.1 refl k) ∙ w k
fits_changed g (changes.New cell id shape) f w = λ k. by_last k (k == length g.objects + 1) refl
  where
    by_last : (k : ℕ) (b : Bool) → (k == length g.objects + 1) ≡ b → fits (object_of (changed g (changes.New cell id shape)).objects k).shape ≡ true
    by_last k true e = ap (λ (o : Object). fits o.shape) (object-append g.objects (new_object shape) k ∙ ap (λ t. if t then new_object shape else object_of g.objects k) e) ∙ f.2
    by_last k false e = ap (λ (o : Object). fits o.shape) (object-append g.objects (new_object shape) k ∙ ap (λ t. if t then new_object shape else object_of g.objects k) e) ∙ w k
fits_changed g (changes.Join m) f w = w
fits_changed g (changes.Leave m) f w = w

-- the slots of a mutator are in the row
pub leave_within : (h : HeapState) (m : ℕ) → length h.roots ≡ root_cells h.limits → m < h.limits.mutators → first_slot h.limits m + h.limits.slots ≤ length h.roots
leave_within h m row low =
    let above : m + 1 ≤ h.limits.mutators = omega arith in
    let e : (m + 1) * h.limits.slots ≤ h.limits.mutators * h.limits.slots = mul-le-mul_right h.limits.slots above in
    let f : (m + 1) * h.limits.slots ≡ m * h.limits.slots + h.limits.slots = grind arith in
    omega arith

-- the change of a planned write names only roots and objects that exist
pub founded : (h : HeapState) (g : Graph) → Agrees h g → length h.roots ≡ root_cells h.limits → (c : Change) (w : Write) → IsPlanned h g c w → IsFounded g c
founded h g a row c writes.Nothing p = subst (λ (x : Change). IsFounded g x) (sym p) tt
founded h g a row c (writes.Root cell x) p = subst (λ (x : Change). IsFounded g x) (sym p.1) (subst (λ n. cell < n) a.roots p.2, p.3)
founded h g a row c (writes.Ref at x) p = subst (λ (x : Change). IsFounded g x) (sym p.3) (p.4.0, (a.given p.0 p.4.0).below, p.4.1.below, p.5)
founded h g a row c (writes.Word at word) p = subst (λ (x : Change). IsFounded g x) (sym p.2) (p.3.0, (a.given p.0 p.3.0).below, p.3.1.below)
founded h g a row c (writes.New cell shape) p = subst (λ (x : Change). IsFounded g x) (sym p.0) (subst (λ n. cell < n) a.roots p.1, a.next, p.3)
founded h g a row c (writes.Join m) p = subst (λ (x : Change). IsFounded g x) (sym p.0) tt
founded h g a row c (writes.Leave m) p =
    subst (λ (x : Change). IsFounded g x) (sym p.0) (subst (λ n. first_slot g.limits m + g.limits.slots ≤ n) a.roots (subst (λ (l : Limits). first_slot l m + l.slots ≤ length h.roots) a.limits (leave_within h m row p.1)))

-- a plan for one graph heap is a plan for each that no reply tells apart from it
known_alike : (f g : Graph) → IsAlike f g → (id : ℕ) → IsKnown f id → IsKnown g id
known_alike f g a id k = elim k [ inl e ↦ inl e | inr r ↦ inr (alike_back g f (alike_sym f g a) id r) ]

pub planned_alike : (h : HeapState) (f g : Graph) → IsAlike f g → (c : Change) (w : Write) → IsPlanned h f c w → IsPlanned h g c w
planned_alike h f g a c writes.Nothing p = p
planned_alike h f g a c (writes.Root cell x) p = (p.0, p.1, p.2, known_alike f g a p.0 p.3, p.4)
planned_alike h f g a c (writes.Ref at x) p =
    (p.0, p.1, p.2, p.3, (alike_back g f (alike_sym f g a) p.0 p.4.0, subst (λ (o : Object). IsRefCell h o p.0 p.1 at) (a.object p.0 p.4.0) p.4.1), known_alike f g a p.2 p.5, p.6)
planned_alike h f g a c (writes.Word at word) p =
    (p.0, p.1, p.2, (alike_back g f (alike_sym f g a) p.0 p.3.0, subst (λ (o : Object). IsWordCell h o p.0 p.1 at) (a.object p.0 p.3.0) p.3.1))
planned_alike h f g a c (writes.New cell shape) p = p
planned_alike h f g a c (writes.Join m) p = p
planned_alike h f g a c (writes.Leave m) p = p

module _ (h after : HeapState) (w : IsHeap h) (c : Change) (is_founded : IsFounded w.present c) (does : DoesChange h w.present c after) where
  represents_after : Represents after (changed w.present c) w.snapshot
  represents_after = represents_changed h after w.present w.snapshot c w.represents is_founded does

  pub heap_after : IsHeap after
  heap_after = let left = change_left h after w.present c does in record {
    present = changed w.present c;
    snapshot = w.snapshot;
    represents = represents_after;
    fits = fits_changed w.present c is_founded w.fits;
    small = subst (λ n. n < 2 ^ 41) (sym left.limit) w.small;
  }

  -- it agrees with each graph heap after the change, if it agreed with that before
  pub agrees_after : (g : Graph) → Agrees h g → Agrees after (changed g c)
  agrees_after g a =
      each_changed h after w.present g c (present_agrees h w) a is_founded (consistent_agrees after (changed w.present c) w.snapshot represents_after.consistent)
