-- Admission, and a mutator that joins or leaves.
use Rattle.std.proofs.Common.{◌≡◌, ◌≢◌, ℕ, suc, ◌+◌, ◌<◌, ◌≤◌, Bool, true, false, if◌then◌else◌, List, [], ◌∷◌, ◌++◌, length, get_or, set, ap, ◌∙◌, sym, subst, refl, arith, Result, inl, length-set}
use Rattle.std.proofs.lemmas.List.{get_or-set_other}
use Rattle.graph_heap.specs.declared.command.Command.{Command}
use Rattle.graph_heap.specs.declared.command.Limits.{Limits}
use Rattle.graph_heap.specs.declared.command.Change.{Change}
use Rattle.graph_heap.specs.declared.command.Change.TheVariants as changes
use Rattle.graph_heap.specs.declared.command.Refusal.{Refusal}
use Rattle.graph_heap.specs.Graph.{Graph, first_slot}
use Rattle.graph_heap.specs.Effect.{◌>>=◌, is_join, admitted_effect, admitted, admitted_to, effect_of}
use Rattle.heap_model.specs.Agree.{IsMain}
use Rattle.heap_model.specs.Cut.{name_of}
use Rattle.heap_model.specs.State.{HeapState, seen}
use Rattle.heap_model.specs.Agreement.{Agrees}
use Rattle.heap_model.specs.Event.{room_for}
use Rattle.heap_model.specs.Change.{Records, DoesChange, Does_root, Does_join, Does_leave, Clears, Clears_none, Clears_next}
use Rattle.heap_model.proofs.Change.Recording.{records_stay}
use Rattle.nodes.specs.Grey.{MutatorRecords, GreySet, buffer_of, with_buffer}
use Rattle.nodes.specs.HeapFields.{state_of, IsHeap}
use Rattle.nodes.specs.declared.heap_fields.HeapFields.{HeapFields}
use Rattle.satb_barrier.specs.Recording.{with_room, shades, buffers_after}
use Rattle.machine.specs.Buffers.{AreOwn}
use Rattle.machine.specs.Plan.{IsPlanned, CanPerform, DoesEach}
use Rattle.machine.specs.declared.plan.Write.TheVariants as writes
use Rattle.machine.proofs.Doing.{present_agrees}
use Rattle.machine.proofs.Writing.{count_after}

-- the graph heap admits the same commands as the heap
module _ (h : HeapState) (g : Graph) (a : Agrees h g) (m : ℕ) (c : Command) where
  same_admission : admitted g m c ≡ admitted_to h.limits h.live m (is_join c)
  same_admission = ap (λ (l : Limits). admitted_to l g.live m (is_join c)) (sym a.limits) ∙ ap (λ z. admitted_to h.limits z m (is_join c)) (sym a.live)

  pub effect_is : (r : Result (Unit {0}) Refusal) → r ≡ admitted_to h.limits h.live m (is_join c) → effect_of (room_for h c) g m c ≡ (r >>= λ ok. admitted_effect (room_for h c) g m c)
  effect_is r is = ap (λ (x : Result (Unit {0}) Refusal). x >>= λ ok. admitted_effect (room_for h c) g m c) (same_admission ∙ sym is)

-- the effect of setting a root to null
null_does : (h after : HeapState) (g : Graph) (cell id : ℕ) → id ≡ 0 → Agrees h g → DoesChange h g (changes.Root cell id) after → (k : HeapState) × Records h (get_or h.roots cell 0) k × (after ≡ record k { roots = set k.roots cell 0 })
null_does h after g cell id e a (Does_root cell0 id0 y k r i) =
    let null : y ≡ 0 = a.null y (subst (λ z. IsMain (seen h) y (name_of z)) e i) in
    (k, r, ap (λ z. (let x : HeapState = record k { roots = set k.roots cell z } in x)) null)

-- a root may get null
null_planned : (h : HeapState) (cell : ℕ) → cell < length h.roots → (g : Graph) → IsPlanned h g (changes.Root cell 0) (writes.Root cell 0)
null_planned h cell l g = (0, refl, l, inl refl, record { allocated = refl; forward = refl; name = refl })

pub null_can : (h : HeapState) (cell : ℕ) → cell < length h.roots → CanPerform h (writes.Root cell 0)
null_can h cell l g a = (changes.Root cell 0, null_planned h cell l g)

pub clears_step : (h j after : HeapState) (first n : ℕ) → Clears h first n j → IsHeap j → first + n < length j.roots → DoesEach j (writes.Root (first + n) 0) after → Clears h first (n + 1) after
clears_step h j after first n c heap l does =
    let a = present_agrees j heap in
    let w = null_does j after heap.present (first + n) 0 refl a (does heap.present (changes.Root (first + n) 0) a (null_planned j (first + n) l heap.present)) in
    let e : suc n ≡ n + 1 = omega arith in
    subst (λ z. Clears h first z after) e (subst (λ z. Clears h first (suc n) z) (sym w.2) (Clears_next n j w.0 c w.1))

pub clears_row : (h : HeapState) (first n : ℕ) (k : HeapState) → Clears h first n k → (length k.roots ≡ length h.roots) × (k.limits ≡ h.limits)
clears_row h first n k Clears_none = (refl, refl)
clears_row h first n k (Clears_next n0 j k0 c r) =
    let w = clears_row h first n0 j c in
    let s = records_stay j k0 _ r in
    (length-set k0.roots (first + n0) 0 ∙ ap length s.roots ∙ w.0, s.limits ∙ w.1)

-- the next root
pub next_within : (h j : HeapState) (first n count : ℕ) → Clears h first n j → first + count ≤ length h.roots → n < count → first + n < length j.roots
next_within h j first n count c l below = let row = (clears_row h first n j c).0 in omega (arith, row, l, below)

-- a mutator that may join or leave exists
pub leaver_low : (h : HeapState) → IsHeap h → (m : ℕ) → CanPerform h (writes.Leave m) → m < h.limits.mutators
leaver_low h heap m can = (can heap.present (present_agrees h heap)).1.1

-- the number of slots cleared is that of the limits
pub slots_cleared : (h k : HeapState) (l : Limits) (m : ℕ) → l ≡ h.limits → Clears h (first_slot l m) l.slots k → Clears h (first_slot h.limits m) h.limits.slots k
slots_cleared h k l m e c = subst (λ (x : Limits). Clears h (first_slot x m) x.slots k) e c

pub join_does : (h : HeapState) (m : ℕ) → DoesEach h (writes.Join m) (record h { live = set h.live m true })
join_does h m g change a p = subst (λ (z : Change). DoesChange h g z (record h { live = set h.live m true })) (sym p.0) (Does_join m)

pub leave_does : (h k : HeapState) (m : ℕ) → Clears h (first_slot h.limits m) h.limits.slots k → DoesEach h (writes.Leave m) (record k { live = set k.live m false })
leave_does h k m c g change a p =
    subst (λ (z : Change). DoesChange h g z (record k { live = set k.live m false })) (sym p.0) (Does_leave m k (subst (λ (l : Limits). Clears h (first_slot l m) l.slots k) a.limits c))

-- only the mutator's own buffer changes
pub own_none : (m : ℕ) (grey : GreySet) → AreOwn m grey grey
own_none m grey = (refl, λ k ne. refl)

pub own_then : (m : ℕ) (old mid new : GreySet) → AreOwn m old mid → AreOwn m mid new → AreOwn m old new
own_then m old mid new a b = (b.0 ∙ a.0, λ k ne. b.1 k ne ∙ a.1 k ne)

pub own_after : (a : HeapFields) (m x : ℕ) (new : GreySet) → new.buffers ≡ buffers_after a m x → AreOwn m a.grey new
own_after a m x new e = (ap length e ∙ count_after a m x, λ k ne. ap (λ (bs : List MutatorRecords). (get_or bs k (record { items = [] })).items) e ∙ by_case k ne (shades a x))
  where
    by_case : (k : ℕ) → k ≢ m → (b : Bool) → (get_or (if b then (with_buffer a.grey m (with_room (buffer_of a.grey m) ++ (seen (state_of a)).forward x ∷ [])).buffers else a.grey.buffers) k (record { items = [] })).items ≡ buffer_of a.grey k
    by_case k ne true = ap (λ (b : MutatorRecords). b.items) (get_or-set_other a.grey.buffers m k (record { items = with_room (buffer_of a.grey m) ++ (seen (state_of a)).forward x ∷ [] }) (record { items = [] }) ne)
    by_case k ne false = refl
