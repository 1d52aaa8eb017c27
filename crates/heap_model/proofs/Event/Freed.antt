-- A freed object can't be reached, and never comes back.
use Rattle.std.proofs.Common.{◌≡◌, ◌≢◌, ℕ, ◌<◌, ◌≤◌, ◌⊎◌, inl, inr, Bool, true, false, List, [], ◌∷◌, ◌++◌, length, get_or, ap, subst, sym, arith, ◌==◌, if◌then◌else◌, length-set, length-append}
use Rattle.graph_heap.specs.declared.command.Change.{Change}
use Rattle.graph_heap.specs.declared.command.Change.TheVariants as changes
use Rattle.graph_heap.specs.Graph.{Object, Graph, object_of, with_ref, with_word, new_object, changed}
use Rattle.graph_heap.specs.Reach.{Reaches}
use Rattle.heap_model.specs.State.{HeapState}
use Rattle.heap_model.specs.Agreement.{Consistent}
use Rattle.heap_model.specs.Cut.{name_of, view}
use Rattle.heap_model.specs.Core.{Grows, Kept}
use Rattle.heap_model.specs.Alike.{IsFounded}
use Rattle.heap_model.specs.Written.{IsKnown}
use Rattle.heap_model.specs.Swept.{IsKept, IsAllocated}
use Rattle.heap_model.specs.Event.{Course, Event, present_of, snapshot_of, room_for, change_by, Command_done, Cycle_begun, Begin_refused, Quantum_done, Quantum_refused, Does, Runs, IsCourse}
use Rattle.heap_model.proofs.Cut.Changes.{read-set, length-put}
use Rattle.heap_model.proofs.Cut.Reaching.{count_some}
use Rattle.heap_model.proofs.Agreements.Implied.{part_kept}
use Rattle.heap_model.proofs.Swept.{kept_identity, kept_allocated}
use Rattle.heap_model.proofs.Event.Kept.{founded, present_row, enters_present, begins_present, collects_present, does_course}
use Rattle.heap_model.proofs.Alike.Sameness.{known_ref, known_reaches, after_root, after_put, after_new, after_live, after_leave, reach_some}

-- what can be reached is kept
pub reached_kept : (h : HeapState) (present snapshot : Graph) → Consistent h present snapshot → (id : ℕ) → Reaches present id → IsKept present snapshot id
reached_kept h p s c id r =
    let k : Kept (length h.roots) (view s) (view p) (name_of id) = part_kept h p s c id 0 r (count_some _) in
    let k' : Kept (length s.roots) (view s) (view p) (name_of id) = subst (λ z. Kept z (view s) (view p) (name_of id)) c.snapshot_row k in
    let grows = subst (λ z. Grows z (view s) (view p)) c.snapshot_row c.parts.base.grows in
    let some = reach_some p id r in
    (kept_identity s p (name_of id) grows (let q : id ≢ 0 = omega arith in q) k').0

-- and allocated
pub reached_allocated : (h : HeapState) (present snapshot : Graph) → Consistent h present snapshot → (id : ℕ) → Reaches present id → IsAllocated h present id
reached_allocated h p s c id r = kept_allocated h p s c id (reached_kept h p s c id r)

-- what can be reached after a change could be reached before, or is new
known_back : (g : Graph) (id : ℕ) → IsKnown g id → 0 < id → (Reaches g id) ⊎ (length g.objects < id)
known_back g id k some = inl (known_reaches g id k some)

pub reached_back : (g : Graph) (c : Change) → IsFounded g c → (id : ℕ) → Reaches (changed g c) id → (Reaches g id) ⊎ (length g.objects < id)
reached_back g changes.Nothing w id r = inl r
reached_back g (changes.Root j v) w id r = known_back g id (after_root g j v w.0 w.1 id r) (reach_some _ id r)
reached_back g (changes.Ref a i v) w id r =
    let o = object_of g.objects a in
    known_back g id (after_put g a (with_ref o i v) (reach_some g a w.0) w.1 (λ n b. let b' : n < length o.refs = subst (λ z. n < z) (length-set o.refs i v) b in subst (λ z. IsKnown g z) (sym (read-set o.refs i v n w.2)) (by_here n b' (n == i))) id r) (reach_some _ id r)
  where
    by_here : (n : ℕ) → n < length (object_of g.objects a).refs → (t : Bool) → IsKnown g (if t then v else get_or (object_of g.objects a).refs n 0)
    by_here n b true = w.3
    by_here n b false = known_ref g a n (inr w.0) b
reached_back g (changes.Word a i word) w id r =
    let o = object_of g.objects a in
    known_back g id (after_put g a (with_word o i word) (reach_some g a w.0) w.1 (λ n b. known_ref g a n (inr w.0) b) id r) (reach_some _ id r)
reached_back g (changes.New j new shape) w id r = elim (after_new g j shape w.0 id (subst (λ z. Reaches (changed g (changes.New j z shape)) id) w.1 r)) [
  | inl k ↦ known_back g id k (reach_some _ id r)
  | inr e ↦ inr (omega arith)
]
reached_back g (changes.Join m) w id r = known_back g id (after_live g _ id r) (reach_some _ id r)
reached_back g (changes.Leave m) w id r = known_back g id (after_leave g m w id r) (reach_some _ id r)

-- no object goes
append_more : (xs : List Object) (o : Object) → length xs ≤ length (xs ++ o ∷ [])
append_more xs o = let e = length-append xs (o ∷ []) in omega arith

pub objects_stay : (g : Graph) (c : Change) → length g.objects ≤ length (changed g c).objects
objects_stay g changes.Nothing = omega arith
objects_stay g (changes.Root j v) = omega arith
objects_stay g (changes.Ref a i v) = let e = length-put g.objects a (with_ref (object_of g.objects a) i v) in omega arith
objects_stay g (changes.Word a i word) = let e = length-put g.objects a (with_word (object_of g.objects a) i word) in omega arith
objects_stay g (changes.New j new shape) = append_more g.objects (new_object shape)
objects_stay g (changes.Join m) = omega arith
objects_stay g (changes.Leave m) = omega arith

-- Objects that can be reached after an event could be reached before, or are new.
record Back (f g : Graph) : Type 0 where
  pub more : length f.objects ≤ length g.objects
  pub back : (id : ℕ) → Reaches g id → (Reaches f id) ⊎ (length f.objects < id)

back_same : (f g : Graph) → g ≡ f → Back f g
back_same f g e = subst (Back f) (sym e) (record { more = omega arith; back = λ id r. inl r })

does_back : (r : Course) (e : Event) (new : Course) → IsCourse r → Does r e new → Back (present_of r) (present_of new)
does_back r (Command_done m c reply) new w d =
    let g = present_of r in
    let change = change_by (room_for r.heap c) g m c in
    subst (Back g) (sym (enters_present r new m c reply w d))
    (record { more = objects_stay g change; back = reached_back g change (founded g (room_for r.heap c) m c (present_row r.heap g (snapshot_of r) w.represents.consistent)) })
does_back r Cycle_begun new w d = back_same (present_of r) (present_of new) (begins_present r new d)
does_back r Begin_refused new w d = back_same (present_of r) (present_of new) (ap present_of d.1)
does_back r (Quantum_done budget units phase) new w d = back_same (present_of r) (present_of new) (collects_present r new budget units phase w d)
does_back r (Quantum_refused budget) new w d = back_same (present_of r) (present_of new) (ap present_of d.1)

-- so what can't be reached never comes back
pub runs_back : (es : List Event) (r new : Course) (id : ℕ) → IsCourse r → Runs r es new → id ≤ length (present_of r).objects → Reaches (present_of new) id → Reaches (present_of r) id
runs_back [] r new id w e l reach = subst (λ z. Reaches (present_of z) id) e reach
runs_back (e ∷ es) r new id w d l reach =
    let b = does_back r e d.0 w d.1 in
    let m = b.more in
    let next = runs_back es d.0 new id (does_course r e d.0 w d.1) d.2 (omega arith) reach in
    elim (b.back id next) [ inl before ↦ before | inr late ↦ absurd (omega arith) ]
