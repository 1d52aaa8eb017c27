-- The allocated blocks when a sweep ends, and in idle and moving.
use Rattle.std.proofs.Common.{◌≡◌, ◌≢◌, ◌↔◌, ℕ, ◌+◌, ◌-◌, ◌<◌, ◌≤◌, ◌⊎◌, inl, inr, Bool, true, false, length, get_or, refl, ap, subst, sym, ◌∙◌, arith, ◌==◌, if◌then◌else◌}
use Rattle.graph_heap.specs.Graph.{Graph, object_of}
use Rattle.graph_heap.specs.Reach.{Reaches}
use Rattle.heap_model.specs.declared.phase.Phase.TheVariants as phases
use Rattle.heap_model.specs.declared.phase.Moving.{Moving as Place}
use Rattle.heap_model.specs.Store.{is_allocated, record_of}
use Rattle.heap_model.specs.Core.{Name, null, FreshBy, Kept, Grows, Sweeping, Resting}
use Rattle.heap_model.specs.Agree.{IsMain}
use Rattle.heap_model.specs.Cut.{count_of, name_of, view}
use Rattle.heap_model.specs.State.{HeapState, seen, width_at, reference_of, collector_of, progress_of}
use Rattle.heap_model.specs.Agreement.{Consistent}
use Rattle.heap_model.specs.Swept.{IsKept, IsAllocated, NamesMain, IsSwept}
use Rattle.heap_model.proofs.Core.Kept.{kept_reach, kept_fresh, kept_cases}
use Rattle.heap_model.proofs.Cut.Reaching.{reaches_reach, reach_reaches, count_some, reach_zero}
use Rattle.heap_model.proofs.State.{behind}
use Rattle.heap_model.proofs.Readings.Shown.{copy_main, main_copy}
use Rattle.heap_model.proofs.Action.Collecting.{all_before}
use Rattle.heap_model.proofs.Collector.Coherence.{stage_at}
use Rattle.heap_model.specs.Collector.{In_idle, In_sweep, In_moves}

pub fresh_is : (s g : Graph) (n : Name) → FreshBy (view s) (view g).next (view g).count n → (length s.objects < n.identity) × (n.identity ≤ length g.objects) × (n.part < count_of (object_of g.objects n.identity))
unfolding FreshBy
fresh_is s g n f = (omega arith, omega arith, f.2)

is_fresh : (s g : Graph) (n : Name) → length s.objects < n.identity → n.identity ≤ length g.objects → n.part < count_of (object_of g.objects n.identity) → FreshBy (view s) (view g).next (view g).count n
unfolding FreshBy
is_fresh s g n a b c = (omega arith, omega arith, c)

-- the parts that are kept are those of the identities that are kept
pub kept_identity : (s g : Graph) (n : Name) → Grows (length s.roots) (view s) (view g) → n.identity ≢ 0 → Kept (length s.roots) (view s) (view g) n → IsKept g s n.identity × (n.part < count_of (object_of g.objects n.identity))
kept_identity s g n w some k = elim (kept_cases (length s.roots) (view s) (view g) n k) [
  | inl r ↦ (let q = reach_reaches s n r some in let e = w.count n.identity (w.reached n r) in (inl q.0, subst (λ z. n.part < z) (sym e) q.1))
  | inr f ↦ (let q = fresh_is s g n f in (inr (q.0, q.1), q.2))
]

pub identity_kept : (s g : Graph) (id p : ℕ) → Grows (length s.roots) (view s) (view g) → IsKept g s id → p < count_of (object_of g.objects id) → Kept (length s.roots) (view s) (view g) (record { identity = id; part = p })
identity_kept s g id p w k l =
    let n : Name = record { identity = id; part = p } in
    elim k [
      | inl r ↦ (let r0 = reaches_reach s (name_of id) r (count_some _) in let e = w.count id (w.reached (name_of id) r0) in
          kept_reach (length s.roots) (view s) (view g) n (reaches_reach s n r (subst (λ z. p < z) e l)))
      | inr f ↦ kept_fresh (length s.roots) (view s) (view g) n (is_fresh s g n f.0 f.1 l)
    ]

kept_zero : (s g : Graph) (n : Name) → Kept (length s.roots) (view s) (view g) n → n.identity ≡ 0 → n ≡ null
kept_zero s g n k e = elim (kept_cases (length s.roots) (view s) (view g) n k) [
  | inl r ↦ reach_zero s n r e
  | inr f ↦ absurd (let q = fresh_is s g n f in let l = q.0 in omega arith)
]

-- the name of an allocated block
name_behind : (h : HeapState) (a : ℕ) → (seen h).name (a + 1) ≡ record { identity = (record_of h.store a).identity; part = (record_of h.store a).part }
name_behind h a = behind null (λ z. (let y : Name = record { identity = (record_of h.store z).identity; part = (record_of h.store z).part } in y)) a

-- an allocated block whose reference is the main copy of its name, which is kept
pub allocated_kept : (h : HeapState) (present snapshot : Graph) (c : Consistent h present snapshot) (a : ℕ) → Kept (length h.roots) (view snapshot) (view present) ((seen h).name (a + 1)) → a + 1 ≡ c.parts.at ((seen h).name (a + 1))
    → IsKept present snapshot (record_of h.store a).identity × ((record_of h.store a).part < count_of (object_of present.objects (record_of h.store a).identity))
allocated_kept h present snapshot c a k e =
    let n : Name = record { identity = (record_of h.store a).identity; part = (record_of h.store a).part } in
    let k' : Kept (length snapshot.roots) (view snapshot) (view present) n = subst (λ z. Kept z (view snapshot) (view present) n) c.snapshot_row (subst (λ z. Kept (length h.roots) (view snapshot) (view present) z) (name_behind h a) k) in
    let grows = subst (λ z. Grows z (view snapshot) (view present)) c.snapshot_row c.parts.base.grows in
    let some : n.identity ≢ 0 = λ z.
    let null_name : (seen h).name (a + 1) ≡ null = name_behind h a ∙ kept_zero snapshot present n k' z in
    let at : a + 1 ≡ 0 = e ∙ ap c.parts.at null_name ∙ c.parts.base.null_at in omega arith in
    kept_identity snapshot present n grows some k'

-- what is kept is allocated
pub kept_allocated : (h : HeapState) (present snapshot : Graph) (c : Consistent h present snapshot) (id : ℕ) → IsKept present snapshot id → IsAllocated h present id
kept_allocated h present snapshot c id k part l =
    let n : Name = record { identity = id; part = part } in
    let b = c.parts.base in
    let grows = subst (λ z. Grows z (view snapshot) (view present)) c.snapshot_row b.grows in
    let kept : Kept (length h.roots) (view snapshot) (view present) n = subst (λ z. Kept z (view snapshot) (view present) n) (sym c.snapshot_row) (identity_kept snapshot present id part grows k l) in
    let main : IsMain (seen h) (c.parts.at n) n = record { allocated = b.allocated n kept; forward = b.main n kept; name = b.name n kept } in
    let some : c.parts.at n ≢ 0 = λ z.
    let e : null ≡ n = sym b.null_name ∙ ap (seen h).name (sym z) ∙ b.name n kept in
    let zero : id ≡ 0 = sym (ap (λ (y : Name). y.identity) e) in not_zero k zero in
    let is : c.parts.at n - 1 + 1 ≡ c.parts.at n = omega arith in
    (c.parts.at n - 1, main_copy h (c.parts.at n - 1) n (subst (λ z. IsMain (seen h) z n) (sym is) main))
  where
    not_zero : IsKept present snapshot id → id ≡ 0 → ⊥
    not_zero (inl r) e = let p : 0 < id = unfold Reaches in r.0 in omega arith
    not_zero (inr f) e = let p = f.0 in omega arith

names_main : (h : HeapState) (x : ℕ) → (seen h).allocated x ≡ true → (seen h).forward x ≡ x → NamesMain h.store x
names_main h x l f = by_null (x == 0) refl l f
  where
    by_null : (t : Bool) → (x == 0) ≡ t → (if t then true else is_allocated h.store (x - 1)) ≡ true → (if t then 0 else (record_of h.store (x - 1)).forward + 1) ≡ x → NamesMain h.store x
    by_null true e l f = inl (grind arith)
    by_null false e l f = inr (l, omega arith)

-- the sweep's end
pub swept : (h : HeapState) (present snapshot : Graph) (page block : ℕ) → Consistent h present snapshot → h.phase ≡ phases.Sweeping page block → length h.store.pages ≤ page → IsSwept h present snapshot
swept h present snapshot page block c e l =
    let w : Sweeping (seen h) (view present) (view snapshot) c.parts.at (reference_of h.store.pages page block) = stage_at (collector_of h) (view present) (view snapshot) c.parts (In_sweep (reference_of h.store.pages page block)) (ap (progress_of h.store.pages) e) in
    let b = c.parts.base in
    let allocated : (a : ℕ) → is_allocated h.store a ≡ true → (seen h).allocated (a + 1) ≡ true = λ a q. behind true (λ z. is_allocated h.store z) a ∙ q in
    let marked : (a : ℕ) → is_allocated h.store a ≡ true → (seen h).marked (a + 1) ≡ true = λ a q. w.looked_at (a + 1) (allocated a q) (all_before h page block (a + 1) l (allocated a q)) in
    let kept : (a : ℕ) → is_allocated h.store a ≡ true → Kept (length h.roots) (view snapshot) (view present) ((seen h).name (a + 1)) = λ a q. w.marked_kept (a + 1) (allocated a q) (marked a q) in
    let here : (a : ℕ) → is_allocated h.store a ≡ true → a + 1 ≡ c.parts.at ((seen h).name (a + 1)) = λ a q. w.marked_main (a + 1) (allocated a q) (marked a q) in
    record {
      main = λ a q.
          let f : (seen h).forward (a + 1) ≡ a + 1 = ap (seen h).forward (here a q) ∙ b.main ((seen h).name (a + 1)) (kept a q) ∙ sym (here a q) in
          let g : (record_of h.store a).forward + 1 ≡ a + 1 = sym (behind 0 (λ z. (record_of h.store z).forward + 1) a) ∙ f in omega arith;
      kept = λ a q. (allocated_kept h present snapshot c a (kept a q) (here a q)).0;
      part = λ a q. (allocated_kept h present snapshot c a (kept a q) (here a q)).1;
      one = λ a d q r i p.
          let same : (seen h).name (a + 1) ≡ (seen h).name (d + 1) = name_behind h a ∙ (λ t. record { identity = i t; part = p t }) ∙ sym (name_behind h d) in
          let z : a + 1 ≡ d + 1 = here a q ∙ ap c.parts.at same ∙ sym (here d r) in omega arith;
      each = λ id k. kept_allocated h present snapshot c id k;
      cells = λ a i q r.
          let n = (seen h).name (a + 1) in
          let x = get_or (record_of h.store a).cells i 0 in
          let width : (seen h).width (a + 1) ≡ (view present).width n = ap (seen h).width (here a q) ∙ b.width n (kept a q) in
          let r' : i < (view present).width n = subst (λ z. i < z) (sym (behind 0 (λ z. width_at (record_of h.store z)) a) ∙ width) r in
          let cell : x ≡ c.parts.at ((view present).target n i) = sym (behind 0 (λ z. get_or (record_of h.store z).cells i 0) a) ∙ ap (λ z. (seen h).cell z i) (here a q) ∙ w.cell n i (kept a q) r' in
          let target = b.grows.kept_target n i (kept a q) r' in
          names_main h x (ap (seen h).allocated cell ∙ b.allocated _ target) (ap (seen h).forward cell ∙ b.main _ target ∙ sym cell);
      roots = λ j q.
          let x = get_or h.roots j 0 in
          let root : x ≡ c.parts.at ((view present).root j) = w.root j q in
          let target = b.grows.kept_root j q in
          names_main h x (ap (seen h).allocated root ∙ b.allocated _ target) (ap (seen h).forward root ∙ b.main _ target ∙ sym root);
    }

-- in idle and moving what is allocated is what is kept
resting_kept : (h : HeapState) (present snapshot : Graph) (c : Consistent h present snapshot) → Resting (seen h) (view present) (view snapshot) c.parts.at → (id : ℕ) → 0 < id → IsAllocated h present id ↔ IsKept present snapshot id
resting_kept h present snapshot c r id some = (
  (λ allocated.
      let q = allocated 0 (count_some _) in
      let m = copy_main h q.0 (name_of id) q.1 in
      let k : Kept (length h.roots) (view snapshot) (view present) (name_of id) = subst (λ z. Kept (length h.roots) (view snapshot) (view present) z) m.name (r.kept (q.0 + 1) m.allocated) in
      let k' : Kept (length snapshot.roots) (view snapshot) (view present) (name_of id) = subst (λ z. Kept z (view snapshot) (view present) (name_of id)) c.snapshot_row k in
      let grows = subst (λ z. Grows z (view snapshot) (view present)) c.snapshot_row c.parts.base.grows in
      (kept_identity snapshot present (name_of id) grows (let s : id ≢ 0 = omega arith in s) k').0),
  (λ k. kept_allocated h present snapshot c id k),
)

pub allocated_is_kept : (h : HeapState) (present snapshot : Graph) → Consistent h present snapshot → (h.phase ≡ phases.Idle) ⊎ ((m : Place) × (h.phase ≡ phases.Moving m)) → (id : ℕ) → 0 < id → IsAllocated h present id ↔ IsKept present snapshot id
allocated_is_kept h present snapshot c p id some = elim p [
  | inl e ↦ resting_kept h present snapshot c (stage_at (collector_of h) (view present) (view snapshot) c.parts In_idle (ap (progress_of h.store.pages) e)) id some
  | inr m ↦ resting_kept h present snapshot c (stage_at (collector_of h) (view present) (view snapshot) c.parts In_moves (ap (progress_of h.store.pages) m.1)).0 id some
]
