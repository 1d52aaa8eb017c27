-- A cycle that begins, and a turn of actions.
use Rattle.std.proofs.Common.{◌≡◌, ℕ, ◌+◌, ◌-◌, ◌<◌, ◌≤◌, ◌^◌, ◌⊎◌, inl, inr, Bool, true, false, length, refl, ap, ◌∙◌, subst, sym, arith}
use Rattle.graph_heap.specs.Graph.{Graph}
use Rattle.heap_model.specs.declared.phase.Phase.TheVariants as phases
use Rattle.heap_model.specs.State.{HeapState}
use Rattle.heap_model.specs.Agreement.{Agrees}
use Rattle.heap_model.specs.Action.{Action, Relinks, Chain, Nothing_done, Then, begun}
use Rattle.heap_model.specs.Pages.{ArePages}
use Rattle.heap_model.specs.Store.{Store}
use Rattle.heap_model.specs.Written.{records}
use Rattle.heap_model.specs.QuantumSpending.{QuantumSpends}
use Rattle.heap_model.proofs.Agreements.Implied.{consistent_agrees}
use Rattle.heap_model.proofs.Alike.Sameness.{told, agrees_alike}
use Rattle.heap_model.proofs.Bound.{same_limit}
use Rattle.heap_model.proofs.QuantumSpending.Costs.{turn_left, some_cost}
use Rattle.heap_model.proofs.Grey.Relinked.{relinked_count, represents_relinked}
use Rattle.heap_model.proofs.Represents.{represents_chain, represents_begun}
use Rattle.heap_model.proofs.QuantumSpending.Quanta.{chain_units}
use Rattle.nodes.specs.Acting.{Acts, ActsIn}
use Rattle.nodes.proofs.Chains.{then_chain, heap_after_chain}
use Rattle.nodes.proofs.Keeping.{relinked_twice}
use Rattle.nodes.specs.declared.heap_fields.HeapFields.{HeapFields}
use Rattle.nodes.specs.Grey.{grey_in, AreLinked}
use Rattle.nodes.specs.HeapFields.{state_of, IsHeap, AreHeapFields}
use Rattle.machine.proofs.Doing.{present_agrees}

-- a cycle begins
pub begun_heap : (h : HeapState) → IsHeap h → h.phase ≡ phases.Idle → IsHeap (begun h)
begun_heap h w e = record { present = w.present; snapshot = w.present; represents = represents_begun h w.present w.snapshot w.represents e; fits = w.fits; small = w.small }

pub begun_agrees : (h : HeapState) (w : IsHeap h) → h.phase ≡ phases.Idle → (g : Graph) → Agrees h g → Agrees (begun h) g
begun_agrees h w e g a =
    agrees_alike (begun h) w.present g (consistent_agrees (begun h) w.present w.present (represents_begun h w.present w.snapshot w.represents e).consistent) (told h w.present g (present_agrees h w) a)

-- after actions the heap agrees with the same graph heaps
pub chain_agrees : (h after : HeapState) → IsHeap h → (units : ℕ) → Chain h units after → (g : Graph) → Agrees h g → Agrees after g
chain_agrees h after w units chain g a =
    agrees_alike after w.present g (consistent_agrees after w.present w.snapshot (represents_chain h after units w.present w.snapshot w.represents chain).consistent) (told h w.present g (present_agrees h w) a)

-- the actions were done within a budget, and their cost is the rise of the units
pub record HasSpent (a b : HeapFields) (budget : ℕ) : Type 0 where
  pub more : a.units ≤ b.units
  pub within : b.units ≤ a.units + budget
  pub chain : Chain (state_of a) (b.units - a.units) (state_of b)
  pub heap : AreHeapFields b
  pub buffers : b.grey.buffers ≡ a.grey.buffers

pub spent_nothing : (a : HeapFields) (budget : ℕ) → AreHeapFields a → HasSpent a a budget
spent_nothing a budget w = record {
  more = omega arith;
  within = omega arith;
  chain = subst (λ n. Chain (state_of a) n (state_of a)) (let e : 0 ≡ a.units - a.units = omega arith in e) Nothing_done;
  heap = w;
  buffers = refl;
}

module _ (a b d : HeapFields) (budget : ℕ) (s : HasSpent a b budget) where
  -- and a step does further ones
  pub spends_on : Acts b (a.units + budget - b.units) d → d.grey.buffers ≡ b.grey.buffers → AreLinked d.nodes d.grey → HasSpent a d budget × (b.units < d.units)
  spends_on acts same linked =
      let cost = acts.0 in
      let some = acts.2 in
      let room = acts.3 in
      let more = s.more in
      let whole = then_chain (state_of a) (state_of b) (state_of d) (b.units - a.units) cost s.chain acts.1 in
      let units : d.units ≡ b.units + cost = chain_units (state_of b) (state_of d) cost acts.1 in (
        record {
          more = omega (arith, units, more);
          within = omega (arith, units, some, room);
          chain = subst (λ n. Chain (state_of a) n (state_of d)) (let e : b.units - a.units + cost ≡ d.units - a.units = omega (arith, units, more) in e) whole;
          heap = heap_after_chain b d s.heap cost acts.1 (ap length same) linked;
          buffers = same ∙ s.buffers;
        },
        omega (arith, units, some),
      )

  -- a turn ends if nothing is left of its budget, or if the next action doesn't fit in the rest
  pub spent_all : a.units + budget ≤ b.units → QuantumSpends (state_of a) budget (state_of b) (b.units - a.units)
  spent_all all = record {
    chain = s.chain;
    within = (let within = s.within in omega (arith, within));
    ends = elim (some_cost (state_of b) s.heap.heap.represents.pages) [ inl e ↦ inl e | inr n ↦ inr (n.0, n.1, (let some = n.2 in omega (arith, some, all))) ];
  }

  pub spent_most : ActsIn b (a.units + budget - b.units) d false → QuantumSpends (state_of a) budget (state_of b) (b.units - a.units)
  spent_most none = record {
    chain = s.chain;
    within = (let within = s.within in omega (arith, within));
    ends = elim none.1 [ inl e ↦ inl e | inr n ↦ inr (n.0, n.1, (let dear = n.2 in let more = s.more in let within = s.within in omega (arith, dear, more, within))) ];
  }

-- a heap whose blocks are threaded anew stays one
pub relinked_heap : (h : HeapState) (s : Store) → IsHeap h → Relinks h.store s → IsHeap (record h { store = s })
relinked_heap h s w l = record {
  present = w.present;
  snapshot = w.snapshot;
  represents = represents_relinked h s l w.present w.snapshot w.represents;
  fits = w.fits;
  small = subst (λ n. n < 2 ^ 41) (sym (same_limit h (record h { store = s }) refl (relinked_count h s l) refl)) w.small;
}

-- a chain of a heap whose blocks were threaded anew is one of the heap before that, unless nothing was done
chain_relinked : (h : HeapState) (s : Store) (after : HeapState) (u : ℕ) → Relinks h.store s → Chain (record h { store = s }) u after → ((u ≡ 0) × (after ≡ record h { store = s })) ⊎ Chain h u after
chain_relinked h s after u l Nothing_done = inl (refl, refl)
chain_relinked h s after u l (Then v cost j k linked chain links action) = elim (chain_relinked h s j v l chain) [
  | inl z ↦ inr (
      subst (λ n. Chain h (n + cost) after) (sym z.0)
      (Then 0 cost h after linked Nothing_done (relinked_twice h.store s linked l (subst (λ (x : HeapState). Relinks x.store linked) z.1 links)) (subst (λ (x : HeapState). Action (record x { store = linked }) cost after) z.1 action)))
  | inr c ↦ inr (Then v cost j after linked c links action)
]

-- the same holds of a turn, in roots and marking
pub turn_relinked : (h : HeapState) (s : Store) (after : HeapState) (budget spent : ℕ) → Relinks h.store s → records h.phase ≡ true → 256 ≤ budget → ArePages after.store.pages → QuantumSpends (record h { store = s }) budget after spent → QuantumSpends h budget after spent
turn_relinked h s after budget spent l on low pages t = elim (chain_relinked h s after spent l t.chain) [
  | inl z ↦ absurd (elim (turn_left (record h { store = s }) after budget spent pages t) [
    | inl i ↦ (let e : true ≡ false = sym on ∙ ap records (sym (ap (λ (x : HeapState). x.phase) z.1) ∙ i) in cc)
    | inr m ↦ (let n = z.0 in omega (arith, m, n, low))
  ])
  | inr c ↦ record { chain = c; within = t.within; ends = t.ends }
]

-- the buffers went into the list
module _ (a mid : HeapFields) (w : AreHeapFields a) (same : mid ≡ record a { nodes = mid.nodes; grey = mid.grey }) (grey : grey_in mid.nodes mid.grey ≡ grey_in a.nodes a.grey) (links : Relinks a.nodes mid.nodes) where
  flushed_state : state_of mid ≡ record (state_of a) { store = mid.nodes }
  flushed_state = ap state_of same ∙ ap (λ xs. record (state_of a) { store = mid.nodes; grey = xs }) grey

  pub flushed_heap : length mid.grey.buffers ≡ length a.grey.buffers → AreLinked mid.nodes mid.grey → AreHeapFields mid
  flushed_heap count linked = record {
    heap = subst IsHeap (sym flushed_state) (relinked_heap (state_of a) mid.nodes w.heap links);
    buffers = count ∙ w.buffers ∙ ap (λ (x : HeapFields). x.roots.limits.mutators) (sym same);
    linked = linked;
    empty = λ off. grey ∙ w.empty (ap (λ (x : HeapFields). records x.phase) (sym same) ∙ off);
  }

  pub flushed_turn : (records a.phase ≡ false → mid ≡ a) → (after : HeapState) (budget spent : ℕ) → 256 ≤ budget → ArePages after.store.pages → QuantumSpends (state_of mid) budget after spent → QuantumSpends (state_of a) budget after spent
  flushed_turn rests after budget spent low pages t = by_phase (records a.phase) refl
    where
      by_phase : (b : Bool) → records a.phase ≡ b → QuantumSpends (state_of a) budget after spent
      by_phase false off = subst (λ (x : HeapFields). QuantumSpends (state_of x) budget after spent) (rests off) t
      by_phase true on = turn_relinked (state_of a) mid.nodes after budget spent links on low pages (subst (λ h. QuantumSpends h budget after spent) flushed_state t)
