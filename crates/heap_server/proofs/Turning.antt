-- The effect of a quantum on the cycle that is running.
use Rattle.std.proofs.Common.{◌≡◌, ◌≢◌, ℕ, ◌+◌, ◌-◌, ◌<◌, ◌≤◌, ◌⊎◌, inl, inr, refl, ap, sym, ◌∙◌, subst, arith}
use Rattle.graph_heap.specs.Graph.{Graph}
use Rattle.heap_model.specs.declared.phase.Phase.{Phase}
use Rattle.heap_model.specs.declared.phase.Phase.TheVariants as phases
use Rattle.heap_model.specs.State.{HeapState}
use Rattle.heap_model.specs.Action.{Chain, Nothing_done, Then}
use Rattle.heap_model.specs.Pages.{ArePages}
use Rattle.heap_model.specs.Represents.{Represents}
use Rattle.heap_model.specs.Event.{Course, present_of, snapshot_of, Collects, IsCourse}
use Rattle.heap_model.proofs.QuantumSpending.Quanta.{action_cost}
use Rattle.heap_model.proofs.Represents.{represents_chain, idle_chain}
use Rattle.machine.specs.declared.collector.Spent.{Spent}
use Rattle.heap_server.specs.Views.{PacerView}
use Rattle.heap_server.specs.Kept.{cycles_on}
use Rattle.heap_server.specs.Paced.{IsPaced}

-- a phase is idle, or a cycle is running
pub idle_or : (p : Phase) → ((p ≡ phases.Idle) × (cycles_on p ≡ 0)) ⊎ ((p ≢ phases.Idle) × (cycles_on p ≡ 1))
idle_or phases.Idle = inl (refl, refl)
idle_or (phases.Roots next) = inr (λ e. cc, refl)
idle_or (phases.Marking part cell) = inr (λ e. cc, refl)
idle_or (phases.Sweeping page block) = inr (λ e. cc, refl)
idle_or (phases.Moving place) = inr (λ e. cc, refl)

-- without units spent nothing was done
nothing_done : (h after : HeapState) (spent : ℕ) (present snapshot : Graph) → Represents h present snapshot → Chain h spent after → spent ≡ 0 → after ≡ h
nothing_done h after spent p s w Nothing_done e = refl
nothing_done h after spent p s w (Then u cost j k linked chain links action) e =
    let c : 0 < cost = (action_cost (record j { store = linked }) k cost (subst ArePages (sym links.pages) (represents_chain h j u p s w chain).pages) action).0 in absurd (omega arith)

-- what a quantum spends, and where it leaves the cycle
module _ (r new : Course) (budget units : ℕ) (phase : Phase) (w : IsCourse r) (c : Collects r budget units phase new) where
  quantum_rests : r.heap.phase ≡ phases.Idle → (units ≡ 0) × (phase ≡ phases.Idle)
  quantum_rests idle =
      let n = idle_chain r.heap new.heap units c.turn.chain idle in
      (n.1, sym c.ends ∙ (ap (λ (h : HeapState). h.phase) n.0 ∙ idle))

  quantum_spends : (phase ≡ phases.Idle) ⊎ (budget < units + 256) → r.heap.phase ≢ phases.Idle → 0 < units
  quantum_spends left busy = elim left [
    | inl i ↦ (
        let some : units ≢ 0 = λ none. busy (sym (ap (λ (h : HeapState). h.phase) (nothing_done r.heap new.heap units (present_of r) (snapshot_of r) w.represents c.turn.chain none)) ∙ (c.ends ∙ i)) in omega arith)
    | inr l ↦ (let low = c.allowed.0 in omega arith)
  ]

  -- no cycle begins
  pub cycles_fall : cycles_on phase ≤ cycles_on r.heap.phase
  cycles_fall = elim (idle_or r.heap.phase) [
    | inl i ↦ (let e = ap cycles_on (quantum_rests i.0).1 in omega arith)
    | inr b ↦ elim (idle_or phase) [ inl i ↦ (let p = b.1 in let q = i.1 in omega arith) | inr d ↦ (let p = b.1 in let q = d.1 in omega arith) ]
  ]

pub quantum_paced : (r new : Course) (budget : ℕ) (s : Spent) (p q : PacerView) → IsCourse r → Collects r budget s.units s.phase new → (s.phase ≡ phases.Idle) ⊎ (budget < s.units + 256) → p.ended + cycles_on r.heap.phase ≡ p.begun
    → q.begun ≡ p.begun → q.quanta ≡ p.quanta + 1 → q.spent ≡ p.spent + s.units → q.ended ≡ p.ended + (cycles_on r.heap.phase - cycles_on s.phase) → IsPaced p budget s q
quantum_paced r new budget s p q w c left on begun quanta spent ended = record {
  begun = begun;
  quanta = quanta;
  spent = spent;
  rests = λ all. elim (idle_or r.heap.phase) [
    | inl i ↦ (let n = quantum_rests r new budget s.units s.phase w c i.0 in let e = i.1 in (n.0, n.1, omega arith))
    | inr b ↦ absurd (let e = b.1 in omega arith)
  ];
  runs = λ more. elim (idle_or r.heap.phase) [
    | inl i ↦ absurd (more (let e = i.1 in omega arith))
    | inr b ↦ (
      quantum_spends r new budget s.units s.phase w c left b.0,
      c.turn.within,
      elim (idle_or s.phase) [
        | inl i ↦ inl (i.0, (let e = b.1 in let f = i.1 in omega arith))
        | inr d ↦ inr (d.0, (let e = b.1 in let f = d.1 in omega arith), elim left [ inl i ↦ absurd (d.0 i) | inr l ↦ l ])
      ],
    )
  ];
}
