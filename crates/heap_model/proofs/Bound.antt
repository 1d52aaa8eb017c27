-- How many quanta a cycle takes at most.
use Rattle.std.proofs.Common.{◌≡◌, ℕ, zero, suc, ◌+◌, ◌-◌, ◌*◌, ◌/◌, ◌<◌, ◌≤◌, ◌⊎◌, inl, inr, length, refl, ap, sym, ◌∙◌, subst, arith}
use Rattle.std.proofs.Math.Nat.{lt-div-mul-add}
use Rattle.size_classes.specs.declared.class.TheConstants.{CLASSES}
use Rattle.heap_model.specs.declared.phase.Phase.TheVariants as phases
use Rattle.heap_model.specs.State.{HeapState}
use Rattle.heap_model.specs.Action.{Chain, Nothing_done, Then}
use Rattle.heap_model.specs.Spent.{cycle_limit}
use Rattle.heap_model.specs.Settings.{HeapSettings}
use Rattle.heap_model.specs.Bound.{Quantum, AreQuanta, most_quanta, OneEnds}
use Rattle.heap_model.proofs.Settings.{action_rest}
use Rattle.heap_model.proofs.Marks.{action_count}
use Rattle.heap_model.proofs.QuantumSpending.Quanta.{chain_units}
use Rattle.heap_model.proofs.QuantumSpending.Costs.{turn_left}
use Rattle.heap_model.proofs.Grey.Relinked.{relinked_count}
use Rattle.heap_model.proofs.Represents.{represents_chain, represents_limit}

pub same_limit : (h after : HeapState) → length after.roots ≡ length h.roots → length after.store.pages ≡ length h.store.pages → after.defrag_pages ≡ h.defrag_pages → cycle_limit after ≡ cycle_limit h
same_limit h after r p d =
    let e : (after.defrag_pages + CLASSES) * length after.store.pages ≡ (h.defrag_pages + CLASSES) * length h.store.pages = ap (λ z. (z + CLASSES) * length after.store.pages) d ∙ ap (λ z. (h.defrag_pages + CLASSES) * z) p in
    omega arith

-- what a cycle may spend stays through actions
pub chain_limit : (h after : HeapState) (spent : ℕ) → Chain h spent after → cycle_limit after ≡ cycle_limit h
chain_limit h after spent Nothing_done = refl
chain_limit h after spent (Then u cost j k linked chain links action) =
    let i : HeapState = record j { store = linked } in
    let d = action_rest i k cost action in
    same_limit i k d.2 (action_count i k cost action) (ap (λ (s : HeapSettings). s.defrag_pages) d.0) ∙ same_limit j i refl (relinked_count j linked links) refl ∙ chain_limit h j u chain

-- Quanta that each spend at least d units spend n * d together.
pub spent_more : (n d before after spent : ℕ) → n * d ≤ before → after ≡ before + spent → d ≤ spent → (n + 1) * d ≤ after
spent_more n d before after spent l e m = let s : (n + 1) * d ≡ n * d + d = grind arith in omega arith

pub too_much : (limit d units : ℕ) → 0 < d → (limit / d + 1) * d ≤ units → units ≤ limit → ⊥
too_much limit d units some l m =
    let s : (limit / d + 1) * d ≡ limit / d * d + d = grind arith in
    let r : limit < limit / d * d + d = lt-div-mul-add some in
    omega arith

pub at_least : (k budget spent : ℕ) → k ≤ budget → budget < spent + 256 → k - 255 ≤ spent
at_least k budget spent l m = omega arith

module _ (h : HeapState) (k count : ℕ) (quanta : ℕ → Quantum) (w : AreQuanta h k count quanta) where
  abbrev before : ℕ → HeapState
  before i = (quanta i).before

  abbrev after : ℕ → HeapState
  after i = (quanta i).after

  abbrev spent : ℕ → ℕ
  spent i = (quanta i).spent

  -- the units before a quantum, and what may be spent
  at_first : ((before 0).units ≡ 0) × (cycle_limit (before 0) ≡ cycle_limit h)
  at_first = (w.first.units, w.first.limit)

  -- A quantum ends in idle, or spends its budget except at most 255 units.
  after_turn : (i : ℕ) → i < count → ((after i).phase ≡ phases.Idle) ⊎ ((k - 255 ≤ spent i) × ((after i).units ≡ (before i).units + spent i))
  after_turn i l =
      let s = (w.each i l).represents in
      let t = (w.each i l).turn in
      let v = represents_chain (before i) (after i) (spent i) s.0 s.1 s.2 t.chain in
      elim (turn_left (before i) (after i) (quanta i).budget (spent i) v.pages t) [
        | inl e ↦ inl e
        | inr m ↦ inr (at_least k (quanta i).budget (spent i) (w.each i l).enough m, chain_units (before i) (after i) (spent i) t.chain)
      ]

  -- what may be spent stays
  limit_stays : (i : ℕ) → i < count → cycle_limit (after i) ≡ cycle_limit h
  limit_stays zero l = chain_limit (before 0) (after 0) (spent 0) (w.each 0 l).turn.chain ∙ at_first.1
  limit_stays (suc i) l =
      let m : i + 1 < count = omega arith in
      let e : suc i ≡ i + 1 = omega arith in
      subst (λ z. cycle_limit (after z) ≡ cycle_limit h) (sym e)
      (chain_limit (before (i + 1)) (after (i + 1)) (spent (i + 1)) (w.each (i + 1) m).turn.chain ∙ (w.next i m).limit ∙ limit_stays i (omega arith))

  -- the units after the first quanta, if none of them ended in idle
  spent_by : (i : ℕ) → i < count → OneEnds (i + 1) quanta ⊎ ((i + 1) * (k - 255) ≤ (after i).units)
  spent_by zero l = elim (after_turn 0 l) [
    | inl e ↦ inl (0, omega arith, e)
    | inr m ↦ inr (spent_more 0 (k - 255) (before 0).units (after 0).units (spent 0) (omega arith) m.1 m.0)
  ]
  spent_by (suc i) l =
      let m : i + 1 < count = omega arith in
      let e : suc i ≡ i + 1 = omega arith in
      subst (λ z. OneEnds (z + 1) quanta ⊎ ((z + 1) * (k - 255) ≤ (after z).units)) (sym e)
      (elim (spent_by i (omega arith)) [
        | inl o ↦ inl (o.0, (let n = o.1 in omega arith), o.2)
        | inr n ↦ elim (after_turn (i + 1) m) [
          | inl f ↦ inl (i + 1, omega arith, f)
          | inr u ↦ inr (spent_more (i + 1) (k - 255) (before (i + 1)).units (after (i + 1)).units (spent (i + 1)) (let b = (w.next i m).units in omega arith) u.1 u.0)
        ]
      ])

pub quanta_end : (h : HeapState) (k : ℕ) (quanta : ℕ → Quantum) → 256 ≤ k → AreQuanta h k (most_quanta h k) quanta → OneEnds (most_quanta h k) quanta
quanta_end h k quanta l w =
    let last = cycle_limit h / (k - 255) in
    let m : last < last + 1 = omega arith in
    let q = quanta last in
    elim (spent_by h k (last + 1) quanta w last m) [
      | inl o ↦ o
      | inr n ↦ absurd (
          let each = w.each last m in
          let s = each.represents in
          let v = represents_chain q.before q.after q.spent s.0 s.1 s.2 each.turn.chain in
          let b = represents_limit q.after s.0 s.1 v in
          let e = limit_stays h k (last + 1) quanta w last m in
          let c : q.after.units ≤ cycle_limit h = subst (λ z. q.after.units ≤ z) e b in
          too_much (cycle_limit h) (k - 255) q.after.units (omega arith) n c)
    ]
