-- Actions one after the other, of the fields of a heap.
use Rattle.std.proofs.Common.{◌≡◌, ℕ, zero, suc, ◌+◌, ◌<◌, ◌≤◌, ◌^◌, false, [], length, ap, ◌∙◌, sym, subst, arith}
use Rattle.heap_model.specs.Action.{Action, Relinks, Chain, Nothing_done, Then, goes_to}
use Rattle.heap_model.specs.declared.phase.Phase.{Phase}
use Rattle.heap_model.specs.Settings.{HeapSettings}
use Rattle.heap_model.specs.State.{HeapState}
use Rattle.heap_model.specs.Store.{Store}
use Rattle.heap_model.specs.Written.{records}
use Rattle.heap_model.proofs.Bound.{chain_limit}
use Rattle.heap_model.proofs.Grey.Few.{rests_empty}
use Rattle.heap_model.proofs.Settings.{chain_settings}
use Rattle.heap_model.proofs.Represents.{represents_chain}
use Rattle.heap_model.proofs.QuantumSpending.Quanta.{action_cost}
use Rattle.nodes.specs.Acting.{Acts}
use Rattle.nodes.specs.declared.heap_fields.HeapFields.{HeapFields}
use Rattle.nodes.specs.Grey.{AreLinked}
use Rattle.nodes.specs.HeapFields.{state_of, AreHeapFields}
use Rattle.nodes.proofs.Representing.{still}

-- one action, after blocks were threaded anew
pub relinked_action : (h after : HeapState) (s : Store) (cost : ℕ) → Relinks h.store s → Action (record h { store = s }) cost after → Chain h cost after
relinked_action h after s cost links action = subst (λ n. Chain h n after) (let e : 0 + cost ≡ cost = omega arith in e) (Then 0 cost h after s Nothing_done links action)

-- One action is a chain.
pub one_action : (h after : HeapState) (cost : ℕ) → Action h cost after → Chain h cost after
one_action h after cost action = relinked_action h after h.store cost still action

-- A chain goes on by one action.
pub then_action : (h j after : HeapState) (u cost : ℕ) → Chain h u j → Action j cost after → Chain h (u + cost) after
then_action h j after u cost chain action = Then u cost j after j.store chain still action

-- A chain follows a chain.
pub then_chain : (h j after : HeapState) (u v : ℕ) → Chain h u j → Chain j v after → Chain h (u + v) after
then_chain h j after u v first Nothing_done = subst (λ n. Chain h n j) (let e : u ≡ u + 0 = omega arith in e) first
then_chain h j after u v first (Then w cost k l linked chain links action) =
    subst (λ n. Chain h n after) (let e : (u + w) + cost ≡ u + (w + cost) = omega arith in e) (Then (u + w) cost k after linked (then_chain h j k u w first chain) links action)

-- outside roots and marking no part is grey
rests_chain : (h after : HeapState) (u : ℕ) → Chain h u after → (records h.phase ≡ false → h.grey ≡ []) → records after.phase ≡ false → after.grey ≡ []
rests_chain h after u Nothing_done none = none
rests_chain h after u (Then v cost j k linked chain links action) none = rests_empty (record j { store = linked }) after cost action (rests_chain h j v chain none)

-- a chain leaves a heap
pub heap_after_chain : (a b : HeapFields) → AreHeapFields a → (units : ℕ) → Chain (state_of a) units (state_of b) → length b.grey.buffers ≡ length a.grey.buffers → AreLinked b.nodes b.grey → AreHeapFields b
heap_after_chain a b w units chain count linked = record {
  heap = record {
    present = w.heap.present;
    snapshot = w.heap.snapshot;
    represents = represents_chain (state_of a) (state_of b) units w.heap.present w.heap.snapshot w.heap.represents chain;
    fits = w.heap.fits;
    small = subst (λ n. n < 2 ^ 41) (sym (chain_limit (state_of a) (state_of b) units chain)) w.heap.small;
  };
  buffers = count ∙ w.buffers ∙ sym (ap (λ (s : HeapSettings). s.limits.mutators) (chain_settings (state_of a) (state_of b) units chain));
  linked = linked;
  empty = rests_chain (state_of a) (state_of b) units chain w.empty;
}

-- One action fits the room.
pub runs_once : (a b : HeapFields) (room cost : ℕ) → AreHeapFields a → Action (state_of a) cost (state_of b) → cost ≤ room → Acts a room b
runs_once a b room cost w action within = (cost, one_action (state_of a) (state_of b) cost action, (action_cost (state_of a) (state_of b) cost w.heap.represents.pages action).0, within)

-- steps of one unit each, which change only the phase
pub steps_on : (h : HeapState) (at : ℕ → Phase) (n : ℕ) → h.phase ≡ at 0 → ((k u : ℕ) → k < n → Action (record h { phase = at k; units = u }) 1 (record h { phase = at (k + 1); units = u + 1 }))
    → Chain h n (goes_to h n (at n))
steps_on h at zero e step =
    subst (λ p. Chain h 0 (record h { phase = p; units = h.units + 0 })) e
    (subst (λ u. Chain h 0 (record h { units = u })) (let z : h.units ≡ h.units + 0 = omega arith in z) Nothing_done)
steps_on h at (suc n) e step =
    let last = step n (h.units + n) (omega arith) in
    let first = steps_on h at n e (λ k u l. step k u (omega arith)) in
    subst (λ m. Chain h m (goes_to h m (at m))) (let z : n + 1 ≡ suc n = omega arith in z)
    (subst (λ u. Chain h (n + 1) (record h { phase = at (n + 1); units = u })) (let z : h.units + n + 1 ≡ h.units + (n + 1) = omega arith in z)
    (then_action h (goes_to h n (at n)) (record h { phase = at (n + 1); units = h.units + n + 1 }) n 1 first last))
