-- Plans, from the object and the cell that were found.
use Rattle.std.proofs.Common.{◌≡◌, ◌≢◌, ℕ, ◌<◌, length, Ok, inl, inr, sym, subst, refl}
use Rattle.graph_heap.specs.declared.command.Command.{Command}
use Rattle.graph_heap.specs.declared.command.Reply.{Reply}
use Rattle.graph_heap.specs.declared.command.Reply.TheVariants as replies
use Rattle.graph_heap.specs.declared.command.Change.{Change}
use Rattle.graph_heap.specs.declared.command.Change.TheVariants as changes
use Rattle.graph_heap.specs.Graph.{Graph}
use Rattle.graph_heap.specs.Effect.{slot_at, static_at, admitted_effect}
use Rattle.heap_model.specs.State.{HeapState}
use Rattle.nodes.specs.declared.nodes.Referent.{Referent}
use Rattle.machine.specs.declared.plan.Planned.{Planned}
use Rattle.arraylets.specs.declared.cells.Cell.{Cell}
use Rattle.machine.specs.declared.plan.Write.{Write}
use Rattle.machine.specs.declared.plan.Write.TheVariants as writes
use Rattle.machine.specs.Reading.{Names, FindsRef, FindsWord}
use Rattle.heap_model.specs.Event.{room_for}
use Rattle.machine.specs.Plan.{IsPlanned, PlansBy, Compares}

-- facts about the fields h, from those about the value t
module _ {h t : HeapState} (is : h ≡ t) where
  pub placed : (m s d : ℕ) → Ok d ≡ slot_at h.limits m s → Ok d ≡ slot_at t.limits m s
  placed m s d e = subst (λ (x : HeapState). Ok d ≡ slot_at x.limits m s) is e

  pub placed_static : (k d : ℕ) → Ok d ≡ static_at h.limits k → Ok d ≡ static_at t.limits k
  placed_static k d e = subst (λ (x : HeapState). Ok d ≡ static_at x.limits k) is e

  pub within : (d : ℕ) → d < length h.roots → d < length t.roots
  within d l = subst (λ (x : HeapState). d < length x.roots) is l

module _ (h : HeapState) (g : Graph) (m : ℕ) (c : Command) where
  -- a reply alone
  pub reply_plans : (reply : Reply) (p : Planned) → p ≡ record { reply = reply; write = writes.Nothing } → admitted_effect (room_for h c) g m c ≡ Ok (reply, changes.Nothing) → PlansBy h g (admitted_effect (room_for h c) g m c) (Ok p)
  reply_plans reply p e effect = subst (λ (q : Planned). PlansBy h g (admitted_effect (room_for h c) g m c) (Ok q)) (sym e) (changes.Nothing, effect, refl)

  -- a write of a root
  pub root_plans : (reply : Reply) (d id : ℕ) (r : Referent) → admitted_effect (room_for h c) g m c ≡ Ok (reply, changes.Root d id) → d < length h.roots → Names h g id r
      → PlansBy h g (admitted_effect (room_for h c) g m c) (Ok (record { reply = reply; write = writes.Root d r.reference }))
  root_plans reply d id r effect below n = (changes.Root d id, effect, (id, refl, below, n.known, n.main))

  -- a write of a reference cell
  pub ref_plans : (reply : Reply) (id i value : ℕ) (at : Cell) (r : Referent) → admitted_effect (room_for h c) g m c ≡ Ok (reply, changes.Ref id i value) → FindsRef h g id i (Ok at) → Names h g value r
      → PlansBy h g (admitted_effect (room_for h c) g m c) (Ok (record { reply = reply; write = writes.Ref at r.reference }))
  ref_plans reply id i value at r effect found n = (changes.Ref id i value, effect, (id, i, value, refl, found.1, n.known, n.main))

  -- a write of a word cell
  pub word_plans : (reply : Reply) (id i word : ℕ) (at : Cell) → admitted_effect (room_for h c) g m c ≡ Ok (reply, changes.Word id i word) → FindsWord h g id i (Ok at) → PlansBy h g (admitted_effect (room_for h c) g m c) (Ok (record { reply = reply; write = writes.Word at word }))
  word_plans reply id i word at effect found = (changes.Word id i word, effect, (id, i, refl, found.1))

  -- a comparison
  pub compared_plans : (referent expected : ℕ) (write : Write) (p : Planned) (change : Change) → Compares referent expected write p → (referent ≢ expected → admitted_effect (room_for h c) g m c ≡ Ok (replies.Kept referent, changes.Nothing))
      → (referent ≡ expected → admitted_effect (room_for h c) g m c ≡ Ok (replies.Stored, change)) → IsPlanned h g change write → PlansBy h g (admitted_effect (room_for h c) g m c) (Ok p)
  compared_plans referent expected write p change (inl kept) keeps stores planned = reply_plans (replies.Kept referent) p kept.1 (keeps kept.0)
  compared_plans referent expected write p change (inr stored) keeps stores planned = subst (λ (q : Planned). PlansBy h g (admitted_effect (room_for h c) g m c) (Ok q)) (sym stored.1) (change, stores stored.0, planned)
