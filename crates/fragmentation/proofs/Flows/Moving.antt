-- Moving takes no more than the words of what was live when the cycle began, and of what was made since.
use Rattle.std.proofs.Common.{◌≡◌, ◌≢◌, ℕ, ◌+◌, ◌-◌, ◌<◌, ◌≤◌, inl, inr, true, false, length, drop, ap, ◌∙◌, sym, subst, arith, refl}
use Rattle.std.proofs.lemmas.Bool.{cases_eq}
use Rattle.graph_heap.specs.Graph.{Graph}
use Rattle.heap_model.specs.Store.{record_of}
use Rattle.heap_model.specs.Core.{Heap, Name, Kept, Resting}
use Rattle.heap_model.specs.Cut.{view}
use Rattle.heap_model.specs.Collector.{contains}
use Rattle.heap_model.specs.State.{HeapState, seen}
use Rattle.heap_model.specs.Phases.{awaits_sweep_end}
use Rattle.heap_model.specs.Units.{gone}
use Rattle.heap_model.specs.Spent.{arena_words, moving_work}
use Rattle.heap_model.specs.Represents.{Represents}
use Rattle.heap_model.proofs.Swept.{allocated_kept}
use Rattle.heap_model.proofs.Store.Apart.{size_behind}
use Rattle.heap_model.proofs.Action.Collecting.{allocated_behind}
use Rattle.space.specs.Demand.{LiveWithin, blocks_of}
use Rattle.space.specs.Placement.{IsTidy, KeepsShapes}
use Rattle.space.proofs.Tally.{resting}
use Rattle.fragmentation.specs.Flow.{words_of}
use Rattle.fragmentation.proofs.Flows.Counted.{AreBlocks, words_counted}
use Rattle.fragmentation.proofs.Flows.Marking.{not_null, name_of, one_before}

-- what was moved is an old copy
record IsGone (h : Heap) (size : ℕ → ℕ) (x : ℕ) : Type 0 where
  allocated : h.allocated x ≡ true
  old : h.forward x ≢ x
  some : 0 < x
  words : gone h size x ≡ size x

is_gone : (h : Heap) (size : ℕ → ℕ) (x : ℕ) → h.forward 0 ≡ 0 → 0 < gone h size x → IsGone h size x
unfolding gone
is_gone h size x null p = record { allocated = grind arith; old = grind arith; some = not_null x old; words = grind arith }
  where
    old : h.forward x ≢ x
    old = grind arith

    not_null : (x : ℕ) → h.forward x ≢ x → 0 < x
    not_null x n = elim (cases_eq x 0) [
      | inl e ↦ absurd (n (ap h.forward e ∙ null ∙ sym e))
      | inr ne ↦ omega (arith, ne)
    ]

module _ (h : HeapState) (present snapshot : Graph) (r : Represents h present snapshot) (off : awaits_sweep_end h.phase ≡ false) (tidy : IsTidy h.store present.objects) (most : ℕ → ℕ) (live : LiveWithin snapshot most) (kept : KeepsShapes snapshot.objects present.objects) where
  abbrev at : Name → ℕ
  at = r.consistent.parts.at

  rests : Resting (seen h) (view present) (view snapshot) at
  rests = resting h present snapshot r.consistent off

  forward_of : (x : ℕ) → 0 < x → (seen h).forward x ≡ (record_of h.store (x - 1)).forward + 1
  forward_of x l = rw (not_null x l) refl

  old_blocks : AreBlocks h.store (length snapshot.objects) live.ids (gone (seen h) (size_behind h))
  old_blocks = record {
    allocated = λ x p. (let a = is_gone (seen h) (size_behind h) x refl p in allocated_behind h x a.some a.allocated);
    few = λ x p. (let a = is_gone (seen h) (size_behind h) x refl p in let w = a.words in omega (arith, w));
    only = λ x p low. of_live x p low;
    one = λ x y p q i n. (
        let a = is_gone (seen h) (size_behind h) x refl p in
        let b = is_gone (seen h) (size_behind h) y refl q in
        let e = tidy.one_old (x - 1) (y - 1) (allocated_behind h x a.some a.allocated) (allocated_behind h y b.some b.allocated) (is_old x a.some a.old) (is_old y b.some b.old) i n in
        let u = a.some in let v = b.some in omega (arith, e, u, v));
  }
    where
      is_old : (x : ℕ) → 0 < x → (seen h).forward x ≢ x → (record_of h.store (x - 1)).forward ≢ x - 1
      is_old x l n e = n (forward_of x l ∙ ap (λ z. z + 1) e ∙ one_before x l)

      -- what an old copy is of is what its main copy is of
      of_live : (x : ℕ) → 0 < gone (seen h) (size_behind h) x → (record_of h.store (x - 1)).identity ≤ length snapshot.objects → contains live.ids (record_of h.store (x - 1)).identity ≡ true
      of_live x p low =
          let a = is_gone (seen h) (size_behind h) x refl p in
          let n : Name = (seen h).name x in
          let k : Kept (length h.roots) (view snapshot) (view present) n = rests.kept x a.allocated in
          let f : ℕ = (record_of h.store (x - 1)).forward in
          let main : f + 1 ≡ at n = sym (forward_of x a.some) ∙ rests.forward x a.allocated in
          let same : (seen h).name (f + 1) ≡ n = ap (seen h).name main ∙ r.consistent.parts.base.name n k in
          let i = allocated_kept h present snapshot r.consistent f (subst (λ z. Kept (length h.roots) (view snapshot) (view present) z) (sym same) k) (main ∙ ap at (sym same)) in
          let back : f + 1 - 1 ≡ f = omega arith in
          let is : (record_of h.store f).identity ≡ (record_of h.store (x - 1)).identity = ap (λ z. (record_of h.store z).identity) (sym back) ∙ ap (λ (z : Name). z.identity) (sym (name_of h (f + 1) (omega arith)) ∙ same ∙ name_of h x a.some) in
          elim i.0 [
            | inl reach ↦ subst (λ z. contains live.ids z ≡ true) is (live.reached (record_of h.store f).identity reach)
            | inr late ↦ absurd (let q = late.0 in omega (arith, q, low, is))
          ]

  pub moving_few : moving_work h ≤ words_of (λ class. most class + blocks_of (drop (length snapshot.objects) present.objects) class)
  unfolding moving_work
  moving_few = words_counted h.store present.objects r.pages tidy snapshot.objects live.ids kept (gone (seen h) (size_behind h)) old_blocks most live.blocks (arena_words h + 1)
