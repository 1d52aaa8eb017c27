-- The invariant of the fields between two actions.
use Rattle.std.proofs.Common.{◌≡◌, ◌≢◌, ℕ, ◌+◌, ◌-◌, ◌<◌, ◌^◌, ◌==◌, if◌then◌else◌, Bool, true, false, [], length, get_or, refl, ap, ◌∙◌, sym, subst, arith}
use Rattle.heap_model.specs.Action.{Relinks}
use Rattle.heap_model.specs.Store.{Store, is_allocated, record_of}
use Rattle.heap_model.specs.State.{HeapState, seen}
use Rattle.heap_model.specs.Collector.{contains, Once}
use Rattle.heap_model.specs.Grey.{AreGrey}
use Rattle.heap_model.specs.Agree.{Reads}
use Rattle.heap_model.specs.Core.{Name}
use Rattle.heap_model.specs.Written.{records}
use Rattle.heap_model.proofs.Agreements.Implied.{consistent_agrees}
use Rattle.heap_model.proofs.Grey.Few.{are_grey as are_grey_now}
use Rattle.heap_model.proofs.Readings.Shown.{leads, root_reads}
use Rattle.nodes.specs.declared.nodes.Referent.{Referent}
use Rattle.nodes.specs.Referent.{CanFollow, referent_of}
use Rattle.heap_model.proofs.Represents.{represents_limit}
use Rattle.nodes.specs.declared.heap_fields.HeapFields.{HeapFields}
use Rattle.nodes.specs.HeapFields.{state_of, AreHeapFields}

-- units are counted on
pub units_small : (a : HeapFields) → AreHeapFields a → a.units < 2 ^ 41
units_small a w = let l = represents_limit (state_of a) w.heap.present w.heap.snapshot w.heap.represents in let s = w.heap.small in omega arith

-- no block is threaded anew
pub still : {s : Store} → Relinks s s
still {s} = record { blocks = record { allocated = λ b. refl; nodes = λ b e. refl }; pages = refl }

-- the grey parts are allocated in every phase
pub are_grey : (a : HeapFields) → AreHeapFields a → AreGrey (state_of a)
unfolding contains Once
are_grey a w = by_phase (records a.phase) refl
  where
    none : (h : HeapState) → 0 < length h.store.pages → h.grey ≡ [] → AreGrey h
    none h p e = record {
      pages = p;
      some = ap (λ xs. contains xs 0) e;
      allocated = λ x t. absurd (let z : false ≡ true = sym (ap (λ xs. contains xs x) e) ∙ t in cc);
      marked = λ x t. absurd (let z : false ≡ true = sym (ap (λ xs. contains xs x) e) ∙ t in cc);
      once = subst Once (sym e) tt;
      few = (let l : length h.grey ≡ 0 = ap length e in omega arith);
    }

    by_phase : (b : Bool) → records a.phase ≡ b → AreGrey (state_of a)
    by_phase true e = are_grey_now (state_of a) w.heap.present w.heap.snapshot w.heap.represents e
    by_phase false e = none (state_of a) w.heap.represents.some (w.empty e)

-- what reads as a name can be followed
pub follows : (h : HeapState) (x : ℕ) (n : Name) → Reads (seen h) x n → CanFollow h.store x
follows h x n r some = let l = leads h x n r some in (l.allocated, l.main.allocated)

-- and so can a root
pub root_follows : (a : HeapFields) → AreHeapFields a → (root : ℕ) → root < length a.roots.cells → CanFollow a.nodes (get_or a.roots.cells root 0)
root_follows a w root below = follows (state_of a) _ _ (root_reads (state_of a) w.heap.present root (consistent_agrees (state_of a) w.heap.present w.heap.snapshot w.heap.represents.consistent) below)

-- a main copy to which a reference leads is allocated
pub main_allocated : (s : Store) (x : ℕ) (r : Referent) → r ≡ referent_of s x → CanFollow s x → r.reference ≢ 0 → is_allocated s (r.reference - 1) ≡ true
main_allocated s x r is leads = subst (λ (q : Referent). q.reference ≢ 0 → is_allocated s (q.reference - 1) ≡ true) (sym is) (by_null (x == 0) refl)
  where
    main : Referent
    main = record { identity = (record_of s (record_of s (x - 1)).forward).identity; reference = (record_of s (x - 1)).forward + 1 }

    by_null : (t : Bool) → (x == 0) ≡ t → (if t then record { identity = 0; reference = 0 } else main).reference ≢ 0 → is_allocated s ((if t then record { identity = 0; reference = 0 } else main).reference - 1) ≡ true
    by_null true e ne = absurd (ne refl)
    by_null false e ne = let some : x ≢ 0 = grind arith in subst (λ k. is_allocated s k ≡ true) (omega arith) (leads some).1
