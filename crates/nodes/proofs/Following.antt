-- Where a reference leads.
use Rattle.std.proofs.Common.{◌≡◌, ℕ, ◌+◌, ◌-◌, ◌==◌, Bool, true, false, if◌then◌else◌, refl, ap, ◌∙◌, sym}
use Rattle.heap_model.specs.Store.{Store, record_of}
use Rattle.heap_model.specs.State.{HeapState, seen}
use Rattle.nodes.specs.declared.nodes.Referent.{Referent}
use Rattle.nodes.specs.Referent.{referent_of}

reference_by : (null : Bool) (r : Referent) → (if null then record { identity = 0; reference = 0 } else r).reference ≡ (if null then 0 else r.reference)
reference_by true r = refl
reference_by false r = refl

-- what a reference names is its main copy, as it is seen of whatever heap has this store
pub main_is : (s : Store) (h : HeapState) → h.store ≡ s → (x : ℕ) → (referent_of s x).reference ≡ (seen h).forward x
main_is s h e x =
    reference_by (x == 0) (record { identity = (record_of s (record_of s (x - 1)).forward).identity; reference = (record_of s (x - 1)).forward + 1 })
    ∙ ap (λ t. if x == 0 then 0 else (record_of t (x - 1)).forward + 1) (sym e)
