-- The view of one block.
use Rattle.std.proofs.Common.{◌≡◌, ℕ, Bool, true, false, not, ◌==◌, if◌then◌else◌, Option, Some, None, get_or, ap, ◌∙◌, sym, refl}
use Rattle.std.specs.Prelude.{IsSomeAnd, slice_get}
use Rattle.std.proofs.lemmas.Option.{slice_get-get_or}
use Rattle.graph_heap.specs.declared.command.Shape.{Shape}
use Rattle.heap_model.specs.Block.{BlockRecord}
use Rattle.heap_model.specs.Pages.{Page}
use Rattle.heap_model.specs.Store.{Store, record_of, address_of}
use Rattle.nodes.specs.Seen.{seen_in, seen_on}
use Rattle.nodes.proofs.Counting.{not_true, flag_within}

-- by what the code reads
pub seen_by : (a : ℕ) (n : BlockRecord) (identity part forward : ℕ) (shape : Shape) → identity ≡ n.identity → part ≡ n.part → shape ≡ n.shape → forward ≡ n.forward
    → record { identity = identity; part = part; shape = shape; is_old = not (forward == a) } ≡ seen_in a n
seen_by a n identity part forward shape i p s f = cc

module _ (s : Store) (page index : ℕ) where
  pub none_seen : (o : Option Page) → (IsSomeAnd o (λ p. slice_get p.allocated index ≡ Some true) → ⊥) → None ≡ seen_on s page index o
  none_seen None never = refl
  none_seen (Some p) never =
      let free : get_or p.allocated index false ≡ false = not_true (get_or p.allocated index false) (λ h. never (slice_get-get_or p.allocated index false (flag_within p.allocated index h) ∙ ap Some h)) in
      sym (ap (λ (f : Bool). if f then Some (seen_in (address_of p.class page index) (record_of s (address_of p.class page index))) else None) free)
