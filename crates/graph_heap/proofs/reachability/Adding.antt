-- The objects that cells hold are added, one after the other.
use Rattle.std.proofs.Common.{◌≡◌, ℕ, ◌+◌, ◌<◌, inl, inr, List, [], ◌∷◌, ◌++◌, length, length-append, append_assoc, append-nil, ap, ◌∙◌, sym, subst, refl, arith}
use Rattle.std.specs.Prelude.{slice_index}
use Rattle.std.proofs.Math.Seq.{get_or-append_seam}
use Rattle.graph_heap.specs.Reaching.{IsAmong}
use Rattle.graph_heap.specs.declared.reachability.found.Holder.{Holder}
use Rattle.graph_heap.specs.declared.reachability.found.Found.{Found}
use Rattle.graph_heap.specs.Distance.{none_found, found_at}
use Rattle.graph_heap.specs.Search.{Findings, IsAt, Takes, IsOneOf, Adds}
use Rattle.graph_heap.proofs.reachability.Places.{at_left, place_in, below_more}

pub adds_none : (cells : List ℕ) (d : ℕ) (holder : ℕ → Holder) (s : Findings) → Adds cells d holder 0 s s
adds_none cells d holder s = record {
  more = [];
  grows = sym (append-nil s.found);
  same = refl;
  all = λ i l. absurd (omega (arith, l));
  only = λ k l. absurd (omega (arith, l));
}

module _ (cells : List ℕ) (d : ℕ) (holder : ℕ → Holder) (count : ℕ) where
  -- what one of the first cells holds
  abbrev IsNew : ℕ → ℕ → Found → Type 0
  IsNew objects n f = IsAmong objects f.id × IsOneOf cells d holder n f

  wider : (objects : ℕ) (f : Found) → IsNew objects count f → IsNew objects (count + 1) f
  wider objects f w = (w.0, record { cell = w.1.cell; below = omega (arith, w.1.below); id = w.1.id; distance = w.1.distance; holder_is = w.1.holder_is })

  module _ (a b c : Findings) (v : Adds cells d holder count a b) (f : Found) (is : f ≡ record { id = slice_index cells count; distance = d; holder = holder count }) where
    same_id : f.id ≡ slice_index cells count
    same_id = ap (λ (x : Found). x.id) is

    newest : IsAmong a.objects f.id → IsNew a.objects (count + 1) f
    newest among = (among, record { cell = count; below = omega arith; id = same_id; distance = ap (λ (x : Found). x.distance) is; holder_is = ap (λ (x : Found). x.holder) is })

    -- nothing was added
    unchanged : c ≡ b → (IsAmong b.objects f.id → (k : ℕ) × IsAt b.found f.id k) → Adds cells d holder (count + 1) a c
    unchanged e had = record {
      more = v.more;
      grows = ap (λ (s : Findings). s.found) e ∙ v.grows;
      same = ap (λ (s : Findings). s.objects) e ∙ v.same;
      all = λ i l among. subst (λ (s : Findings). (k : ℕ) × IsAt s.found (slice_index cells i) k) (sym e) (elim (below_more i count l) [
        | inl h ↦ v.all i h among
        | inr h ↦ (let same : f.id ≡ slice_index cells i = same_id ∙ ap (slice_index cells) (sym h) in
            subst (λ q. (k : ℕ) × IsAt b.found q k) same (had (subst (λ n. IsAmong n f.id) (sym v.same) (subst (IsAmong a.objects) (sym same) among))))
      ]);
      only = λ k l. wider a.objects (found_at v.more k) (v.only k l);
    }

    -- one was added
    module _ (found : c.found ≡ b.found ++ f ∷ []) (objects : c.objects ≡ b.objects) (among : IsAmong b.objects f.id) where
      long : length c.found ≡ length b.found + 1
      long = ap length found ∙ length-append b.found (f ∷ [])

      old_stands : (q : ℕ) → (k : ℕ) × IsAt b.found q k → (k : ℕ) × IsAt c.found q k
      old_stands q w = let more = long in (w.0, (omega (arith, w.1.0, more), ap (λ xs. (found_at xs w.0).id) found ∙ ap (λ (x : Found). x.id) (at_left b.found (f ∷ []) w.0 w.1.0) ∙ w.1.1))

      new_stands : (k : ℕ) × IsAt c.found f.id k
      new_stands = let more = long in (length b.found, (omega (arith, more), ap (λ xs. (found_at xs (length b.found)).id) found ∙ ap (λ (x : Found). x.id) (get_or-append_seam b.found f [] none_found)))

      seam : (k j : ℕ) → k ≡ length v.more + j → j < 1 → found_at (v.more ++ f ∷ []) k ≡ f
      seam k j e l = ap (found_at (v.more ++ f ∷ [])) (let z : k ≡ length v.more = omega (arith, e, l) in z) ∙ get_or-append_seam v.more f [] none_found

      grown : Adds cells d holder (count + 1) a c
      grown = record {
        more = v.more ++ f ∷ [];
        grows = found ∙ ap (λ xs. xs ++ f ∷ []) v.grows ∙ append_assoc a.found v.more (f ∷ []);
        same = objects ∙ v.same;
        all = λ i l h. elim (below_more i count l) [
          | inl o ↦ old_stands (slice_index cells i) (v.all i o h)
          | inr e ↦ subst (λ q. (k : ℕ) × IsAt c.found q k) (same_id ∙ ap (slice_index cells) (sym e)) new_stands
        ];
        only = λ k l. elim (place_in v.more (f ∷ []) k l) [
          | inl o ↦ subst (IsNew a.objects (count + 1)) (sym (at_left v.more (f ∷ []) k o)) (wider a.objects (found_at v.more k) (v.only k o))
          | inr j ↦ subst (IsNew a.objects (count + 1)) (sym (seam k j.0 j.2 j.1)) (newest (subst (λ n. IsAmong n f.id) v.same among))
        ];
      }

    pub adds_more : Takes f b c → Adds cells d holder (count + 1) a c
    adds_more (inl w) = unchanged w.0 w.1
    adds_more (inr w) = grown (ap (λ (s : Findings). s.found) w.1) (ap (λ (s : Findings). s.objects) w.1) w.0
