-- Entries of an ordered map, by their places.
use Rattle.std.proofs.Common.{◌≡◌, ℕ, zero, suc, true, false, cond, List, [], ◌∷◌, ◌++◌, Some, ap, ◌∙◌, subst, refl}
use Rattle.std.specs.Prelude.{slice_get, slice_set, unwrap_or}
use Rattle.std.specs.List.{AllByRecursion}
use Rattle.std.specs.List.Sorted.{IsStrictlySortedBy}
use Rattle.std.proofs.Common.{Ordering, Less, Greater}
use Rattle.std.specs.Ordering.{is_eq, ordering_reverse, match_ordering}
use Rattle.std.specs.Cmp.{IsTotalOrder}
use Rattle.std.specs.Map.{keys_of, values_of, lookup, set_value}
use Rattle.std.specs.BTreeMap.{is_at, insert_entry}
use Rattle.std.proofs.lemmas.Cmp.{tied_itself}
use Rattle.std.proofs.lemmas.Map.Entries.{lookup_head, lookup_tail}
use Rattle.std.proofs.lemmas.Map.Keys.{sorted_head, sorted_tail}

-- what holds of each of a list, and of one more
pub all_end : {X : Type 0} (P : X → Type 0) (xs : List X) (x : X) → AllByRecursion P xs → P x → AllByRecursion P (xs ++ x ∷ [])
all_end P [] x all h = (h, tt)
all_end P (y ∷ xs) x all h = (all.0, all_end P xs x all.1 h)

pub all_both : {X : Type 0} (P : X → Type 0) (xs ys : List X) → AllByRecursion P xs → AllByRecursion P ys → AllByRecursion P (xs ++ ys)
all_both P [] ys all h = h
all_both P (y ∷ xs) ys all h = (all.0, all_both P xs ys all.1 h)

module _ {K : Type 0} (R : K → K → Ordering) (o : IsTotalOrder R) where
  -- a key that stands behind another isn't that one
  apart : (x k : K) (ks : List K) (j : ℕ) → AllByRecursion (λ y. R x y ≡ Less) ks → slice_get ks j ≡ Some k → is_eq (R k x) ≡ false
  apart x k [] j all h = absurd (cc)
  apart x k (y ∷ ks) zero all h =
      let e : y ≡ k = ap (λ found. unwrap_or found y) h in
      ap is_eq (o.antisymm k x ∙ ap ordering_reverse (subst (λ z. R x z ≡ Less) e all.0))
  apart x k (y ∷ ks) (suc j) all h = apart x k ks j all.1 h

  is_first : {X : Type 0} (k : K) (e : K × X) → Some e.0 ≡ Some k → is_eq (R k e.0) ≡ true
  is_first k e h = let same : e.0 ≡ k = ap (λ found. unwrap_or found k) h in ap is_eq (ap (R k) same ∙ tied_itself o k)

  -- the value of the key at a place
  pub lookup_place : {X : Type 0} (es : List (K × X)) (i : ℕ) (k : K) → IsStrictlySortedBy R (keys_of es) → slice_get (keys_of es) i ≡ Some k
      → lookup (is_at (R k)) es ≡ slice_get (values_of es) i
  lookup_place [] i k s h = absurd (cc)
  lookup_place (e ∷ es) zero k s h = lookup_head (is_at (R k)) e es (is_first k e h)
  lookup_place (e ∷ es) (suc j) k s h =
      lookup_tail (is_at (R k)) e es (apart e.0 k (keys_of es) j (sorted_head R e.0 (keys_of es) s) h) ∙ lookup_place es j k (sorted_tail R e.0 (keys_of es) s) h

  -- Another value is stored at the key.
  pub set_place : {X : Type 0} (es : List (K × X)) (i : ℕ) (k : K) (w : X) → IsStrictlySortedBy R (keys_of es) → slice_get (keys_of es) i ≡ Some k
      → values_of (set_value (is_at (R k)) es w) ≡ slice_set (values_of es) i w
  set_place [] i k w s h = absurd (cc)
  set_place (e ∷ es) zero k w s h = ap (λ b. values_of (cond b ((e.0, w) ∷ es) (e ∷ set_value (is_at (R k)) es w))) (is_first k e h)
  set_place (e ∷ es) (suc j) k w s h =
      ap (λ b. values_of (cond b ((e.0, w) ∷ es) (e ∷ set_value (is_at (R k)) es w))) (apart e.0 k (keys_of es) j (sorted_head R e.0 (keys_of es) s) h)
      ∙ ap (λ vs. e.1 ∷ vs) (set_place es j k w (sorted_tail R e.0 (keys_of es) s) h)

  -- a key above all goes to the end
  pub insert_end : {X : Type 0} (es : List (K × X)) (k : K) (v : X) → AllByRecursion (λ q. R k q ≡ Greater) (keys_of es) → insert_entry R es k v ≡ es ++ (k, v) ∷ []
  insert_end [] k v all = refl
  insert_end (e ∷ es) k v all =
      ap (λ r. match_ordering r ((k, v) ∷ e ∷ es) ((e.0, v) ∷ es) (e ∷ insert_entry R es k v)) all.0 ∙ ap (λ rest. e ∷ rest) (insert_end es k v all.1)

  -- and stands in order there
  pub sorted_end : (ks : List K) (k : K) → IsStrictlySortedBy R ks → AllByRecursion (λ q. R k q ≡ Greater) ks → IsStrictlySortedBy R (ks ++ k ∷ [])
  unfolding IsStrictlySortedBy
  sorted_end [] k s all = (tt, tt)
  sorted_end (x ∷ xs) k s all = (all_end (λ y. R x y ≡ Less) xs k s.0 (o.antisymm x k ∙ ap ordering_reverse all.0), sorted_end xs k s.1 all.1)
