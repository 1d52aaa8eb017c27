-- The object of an identity, and the identities of the objects that can be reached.
use Rattle.std.proofs.Common.{◌≡◌, ◌≢◌, ℕ, ◌-◌, ◌<◌, ◌≤◌, ◌⊎◌, inl, inr, Bool, true, false, ◌==◌, cond, List, length, map, get_or, ap, ◌∙◌, sym, subst, refl, arith}
use Rattle.std.specs.Prelude.{Ok, Err, slice_get, unwrap_or, Option, Some, None, nat_eq}
use Rattle.std.specs.Bool.{Decides}
use Rattle.std.specs.List.{AllPairs}
use Rattle.std.specs.Set.{is_member}
use Rattle.std.proofs.lemmas.Bool.{eqb-true, eq-eqb}
use Rattle.std.proofs.lemmas.Bool.Decides.{Decides-eqb}
use Rattle.std.proofs.lemmas.List.{length-map, get_or_past, get_or-map}
use Rattle.std.proofs.lemmas.Map.Made.{is_member-Decides, IsDistinct-from_AllPairs}
use Rattle.std.proofs.lemmas.Option.{unwrap_or-slice_get}
use Rattle.graph_heap.specs.declared.command.Refusal.{Refusal}
use Rattle.graph_heap.specs.declared.command.Refusal.TheVariants as refusals
use Rattle.graph_heap.specs.declared.reachability.found.Found.{Found}
use Rattle.graph_heap.specs.Graph.{Object, Graph, object_of, no_object}
use Rattle.graph_heap.specs.Effect.{found, object_at}
use Rattle.graph_heap.specs.Reach.{Reaches}
use Rattle.graph_heap.specs.Reaching.{IsAmong, AreReached}
use Rattle.graph_heap.specs.Distance.{none_found, found_at, AreOnce, FindsAll}
use Rattle.graph_heap.specs.Search.{IsAt}

-- the object of an identity
object_at_place : (objects : List Object) (id : ℕ) → id ≢ 0 → object_of objects id ≡ get_or objects (id - 1) no_object
unfolding object_of
object_at_place objects id some = grind arith

null_object : (objects : List Object) (id : ℕ) → id ≡ 0 → object_of objects id ≡ no_object
unfolding object_of
null_object objects id e = rw e refl

-- an object with a reference cell is there
pub with_cell : (objects : List Object) (id i : ℕ) → i < length (object_of objects id).refs → IsAmong (length objects) id
with_cell objects id i l = elim (zero_or id) [
  | inl z ↦ (let none : length (object_of objects id).refs ≡ 0 = ap (λ (o : Object). length o.refs) (null_object objects id z) in absurd (omega (arith, l, none)))
  | inr s ↦ (elim (le_or id (length objects)) [
    | inl h ↦ (omega (arith, s), h)
    | inr h ↦ (let none : length (object_of objects id).refs ≡ 0 = ap (λ (o : Object). length o.refs) (object_at_place objects id s ∙ get_or_past objects (id - 1) no_object (omega (arith, h))) in
        absurd (omega (arith, l, none)))
  ])
]
  where
    zero_or : (a : ℕ) → (a ≡ 0) ⊎ (a ≢ 0)
    zero_or a = grind arith

    le_or : (a b : ℕ) → (a ≤ b) ⊎ (b < a)
    le_or a b = grind arith

-- an identity is among those of objects that were found exactly if its object stands at a place
module _ (all : List Found) where
  long : length (map (λ (f : Found). f.id) all) ≡ length all
  long = length-map all (λ (f : Found). f.id)

  id_at : (k d : ℕ) → k < length all → get_or (map (λ (f : Found). f.id) all) k d ≡ (found_at all k).id
  id_at k d l = get_or-map (λ (f : Found). f.id) all k none_found d l

  pub stands_by : (id : ℕ) → Decides (is_member nat_eq (map (λ (f : Found). f.id) all) id) ((k : ℕ) × IsAt all id k)
  stands_by id =
      let d = is_member-Decides Decides-eqb (map (λ (f : Found). f.id) all) id in (
        λ h. (let c = d.0 h in let l : c.0 < length all = subst (λ n. c.0 < n) long c.1 in (c.0, (l, sym (id_at c.0 id l) ∙ c.2))),
        λ w. d.1 (w.0, subst (λ n. w.0 < n) (sym long) w.1.0, id_at w.0 id w.1.0 ∙ w.1.1),
      )

  differ : AreOnce all → AllPairs (λ x y. x ≢ y) (map (λ (f : Found). f.id) all)
  differ once i j d below l e =
      let m : j < length all = subst (λ n. j < n) long l in
      let k : i < length all = omega (arith, below, m) in
      absurd (omega (arith, below, once i j k m (sym (id_at i d k) ∙ e ∙ id_at j d m)))

-- the identities of what a search found
module _ (g : Graph) (all : List Found) (v : FindsAll g all) where
  at_reached : (id : ℕ) → (k : ℕ) × IsAt all id k → Reaches g id × (id ≤ length g.objects)
  unfolding Reaches
  at_reached id w =
      let f = v.each w.0 w.1.0 in
      subst (λ q. Reaches g q × (q ≤ length g.objects)) w.1.1 ((f.among.0, (found_at all w.0).distance, f.distance.path), f.among.1)

  pub are_reached : AreReached g (map (λ (f : Found). f.id) all)
  are_reached = record {
    exactly = λ id. (λ h. at_reached id ((stands_by all id).0 h), λ r. (let t = v.all id r.0 r.1 in (stands_by all id).1 (t.0, (t.1, t.2))));
    once = IsDistinct-from_AllPairs Decides-eqb (map (λ (f : Found). f.id) all) (differ all v.once);
  }

-- the object that is found, or none
object_by : (objects : List Object) (id : ℕ) → id ≢ 0 → object_of objects id ≡ unwrap_or (slice_get objects (id - 1)) no_object
object_by objects id some = object_at_place objects id some ∙ sym (unwrap_or-slice_get objects (id - 1) no_object)

object_in : (r : Option Object) (x o : Object) → x ≡ unwrap_or r no_object → found r ≡ Ok o → o ≡ x
object_in None x o e h = absurd (cc)
object_in (Some y) x o e h = let same : y ≡ o = cc in sym same ∙ sym e

object_out : (r : Option Object) (x : Object) (why : Refusal) → x ≡ unwrap_or r no_object → found r ≡ Err why → no_object ≡ x
object_out None x why e h = sym e
object_out (Some y) x why e h = absurd (cc)

pub object_found : (objects : List Object) (id : ℕ) (o : Object) → object_at objects id ≡ Ok o → o ≡ object_of objects id
object_found objects id o e = by_test (id == 0) refl e
  where
    by_test : (b : Bool) → (id == 0) ≡ b → cond b (Err refusals.NullSlot) (found (slice_get objects (id - 1))) ≡ Ok o → o ≡ object_of objects id
    by_test true t h = absurd (cc)
    by_test false t h = object_in (slice_get objects (id - 1)) (object_of objects id) o (object_by objects id (λ z. absurd (let no : false ≡ true = sym t ∙ eq-eqb id 0 z in cc))) h

pub no_object_found : (objects : List Object) (id : ℕ) (why : Refusal) → object_at objects id ≡ Err why → no_object ≡ object_of objects id
no_object_found objects id why e = by_test (id == 0) refl e
  where
    by_test : (b : Bool) → (id == 0) ≡ b → cond b (Err refusals.NullSlot) (found (slice_get objects (id - 1))) ≡ Err why → no_object ≡ object_of objects id
    by_test true t h = sym (null_object objects id (eqb-true id 0 t))
    by_test false t h = object_out (slice_get objects (id - 1)) (object_of objects id) why (object_by objects id (λ z. absurd (let no : false ≡ true = sym t ∙ eq-eqb id 0 z in cc))) h
