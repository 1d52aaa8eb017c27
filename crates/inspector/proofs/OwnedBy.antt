-- Paths from one root, and what the roots that own objects must be.
use Rattle.std.proofs.Common.{◌≡◌, ℕ, zero, suc, ◌<◌, ◌≤◌, inl, inr, List, length, map, get_or, ◌∙◌, sym, subst, refl, arith}
use Rattle.std.specs.Prelude.{slice_index}
use Rattle.std.proofs.lemmas.Grind.{same_number_lists}
use Rattle.std.proofs.lemmas.List.{length-map, get_or-map}
use Rattle.std.proofs.lemmas.List.Elements.{All-from_get_or}
use Rattle.graph_heap.specs.Graph.{Graph, object_of}
use Rattle.graph_heap.specs.Reach.{Path, Reaches}
use Rattle.graph_heap.specs.Reaching.{AreReached}
use Rattle.graph_heap.proofs.Reaching.{with_cell, are_reached}
use Rattle.graph_heap.specs.declared.reachability.found.Found.{Found}
use Rattle.graph_heap.specs.Distance.{none_found, found_at, FindsAll}
use Rattle.inspector.specs.declared.by_root.owning.Owned.{Owned}
use Rattle.inspector.specs.Nearest.{PathFrom, IsOwnedBy, AreOwned}
use Rattle.inspector.specs.Owning.{none_owned, owned_at, MayOwn, MayBeOwned, IsHanded}

-- a path from one root is a path
pub path_of : (g : Graph) (root k id : ℕ) → PathFrom g root k id → Path g k id
path_of g root zero id p = (root, p.0, p.1)
path_of g root (suc k) id p = (p.0, p.1, path_of g root k p.0 p.2, p.3, p.4)

-- a path is one from some root
pub from_some : (g : Graph) (k id : ℕ) → Path g k id → (root : ℕ) × PathFrom g root k id
from_some g zero id p = (p.0, (p.1, p.2))
from_some g (suc k) id p = let r = from_some g k p.0 p.2 in (r.0, (p.0, p.1, r.1, p.3, p.4))

-- the root is there
pub root_there : (g : Graph) (root k id : ℕ) → PathFrom g root k id → root < length g.roots
root_there g root zero id p = p.0
root_there g root (suc k) id p = root_there g root k p.0 p.2

reaches_by : (g : Graph) (id k : ℕ) → 0 < id → Path g k id → Reaches g id
unfolding Reaches
reaches_by g id k some p = (some, k, p)

module _ (g : Graph) (found : List Found) (v : FindsAll g found) where
  -- an object to which a farther object's path may go on is one cell nearer
  pub one_farther : (k j i : ℕ) → k < length found → j < length found → i < length (object_of g.objects (found_at found k).id).refs
      → (found_at found j).id ≡ slice_index (object_of g.objects (found_at found k).id).refs i → (found_at found k).distance < (found_at found j).distance
      → suc (found_at found k).distance ≡ (found_at found j).distance
  one_farther k j i lk lj li e far =
      let near : (found_at found j).distance ≤ suc (found_at found k).distance
      = (v.each j lj).distance.least (suc (found_at found k).distance) ((found_at found k).id, i, (v.each k lk).distance.path, li, sym e) in
      omega (arith, near, far)

  -- an object that a root refers to is nearest
  pub at_root : (r j : ℕ) → r < length g.roots → j < length found → (found_at found j).id ≡ slice_index g.roots r → PathFrom g r (found_at found j).distance (found_at found j).id
  at_root r j lr lj e =
      let near : (found_at found j).distance ≤ 0 = (v.each j lj).distance.least 0 (r, lr, sym e) in
      subst (λ d. PathFrom g r d (found_at found j).id) (let z : 0 ≡ (found_at found j).distance = omega (arith, near) in z) (lr, sym e)

  -- the root of an object may own those that its cells refer to, if they are farther
  pub goes_on : (k j i root : ℕ) → k < length found → j < length found → i < length (object_of g.objects (found_at found k).id).refs
      → (found_at found j).id ≡ slice_index (object_of g.objects (found_at found k).id).refs i → (found_at found k).distance < (found_at found j).distance
      → MayOwn g (found_at found k) root → MayOwn g (found_at found j) root
  goes_on k j i root lk lj li e far (inl none) = inl none
  goes_on k j i root lk lj li e far (inr p) =
      inr (subst (λ d. PathFrom g root d (found_at found j).id) (one_farther k j i lk lj li e far) ((found_at found k).id, i, p, li, sym e))

  -- all roots were handed on
  module _ (owned : List Owned) (w : IsHanded g found (length found) owned) where
    may : MayBeOwned g found owned
    may = w.given.may

    -- no shortest path begins at a root before that of an object
    before : (d k r : ℕ) → k < length found → d ≡ (found_at found k).distance → PathFrom g r d (found_at found k).id → (owned_at owned k).root ≤ r
    before zero k r lk e p = w.given.given r k p.0 lk (sym p.1)
    before (suc d) k r lk e p =
        let there = with_cell g.objects p.0 p.1 p.3 in
        let path : Path g d p.0 = path_of g r d p.0 p.2 in
        let t = v.all p.0 (reaches_by g p.0 d there.0 path) there.1 in
        let q = t.0 in
        let nearer : (found_at found q).distance ≤ d = (v.each q t.1).distance.least d (subst (Path g d) (sym t.2) path) in
        let cell : p.1 < length (object_of g.objects (found_at found q).id).refs = subst (λ n. p.1 < length (object_of g.objects n).refs) (sym t.2) p.3 in
        let refers : (found_at found k).id ≡ slice_index (object_of g.objects (found_at found q).id).refs p.1
        = sym (subst (λ n. slice_index (object_of g.objects n).refs p.1 ≡ (found_at found k).id) (sym t.2) p.4) in
        let farther : (found_at found k).distance ≤ suc (found_at found q).distance
        = (v.each k lk).distance.least (suc (found_at found q).distance) ((found_at found q).id, p.1, (v.each q t.1).distance.path, cell, sym refers) in
        let on = before d q r t.1 (omega (arith, nearer, farther, e)) (subst (PathFrom g r d) (sym t.2) p.2) in
        let handed = w.handed q t.1 p.1 k cell lk refers (omega (arith, nearer, e)) in
        omega (arith, on, handed)

    -- each object is owned by its root
    owned_by : (k : ℕ) → k < length found → IsOwnedBy g (found_at found k).id (owned_at owned k).root
    owned_by k lk = record {
      distance = (found_at found k).distance;
      shortest = (v.each k lk).distance;
      path = path_from (may.sound k lk);
      first = λ other p. before (found_at found k).distance k other lk refl p;
    }
      where
        path_from : MayOwn g (found_at found k) (owned_at owned k).root → PathFrom g (owned_at owned k).root (found_at found k).distance (found_at found k).id
        path_from (inr p) = p
        path_from (inl none) =
            let some = from_some g (found_at found k).distance (found_at found k).id (v.each k lk).distance.path in
            let lower = before (found_at found k).distance k some.0 lk refl some.1 in
            let there = root_there g some.0 (found_at found k).distance (found_at found k).id some.1 in
            absurd (omega (arith, none, lower, there))

    same_ids : map (λ (o : Owned). o.id) owned ≡ map (λ (f : Found). f.id) found
    same_ids = same_number_lists (map (λ (o : Owned). o.id) owned) (map (λ (f : Found). f.id) found) (owned_long ∙ may.long ∙ sym found_long) same_at
      where
        owned_long : length (map (λ (o : Owned). o.id) owned) ≡ length owned
        owned_long = length-map owned (λ (o : Owned). o.id)

        found_long : length (map (λ (f : Found). f.id) found) ≡ length found
        found_long = length-map found (λ (f : Found). f.id)

        same_at : (k : ℕ) → k < length (map (λ (o : Owned). o.id) owned) → get_or (map (λ (o : Owned). o.id) owned) k 0 ≡ get_or (map (λ (f : Found). f.id) found) k 0
        same_at k l =
            let lk : k < length owned = subst (λ n. k < n) owned_long l in
            let lf : k < length found = subst (λ n. k < n) may.long lk in
            get_or-map (λ (o : Owned). o.id) owned k none_owned 0 lk ∙ may.ids k lf ∙ sym (get_or-map (λ (f : Found). f.id) found k none_found 0 lf)

    pub all_owned : AreOwned g owned
    all_owned = record {
      reached = subst (AreReached g) (sym same_ids) (are_reached g found v);
      each = All-from_get_or (λ (o : Owned). IsOwnedBy g o.id o.root) owned none_owned (λ k l.
          let lf : k < length found = subst (λ n. k < n) may.long l in
          subst (λ id. IsOwnedBy g id (owned_at owned k).root) (sym (may.ids k lf)) (owned_by k lf));
    }
