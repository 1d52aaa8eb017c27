-- Roots are given to objects, and handed on.
use Rattle.std.proofs.Common.{◌≡◌, ◌≢◌, ℕ, ◌+◌, ◌<◌, ◌≤◌, ◌⊎◌, inl, inr, List, ◌++◌, length, length-set, set, take, ap, ◌∙◌, sym, subst, arith}
use Rattle.std.specs.Prelude.{min, slice_index}
use Rattle.std.proofs.Math.Seq.{take-append_seam}
use Rattle.std.proofs.lemmas.List.{get_or-set_same, get_or-set_other}
use Rattle.graph_heap.specs.Graph.{Graph, object_of}
use Rattle.graph_heap.specs.declared.reachability.found.Found.{Found}
use Rattle.graph_heap.specs.Distance.{found_at, FindsAll}
use Rattle.graph_heap.specs.Search.{IsAt, IsNowhere}
use Rattle.inspector.specs.declared.by_root.owning.Owned.{Owned}
use Rattle.inspector.specs.Owning.{none_owned, owned_at, MayOwn, MayBeOwned, AreBefore, IsGiven, IsHanded}
use Rattle.inspector.proofs.OwnedBy.{at_root, goes_on}

below_more : (k n : ℕ) → k < n + 1 → (k < n) ⊎ (k ≡ n)
below_more k n h = grind arith

same_or : (a b : ℕ) → (a ≡ b) ⊎ (a ≢ b)
same_or a b = grind arith

order : (a b : ℕ) → (a ≤ b) ⊎ (b < a)
order a b = grind arith

-- what is written over a whole list
pub written : (xs ys : List Owned) (n : ℕ) → length xs ≡ n → take n (xs ++ ys) ≡ xs
written xs ys n e = ap (λ m. take m (xs ++ ys)) (sym e) ∙ take-append_seam xs ys

-- the lower of two roots may own an object that both may own
lower_owns : (g : Graph) (f : Found) (a b : ℕ) → MayOwn g f a → MayOwn g f b → MayOwn g f (min a b)
lower_owns g f a b x y = by (order a b)
  where
    by : (a ≤ b) ⊎ (b < a) → MayOwn g f (min a b)
    by (inl h) = subst (MayOwn g f) (let e : a ≡ min a b = omega (arith, h) in e) x
    by (inr h) = subst (MayOwn g f) (let e : b ≡ min a b = omega (arith, h) in e) y

-- An object gets the lower of its root and another.
module _ (owned new : List Owned) (p root : ℕ) (below : p < length owned)
    (is : new ≡ set owned p (record { id = (owned_at owned p).id; root = min (owned_at owned p).root root })) where
  abbrev lowered : Owned
  lowered = record { id = (owned_at owned p).id; root = min (owned_at owned p).root root }

  pub other : (j : ℕ) → j ≢ p → owned_at new j ≡ owned_at owned j
  other j d = ap (λ xs. owned_at xs j) is ∙ get_or-set_other owned p j lowered none_owned d

  here : owned_at new p ≡ lowered
  here = ap (λ xs. owned_at xs p) is ∙ get_or-set_same owned p lowered none_owned below

  id_same : (j : ℕ) → (owned_at new j).id ≡ (owned_at owned j).id
  id_same j = by (same_or j p)
    where
      by : (j ≡ p) ⊎ (j ≢ p) → (owned_at new j).id ≡ (owned_at owned j).id
      by (inl e) = subst (λ q. (owned_at new q).id ≡ (owned_at owned q).id) (sym e) (ap (λ (o : Owned). o.id) here)
      by (inr d) = ap (λ (o : Owned). o.id) (other j d)

  pub lower : (j : ℕ) → (owned_at new j).root ≤ (owned_at owned j).root
  lower j = by (same_or j p)
    where
      by : (j ≡ p) ⊎ (j ≢ p) → (owned_at new j).root ≤ (owned_at owned j).root
      by (inl e) = subst (λ q. (owned_at new q).root ≤ (owned_at owned q).root) (sym e)
          (let r : (owned_at new p).root ≡ min (owned_at owned p).root root = ap (λ (o : Owned). o.root) here in omega (arith, r))
      by (inr d) = let r : (owned_at new j).root ≡ (owned_at owned j).root = ap (λ (o : Owned). o.root) (other j d) in omega (arith, r)

  pub low_here : (owned_at new p).root ≤ root
  low_here = let r : (owned_at new p).root ≡ min (owned_at owned p).root root = ap (λ (o : Owned). o.root) here in omega (arith, r)

  module _ (g : Graph) (found : List Found) (m : MayBeOwned g found owned) (l : p < length found) (owns : MayOwn g (found_at found p) root) where
    sound_at : (k : ℕ) → k < length found → (k ≡ p) ⊎ (k ≢ p) → MayOwn g (found_at found k) (owned_at new k).root
    sound_at k lk (inr d) = subst (MayOwn g (found_at found k)) (sym (ap (λ (o : Owned). o.root) (other k d))) (m.sound k lk)
    sound_at k lk (inl e) = subst (λ q. MayOwn g (found_at found q) (owned_at new q).root) (sym e)
        (subst (MayOwn g (found_at found p)) (sym (ap (λ (o : Owned). o.root) here)) (lower_owns g (found_at found p) (owned_at owned p).root root (m.sound p l) owns))

    pub may_then : MayBeOwned g found new
    may_then = record {
      long = ap length is ∙ length-set owned p lowered ∙ m.long;
      ids = λ k lk. id_same k ∙ m.ids k lk;
      sound = λ k lk. sound_at k lk (same_or k p);
    }

    pub given_then : (count : ℕ) → IsGiven g found count owned → IsGiven g found count new
    given_then count w = record { may = may_then; given = λ r k lr lk e. (let low = lower k in omega (arith, low, w.given r k lr lk e)) }

-- The root of the object at a place is handed on to those to which its first cells refer.
pub record IsHanding (g : Graph) (found : List Found) (place count root : ℕ) (owned : List Owned) : Type 0 where
  pub before : IsHanded g found place owned
  pub root_is : root ≡ (owned_at owned place).root
  pub here : (i j : ℕ) → i < count → j < length found → (found_at found j).id ≡ slice_index (object_of g.objects (found_at found place).id).refs i
      → (found_at found place).distance < (found_at found j).distance → (owned_at owned j).root ≤ root

module _ (g : Graph) (found : List Found) (v : FindsAll g found) where
  -- the next root is given
  module _ (owned : List Owned) (root id : ℕ) (there : root < length g.roots) (is_id : id ≡ slice_index g.roots root) (w : IsGiven g found root owned) where
    pub given_none : IsNowhere found id → IsGiven g found (root + 1) owned
    given_none none = record {
      may = w.may;
      given = λ r k lr lk e. elim (below_more r root lr) [
        | inl o ↦ w.given r k o lk e
        | inr same ↦ absurd (none k lk (e ∙ ap (slice_index g.roots) same ∙ sym is_id))
      ];
    }

    pub given_one : (p : ℕ) → IsAt found id p → (new : List Owned) → new ≡ set owned p (record { id = (owned_at owned p).id; root = min (owned_at owned p).root root })
        → IsGiven g found (root + 1) new
    given_one p at new is =
        let below : p < length owned = subst (λ n. p < n) (sym w.may.long) at.0 in
        let owns : MayOwn g (found_at found p) root = inr (at_root g found v root p there at.0 (at.1 ∙ is_id)) in
        let then = given_then owned new p root below is g found w.may at.0 owns root w in
        record {
          may = then.may;
          given = λ r k lr lk e. elim (below_more r root lr) [
            | inl o ↦ then.given r k o lk e
            | inr same ↦ (let k_is : k ≡ p = v.once k p lk at.0 (e ∙ ap (slice_index g.roots) same ∙ sym is_id ∙ sym at.1) in
                subst (λ q. (owned_at new q).root ≤ r) (sym k_is) (let low = low_here owned new p root below is in omega (arith, low, same)))
          ];
        }

  pub handing_first : (place root : ℕ) (owned : List Owned) → IsHanded g found place owned → root ≡ (owned_at owned place).root → IsHanding g found place 0 root owned
  handing_first place root owned w e = record { before = w; root_is = e; here = λ i j none lj is far. absurd (omega (arith, none)) }

  -- all cells were looked at
  pub handed_more : (place count root : ℕ) (owned : List Owned) → IsHanding g found place count root owned → count ≡ length (object_of g.objects (found_at found place).id).refs
      → IsHanded g found (place + 1) owned
  handed_more place count root owned w all = record {
    given = w.before.given;
    handed = λ k l. elim (below_more k place l) [
      | inl o ↦ w.before.handed k o
      | inr e ↦ subst (λ q. AreBefore found owned (object_of g.objects (found_at found q).id).refs (found_at found q).distance (owned_at owned q).root) (sym e)
          (λ i j li lj is far. subst (λ r. (owned_at owned j).root ≤ r) w.root_is (w.here i j (omega (arith, li, all)) lj is far))
    ];
  }

  -- at most one object has an identity, and it isn't farther
  pub not_farther : (place p id : ℕ) → IsAt found id p → (found_at found p).distance ≤ (found_at found place).distance
      → (j : ℕ) → j < length found → (found_at found j).id ≡ id → (found_at found place).distance < (found_at found j).distance → ⊥
  not_farther place p id at near j lj e far =
      let same : (found_at found j).distance ≡ (found_at found p).distance = ap (λ q. (found_at found q).distance) (v.once j p lj at.0 (e ∙ sym at.1)) in
      absurd (omega (arith, near, far, same))

  -- the next cell is looked at
  module _ (place i root id : ℕ) (owned : List Owned) (w : IsHanding g found place i root owned) (is_place : place < length found)
      (there : i < length (object_of g.objects (found_at found place).id).refs) (is_id : id ≡ slice_index (object_of g.objects (found_at found place).id).refs i) where
    -- nothing changes
    pub handing_none : ((j : ℕ) → j < length found → (found_at found j).id ≡ id → (found_at found place).distance < (found_at found j).distance → ⊥) → IsHanding g found place (i + 1) root owned
    handing_none none = record {
      before = w.before;
      root_is = w.root_is;
      here = λ c j lc lj e far. elim (below_more c i lc) [
        | inl o ↦ w.here c j o lj e far
        | inr same ↦ absurd (none j lj (e ∙ ap (slice_index (object_of g.objects (found_at found place).id).refs) same ∙ sym is_id) far)
      ];
    }

    -- the object to which it refers gets the root
    pub handing_one : (p : ℕ) → IsAt found id p → (found_at found place).distance < (found_at found p).distance → (new : List Owned)
        → new ≡ set owned p (record { id = (owned_at owned p).id; root = min (owned_at owned p).root root }) → IsHanding g found place (i + 1) root new
    handing_one p at far new is = record {
      before = record {
        given = given_then owned new p root below is g found w.before.given.may at.0 owns (length g.roots) w.before.given;
        handed = λ k lk. (λ c j lc lj e fk. (let low = lower owned new p root below is j in let old = w.before.handed k lk c j lc lj e fk in let same = root_same k (omega (arith, lk)) in omega (arith, low, old, same)));
      };
      root_is = w.root_is ∙ sym (root_same place (omega arith));
      here = λ c j lc lj e fj. elim (below_more c i lc) [
        | inl o ↦ (let low = lower owned new p root below is j in let old = w.here c j o lj e fj in omega (arith, low, old))
        | inr same ↦ (let j_is : j ≡ p = v.once j p lj at.0 (e ∙ ap (slice_index (object_of g.objects (found_at found place).id).refs) same ∙ sym is_id ∙ sym at.1) in
            subst (λ q. (owned_at new q).root ≤ root) (sym j_is) (low_here owned new p root below is))
      ];
    }
      where
        below : p < length owned
        below = subst (λ n. p < n) (sym w.before.given.may.long) at.0

        owns : MayOwn g (found_at found p) root
        owns = subst (MayOwn g (found_at found p)) (sym w.root_is)
            (goes_on g found v place p i (owned_at owned place).root is_place at.0 there (at.1 ∙ is_id) far (w.before.given.may.sound place is_place))

        -- the roots of the objects up to this one stay
        root_same : (k : ℕ) → k ≤ place → (owned_at new k).root ≡ (owned_at owned k).root
        root_same k l =
            let near : (found_at found k).distance ≤ (found_at found place).distance = v.order k place l is_place in
            ap (λ (o : Owned). o.root) (other owned new p root below is k (λ e. absurd (let same : (found_at found k).distance ≡ (found_at found p).distance = ap (λ q. (found_at found q).distance) e in omega (arith, near, far, same))))
