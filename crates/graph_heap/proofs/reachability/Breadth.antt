-- A search from the roots, object after object in the order in which they were found.
use Rattle.std.proofs.Common.{◌≡◌, ℕ, zero, suc, ◌+◌, ◌<◌, ◌≤◌, ◌⊎◌, inl, inr, List, [], length, length-append, ap, ◌∙◌, sym, subst, arith}
use Rattle.std.specs.Prelude.{Some, None, slice_index}
use Rattle.graph_heap.specs.Graph.{Graph, object_of}
use Rattle.graph_heap.specs.Reach.{Path, Reaches}
use Rattle.graph_heap.specs.Reaching.{IsAmong}
use Rattle.graph_heap.proofs.Reaching.{with_cell}
use Rattle.graph_heap.specs.declared.reachability.found.Holder.{Holder}
use Rattle.graph_heap.specs.declared.reachability.found.Holder.TheVariants.{Root, Cell}
use Rattle.graph_heap.specs.declared.reachability.found.Found.{Found}
use Rattle.graph_heap.specs.Distance.{IsDistance, Holds, EndsAt, IsFound, found_at, AreOnce, AreInOrder, FindsAll}
use Rattle.graph_heap.specs.Search.{Findings, IsAt, holders, IsOneOf, Adds}
use Rattle.graph_heap.specs.Route.{IsLinked}
use Rattle.graph_heap.proofs.reachability.Places.{at_left, at_right, place_in, below_more}

-- the object is among those found, at most this far from the roots
abbrev pub IsWithin : List Found → ℕ → ℕ → Type 0
IsWithin found id most = (k : ℕ) × (k < length found) × ((found_at found k).id ≡ id) × ((found_at found k).distance ≤ most)

-- what the cells of an object hold is found, one cell further than it at most
abbrev pub IsLooked : Graph → List Found → Found → Type 0
IsLooked g found f = (i : ℕ) → i < length (object_of g.objects f.id).refs → IsAmong (length g.objects) (slice_index (object_of g.objects f.id).refs i)
    → IsWithin found (slice_index (object_of g.objects f.id).refs i) (f.distance + 1)

-- an object that was found is at the end of a path, by its last holder
pub record IsSound (g : Graph) (found : List Found) (f : Found) : Type 0 where
  pub among : IsAmong (length g.objects) f.id
  pub path : Path g f.distance f.id
  pub holds : Holds g f.holder f.id
  pub linked : IsLinked found f f.holder

-- The search so far, once those before a place were looked at.
pub record Searching (g : Graph) (s : Findings) (next : ℕ) : Type 0 where
  pub objects : s.objects ≡ length g.objects
  pub roots : (j : ℕ) → j < length g.roots → IsAmong (length g.objects) (slice_index g.roots j) → IsWithin s.found (slice_index g.roots j) 0
  pub cells : (k : ℕ) → k < next → IsLooked g s.found (found_at s.found k)
  pub sound : (k : ℕ) → k < length s.found → IsSound g s.found (found_at s.found k)
  pub order : AreInOrder s.found
  pub near : (k : ℕ) → k < length s.found → next < length s.found → (found_at s.found k).distance ≤ (found_at s.found next).distance + 1
  pub low : (k : ℕ) → k < length s.found → (found_at s.found k).distance ≤ k
  pub looked : next ≤ length s.found

-- the roots were looked at
module _ (g : Graph) (s : Findings) (v : Adds g.roots 0 (holders None) (length g.roots) (record { found = []; objects = length g.objects }) s) where
  abbrev IsAtRoot : Found → Type 0
  IsAtRoot f = IsAmong (length g.objects) f.id × IsOneOf g.roots 0 (holders None) (length g.roots) f

  at_root : (k : ℕ) → k < length s.found → IsAtRoot (found_at s.found k)
  at_root = subst (λ xs. (k : ℕ) → k < length xs → IsAtRoot (found_at xs k)) (sym v.grows) v.only

  near_root : (k : ℕ) → k < length s.found → (found_at s.found k).distance ≡ 0
  near_root k l = (at_root k l).1.distance

  sound_root : (f : Found) → IsAtRoot f → IsSound g s.found f
  sound_root f w = record {
    among = w.0;
    path = subst (λ d. Path g d f.id) (sym w.1.distance) (w.1.cell, w.1.below, sym w.1.id);
    holds = subst (λ h. Holds g h f.id) (sym w.1.holder_is) (w.1.below, sym w.1.id);
    linked = subst (IsLinked s.found f) (sym w.1.holder_is) w.1.distance;
  }

  pub searched_first : Searching g s 0
  searched_first = record {
    objects = v.same;
    roots = λ j l a. let t = v.all j l a in (t.0, t.1.0, t.1.1, omega (arith, near_root t.0 t.1.0));
    cells = λ k l. absurd (omega (arith, l));
    sound = λ k l. sound_root (found_at s.found k) (at_root k l);
    order = λ k j h l. omega (arith, near_root k (omega (arith, h, l)));
    near = λ k l n. omega (arith, near_root k l);
    low = λ k l. omega (arith, near_root k l);
    looked = omega arith;
  }

-- the next object was looked at
module _ (g : Graph) (old new : Findings) (next : ℕ) (f : Found) (s : Searching g old next) (l : next < length old.found) (is : f ≡ found_at old.found next)
    (v : Adds (object_of g.objects f.id).refs (f.distance + 1) (holders (Some f.id)) (length (object_of g.objects f.id).refs) old new) where
  long : length new.found ≡ length old.found + length v.more
  long = ap length v.grows ∙ length-append old.found v.more

  kept_at : (k : ℕ) → k < length old.found → found_at new.found k ≡ found_at old.found k
  kept_at k h = ap (λ xs. found_at xs k) v.grows ∙ at_left old.found v.more k h

  kept_within : (id most : ℕ) → IsWithin old.found id most → IsWithin new.found id most
  kept_within id most w =
      let more = long in
      let so = subst (λ (x : Found). (x.id ≡ id) × (x.distance ≤ most)) (sym (kept_at w.0 w.1)) (w.2, w.3) in
      (w.0, omega (arith, w.1, more), so.0, so.1)

  kept_linked : (x : Found) (h : Holder) → IsLinked old.found x h → IsLinked new.found x h
  kept_linked x (Root place) e = e
  kept_linked x (Cell object cell) w =
      let more = long in
      (w.0, (omega (arith, w.1.0, more), ap (λ (y : Found). y.id) (kept_at w.0 w.1.0) ∙ w.1.1), ap (λ (y : Found). y.distance + 1) (kept_at w.0 w.1.0) ∙ w.2)

  kept_sound : (x : Found) → IsSound g old.found x → IsSound g new.found x
  kept_sound x w = record { among = w.among; path = w.path; holds = w.holds; linked = kept_linked x x.holder w.linked }

  -- one that was added is held by a cell of the object
  abbrev IsNext : Found → Type 0
  IsNext x = IsAmong old.objects x.id × IsOneOf (object_of g.objects f.id).refs (f.distance + 1) (holders (Some f.id)) (length (object_of g.objects f.id).refs) x

  each : (k : ℕ) → k < length new.found → (k < length old.found) ⊎ ((j : ℕ) × (j < length v.more) × (k ≡ length old.found + j))
  each k h = place_in old.found v.more k (subst (λ xs. k < length xs) v.grows h)

  next_at : (k j : ℕ) → j < length v.more → k ≡ length old.found + j → IsNext (found_at new.found k)
  next_at k j h e = subst IsNext (sym (ap (found_at new.found) e ∙ ap (λ xs. found_at xs (length old.found + j)) v.grows ∙ at_right old.found v.more j)) (v.only j h)

  here : found_at new.found next ≡ f
  here = kept_at next l ∙ sym is

  sound_next : (x : Found) → IsNext x → IsSound g new.found x
  sound_next x w =
      let to : Path g f.distance f.id = subst (λ (y : Found). Path g y.distance y.id) (sym is) (s.sound next l).path in
      let far : x.distance ≡ suc f.distance = omega (arith, w.1.distance) in
      record {
        among = subst (λ n. IsAmong n x.id) s.objects w.0;
        path = subst (λ d. Path g d x.id) (sym far) (f.id, w.1.cell, to, w.1.below, sym w.1.id);
        holds = subst (λ h. Holds g h x.id) (sym w.1.holder_is) (w.1.below, sym w.1.id);
        linked = subst (IsLinked new.found x) (sym w.1.holder_is)
            (next, ((let more = long in omega (arith, l, more)), ap (λ (y : Found). y.id) here), ap (λ (y : Found). y.distance + 1) here ∙ sym w.1.distance);
      }

  -- none is further than that
  most : (k : ℕ) → k < length new.found → (found_at new.found k).distance ≤ f.distance + 1
  most k h = elim (each k h) [
    | inl o ↦ (let same : (found_at new.found k).distance ≡ (found_at old.found k).distance = ap (λ (y : Found). y.distance) (kept_at k o) in
        let far : f.distance ≡ (found_at old.found next).distance = ap (λ (y : Found). y.distance) is in
        omega (arith, s.near k o l, same, far))
    | inr j ↦ omega (arith, (next_at k j.0 j.1 j.2).1.distance)
  ]

  in_order : AreInOrder new.found
  in_order k j h m = elim (each j m) [
    | inl o ↦ (let x : (found_at new.found k).distance ≡ (found_at old.found k).distance = ap (λ (y : Found). y.distance) (kept_at k (omega (arith, h, o))) in
        let y : (found_at new.found j).distance ≡ (found_at old.found j).distance = ap (λ (y : Found). y.distance) (kept_at j o) in
        omega (arith, x, y, s.order k j h o))
    | inr p ↦ omega (arith, (next_at j p.0 p.1 p.2).1.distance, most k (omega (arith, h, m)))
  ]

  low_at : (k : ℕ) → k < length new.found → (found_at new.found k).distance ≤ k
  low_at k h = elim (each k h) [
    | inl o ↦ (let x : (found_at new.found k).distance ≡ (found_at old.found k).distance = ap (λ (y : Found). y.distance) (kept_at k o) in omega (arith, x, s.low k o))
    | inr j ↦ (let far : f.distance ≡ (found_at old.found next).distance = ap (λ (y : Found). y.distance) is in
        omega (arith, (next_at k j.0 j.1 j.2).1.distance, far, s.low next l, l, j.2))
  ]

  looked_at : (k : ℕ) → k < next + 1 → IsLooked g new.found (found_at new.found k)
  looked_at k h = elim (below_more k next h) [
    | inl o ↦ subst (IsLooked g new.found) (sym (kept_at k (omega (arith, o, l)))) (λ i c a. kept_within (slice_index (object_of g.objects (found_at old.found k).id).refs i) ((found_at old.found k).distance + 1) (s.cells k o i c a))
    | inr e ↦ subst (IsLooked g new.found) (sym (ap (found_at new.found) e ∙ here)) (λ i c a.
        let t = v.all i c (subst (λ n. IsAmong n (slice_index (object_of g.objects f.id).refs i)) (sym s.objects) a) in
        (t.0, t.1.0, t.1.1, most t.0 t.1.0))
  ]

  pub searched_more : Searching g new (next + 1)
  searched_more = record {
    objects = v.same ∙ s.objects;
    roots = λ j h a. kept_within (slice_index g.roots j) 0 (s.roots j h a);
    cells = looked_at;
    sound = λ k h. elim (each k h) [
      | inl o ↦ subst (IsSound g new.found) (sym (kept_at k o)) (kept_sound (found_at old.found k) (s.sound k o))
      | inr j ↦ sound_next (found_at new.found k) (next_at k j.0 j.1 j.2)
    ];
    order = in_order;
    near = λ k h n. (let far : (found_at new.found next).distance ≡ f.distance = ap (λ (y : Found). y.distance) here in
        omega (arith, most k h, far, in_order next (next + 1) (omega arith) n));
    low = low_at;
    looked = (let more = long in omega (arith, l, more));
  }

-- All were looked at.
module _ (g : Graph) (s : Findings) (next : ℕ) (v : Searching g s next) (over : length s.found ≤ next) (once : AreOnce s.found) where
  -- what a cell of an object holds that was found
  abbrev HoldsWithin : ℕ → ℕ → ℕ → Type 0
  HoldsWithin id i most = i < length (object_of g.objects id).refs → IsAmong (length g.objects) (slice_index (object_of g.objects id).refs i)
      → IsWithin s.found (slice_index (object_of g.objects id).refs i) most

  -- whatever is at the end of a path of k cells is found, at a distance of k at most
  reached : (k id : ℕ) → Path g k id → IsAmong (length g.objects) id → IsWithin s.found id k
  reached zero id p a = subst (λ q. IsWithin s.found q 0) p.2 (v.roots p.0 p.1 (subst (IsAmong (length g.objects)) (sym p.2) a))
  reached (suc k) id p a =
      let w = reached k p.0 p.2 (with_cell g.objects p.0 p.1 p.3) in
      let d = (found_at s.found w.0).distance in
      let from : HoldsWithin p.0 p.1 (d + 1) = subst (λ q. HoldsWithin q p.1 (d + 1)) w.2 (v.cells w.0 (omega (arith, w.1, over)) p.1) in
      let to : IsWithin s.found id (d + 1) = subst (λ q. IsWithin s.found q (d + 1)) p.4 (from p.3 (subst (IsAmong (length g.objects)) (sym p.4) a)) in
      (to.0, to.1, to.2, omega (arith, to.3, w.3))

  least_at : (k j : ℕ) → k < length s.found → Path g j (found_at s.found k).id → (found_at s.found k).distance ≤ j
  least_at k j h p =
      let w = reached j (found_at s.found k).id p (v.sound k h).among in
      let same : w.0 ≡ k = once w.0 k w.1 h w.2 in
      subst (λ m. (found_at s.found m).distance ≤ j) same w.3

  distance_at : (k : ℕ) → k < length s.found → IsDistance g (found_at s.found k).id (found_at s.found k).distance
  distance_at k h = record { path = (v.sound k h).path; least = λ j. least_at k j h }

  last_of : (x : Found) (h : Holder) → IsLinked s.found x h → EndsAt g h x.distance
  last_of x (Root place) e = e
  last_of x (Cell object cell) w =
      ((found_at s.found w.0).distance, subst (λ q. IsDistance g q (found_at s.found w.0).distance) w.1.1 (distance_at w.0 w.1.0), sym w.2)

  is_found : (k : ℕ) → k < length s.found → IsFound g (found_at s.found k)
  is_found k h =
      let o = v.sound k h in
      record { among = o.among; distance = distance_at k h; holds = o.holds; last = last_of (found_at s.found k) (found_at s.found k).holder o.linked }

  all_found : (id : ℕ) → Reaches g id → id ≤ length g.objects → (k : ℕ) × IsAt s.found id k
  unfolding Reaches
  all_found id r below = let w = reached r.1 id r.2 (r.0, below) in (w.0, (w.1, w.2))

  pub found_all : FindsAll g s.found
  found_all = record { each = is_found; all = λ id r below. (let t = all_found id r below in (t.0, t.1.0, t.1.1)); once = once; order = v.order }
