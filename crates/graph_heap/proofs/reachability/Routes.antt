-- From an object back to a root, by the last holders of shortest paths.
use Rattle.std.proofs.Common.{◌≡◌, ℕ, ◌+◌, ◌<◌, ◌≤◌, List, [], ◌∷◌, ◌++◌, length, length-append, reverse, ap, ◌∙◌, sym, subst, refl, arith}
use Rattle.std.specs.Prelude.{slice_index}
use Rattle.std.proofs.lemmas.List.{reverse-append, length-reverse}
use Rattle.graph_heap.specs.Graph.{Graph}
use Rattle.graph_heap.specs.Reach.{Path, Reaches}
use Rattle.graph_heap.proofs.Reaching.{with_cell}
use Rattle.graph_heap.specs.declared.reachability.found.Holder.{Holder}
use Rattle.graph_heap.specs.declared.reachability.found.Holder.TheVariants.{Root, Cell}
use Rattle.graph_heap.specs.declared.reachability.found.Found.{Found}
use Rattle.graph_heap.specs.declared.reachability.route.Step.{Step}
use Rattle.graph_heap.specs.declared.reachability.route.Route.{Route}
use Rattle.graph_heap.specs.Distance.{IsDistance, Holds, EndsAt, IsFound, found_at, FindsAll}
use Rattle.graph_heap.specs.Search.{IsAt, Stands, IsNowhere}
use Rattle.graph_heap.specs.Route.{Leads, IsShortest, IsLinked, AreLinked}

reaches_by : (g : Graph) (id k : ℕ) → 0 < id → Path g k id → Reaches g id
unfolding Reaches
reaches_by g id k some p = (some, k, p)

-- each that was found is linked to its last holder
module _ (g : Graph) (found : List Found) (v : FindsAll g found) where
  linked : (k : ℕ) (h : Holder) → EndsAt g h (found_at found k).distance → Holds g h (found_at found k).id → IsLinked found (found_at found k) h
  linked k (Root place) e holds = e
  linked k (Cell object cell) e holds =
      let among = with_cell g.objects object cell holds.0 in
      let t = v.all object (reaches_by g object e.0 among.0 e.1.path) among.1 in
      let here : IsDistance g object (found_at found t.0).distance = subst (λ q. IsDistance g q (found_at found t.0).distance) t.2 (v.each t.0 t.1).distance in
      (t.0, (t.1, t.2), omega (arith, here.least e.0 e.1.path, e.1.least (found_at found t.0).distance here.path, e.2))

  pub are_linked : AreLinked found
  are_linked k h = let f = v.each k h in linked k (found_at found k).holder f.last f.holds

-- The way back from an object so far: the cells, last first, lead from another that was found to it.
pub record IsBack (found : List Found) (target : Found) (steps : List Step) (last : Found) : Type 0 where
  pub stands : Stands found last
  pub leads : (g : Graph) → FindsAll g found → Leads g last.id (reverse steps) target.id
  pub count : length steps + last.distance ≡ target.distance

pub not_back : (found : List Found) (target : Found) → Stands found target → IsBack found target [] target
not_back found target s = record { stands = s; leads = λ g v. refl; count = omega arith }

module _ (found : List Found) (target : Found) (steps : List Step) (last : Found) (b : IsBack found target steps last) where
  found_so : (g : Graph) → FindsAll g found → IsFound g last
  found_so g v = subst (IsFound g) b.stands.2 (v.each b.stands.0 b.stands.1)

  pub link_of : AreLinked found → IsLinked found last last.holder
  link_of all = subst (λ (x : Found). IsLinked found x x.holder) b.stands.2 (all b.stands.0 b.stands.1)

  -- The way goes back to the object of the last holder.
  module _ (object cell : ℕ) (is : last.holder ≡ Cell object cell) (next : Found) (all : AreLinked found) (one : (k : ℕ) → IsAt found object k → found_at found k ≡ next) where
    link : IsLinked found last (Cell object cell)
    link = subst (IsLinked found last) is (link_of all)

    same : found_at found link.0 ≡ next
    same = one link.0 link.1

    same_id : next.id ≡ object
    same_id = sym (ap (λ (x : Found). x.id) same) ∙ link.1.1

    abbrev step : Step
    step = record { object = object; cell = cell }

    leads_on : (g : Graph) → FindsAll g found → Leads g next.id (step ∷ reverse steps) target.id
    leads_on g v =
        let holds : Holds g (Cell object cell) last.id = subst (λ h. Holds g h last.id) is (found_so g v).holds in
        (same_id, holds.0, subst (λ q. Leads g q (reverse steps) target.id) (sym holds.1) (b.leads g v))

    pub nearer : next.distance < last.distance
    nearer = let near : (found_at found link.0).distance ≡ next.distance = ap (λ (x : Found). x.distance) same in omega (arith, near, link.2)

    pub one_back : (more : List Step) → more ≡ steps ++ step ∷ [] → IsBack found target more next
    one_back more e = record {
      stands = (link.0, link.1.0, same);
      leads = λ g v. subst (λ xs. Leads g next.id xs target.id) (sym (ap reverse e ∙ reverse-append steps (step ∷ []))) (leads_on g v);
      count =
          let near : (found_at found link.0).distance ≡ next.distance = ap (λ (x : Found). x.distance) same in
          let long : length more ≡ length steps + 1 = ap length e ∙ length-append steps (step ∷ []) in
          omega (arith, near, long, link.2, b.count);
    }

  -- The way is back at a root.
  pub whole_way : (root : ℕ) → last.holder ≡ Root root → AreLinked found → Stands found target → (r : Route) → r.root ≡ root → r.steps.items ≡ reverse steps
      → (g : Graph) → FindsAll g found → IsShortest g target.id r
  whole_way root is all from r root_is steps_are g v =
      let holds : Holds g (Root r.root) last.id = subst (λ h. Holds g h last.id) (is ∙ ap Root (sym root_is)) (found_so g v).holds in
      let near : last.distance ≡ 0 = subst (IsLinked found last) is (link_of all) in
      let short : IsDistance g target.id target.distance = (subst (IsFound g) from.2 (v.each from.0 from.1)).distance in
      let long : length r.steps.items ≡ length steps = ap length steps_are ∙ length-reverse steps in
      record {
        path = (holds.0, subst (λ xs. Leads g (slice_index g.roots r.root) xs target.id) (sym steps_are) (subst (λ q. Leads g q (reverse steps) target.id) (sym holds.1) (b.leads g v)));
        least = λ k p. omega (arith, long, near, b.count, short.least k p);
      }

-- none leads to an object that wasn't found
pub unreachable : (g : Graph) (found : List Found) (id : ℕ) → FindsAll g found → IsNowhere found id → id ≤ length g.objects → Reaches g id → ⊥
unreachable g found id v none below r = let t = v.all id r below in none t.0 t.1 t.2
