-- Live objects need exactly the blocks of the objects that can be reached.
use Rattle.std.proofs.Common.{◌≡◌, ℕ, ◌<◌, ◌≤◌, ◌↔◌, inl, inr, true, false, ◌||◌, ◌==◌, List, [], ◌∷◌, ◌++◌, length, arith, refl, ap, ◌∙◌, sym, subst}
use Rattle.std.specs.Prelude.{nat_eq, sum_by}
use Rattle.std.specs.List.{IsDistinct, AllByRecursion}
use Rattle.std.specs.Set.{is_member}
use Rattle.std.proofs.lemmas.Cmp.{nat_eq_equiv}
use Rattle.std.proofs.lemmas.Bool.{eqb-true, eq-eqb, or_left, or_right, or_cases}
use Rattle.std.proofs.lemmas.List.Sums.{sum_by-cons, sum_by-append}
use Rattle.std.proofs.lemmas.Map.Keys.{IsDistinct-head, IsDistinct-tail}
use Rattle.graph_heap.specs.Graph.{Graph, object_of}
use Rattle.graph_heap.specs.Reach.{Reaches}
use Rattle.graph_heap.specs.Reaching.{AreReached}
use Rattle.size_classes.specs.declared.class.TheConstants.{CLASSES}
use Rattle.size_classes.specs.Need.{needed}
use Rattle.heap_model.specs.Collector.{contains}
use Rattle.heap_model.proofs.Collector.Coherence.{contains-middle}
use Rattle.space.specs.Demand.{LiveWithin, blocks_by}

-- both words for an element of a list
pub member_contained : (xs : List ℕ) (q : ℕ) → is_member nat_eq xs q ≡ contains xs q
unfolding contains
member_contained [] q = refl
member_contained (x ∷ xs) q = ap (λ b. b || is_member nat_eq xs q) (nat_eq_equiv.symm q x) ∙ ap (λ b. nat_eq x q || b) (member_contained xs q)

-- a list is cut at one of its elements
split_at : (ys : List ℕ) (x : ℕ) → contains ys x ≡ true → (front : List ℕ) × (back : List ℕ) × (ys ≡ front ++ x ∷ back)
unfolding contains
split_at [] x h = absurd (cc)
split_at (y ∷ ys) x h = elim (or_cases (y == x) (contains ys x) h) [
  | inl e ↦ ([], ys, ap (λ z. z ∷ ys) (eqb-true y x e))
  | inr e ↦ (let s = split_at ys x e in (y ∷ s.0, s.1, ap (λ l. y ∷ l) s.2))
]

-- an element of a list, each of whose elements is apart from another
apart_at : (x : ℕ) (xs : List ℕ) (y : ℕ) → AllByRecursion (λ z. nat_eq x z ≡ false) xs → is_member nat_eq xs y ≡ true → nat_eq x y ≡ false
apart_at x [] y all h = absurd (let n : false ≡ true = h in cc)
apart_at x (z ∷ xs) y all h = elim (or_cases (nat_eq y z) (is_member nat_eq xs y) h) [
  | inl e ↦ subst (λ w. nat_eq x w ≡ false) (sym (eqb-true y z e)) all.0
  | inr e ↦ apart_at x xs y all.1 e
]

-- the sum over numbers that are apart, all of which are in a list, is at most that over the list
sum_within : (f : ℕ → ℕ) (xs ys : List ℕ) → IsDistinct nat_eq xs → ((x : ℕ) → is_member nat_eq xs x ≡ true → contains ys x ≡ true) → sum_by f xs ≤ sum_by f ys
sum_within f [] ys once within = let n : sum_by f [] ≡ 0 = refl in omega (arith, n)
sum_within f (x ∷ xs) ys once within =
    let s = split_at ys x (within x (or_left (nat_eq x x) (is_member nat_eq xs x) (eq-eqb x x refl))) in
    let rest : sum_by f xs ≤ sum_by f (s.0 ++ s.1) = sum_within f xs (s.0 ++ s.1) (IsDistinct-tail nat_eq x xs once) (λ y h.
    (let no = apart_at x xs y (IsDistinct-head nat_eq x xs once) h in
    let in_all : contains (s.0 ++ x ∷ s.1) y ≡ true = subst (λ l. contains l y ≡ true) s.2 (within y (or_right (nat_eq y x) (is_member nat_eq xs y) h)) in
    elim (or_cases (x == y) (contains (s.0 ++ s.1) y) (sym (contains-middle s.0 s.1 x y) ∙ in_all)) [
      | inl e ↦ absurd (let z : false ≡ true = sym no ∙ e in cc)
      | inr e ↦ e
    ])) in
    let a = sum_by-cons f x xs in
    let b : sum_by f ys ≡ sum_by f (s.0 ++ x ∷ s.1) = ap (sum_by f) s.2 in
    let c = sum_by-append f s.0 (x ∷ s.1) in
    let d = sum_by-cons f x s.1 in
    let e = sum_by-append f s.0 s.1 in
    omega (arith, rest, a, b, c, d, e)

pub live_least : (g : Graph) (ids : List ℕ) (most : ℕ → ℕ) → AreReached g ids → ((id : ℕ) → Reaches g id → id ≤ length g.objects) → LiveWithin g most ↔ ((class : ℕ) → class < CLASSES → blocks_by g ids class ≤ most class)
live_least g ids most all given = (
  λ w class l. (let s = sum_within (λ id. needed (object_of g.objects id).shape class) ids w.ids all.once (λ id h. w.reached id ((all.exactly id).0 h).0) in let b = w.blocks class l in omega (arith, s, b)),
  λ h. record {
    ids = ids;
    reached = λ id r. sym (member_contained ids id) ∙ (all.exactly id).1 (r, given id r);
    blocks = h;
  },
)
