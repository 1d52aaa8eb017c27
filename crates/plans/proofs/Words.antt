-- How many words live objects have, and how many they may have after a change.
use Rattle.std.proofs.Common.{◌≡◌, ℕ, ◌+◌, ◌*◌, ◌<◌, ◌≤◌, ◌↔◌, inl, inr, true, ◌||◌, ◌==◌, if◌then◌else◌, List, [], ◌∷◌, length, length-append, arith, refl, ap, ◌∙◌, sym}
use Rattle.std.specs.Prelude.{nat_eq}
use Rattle.std.specs.List.{AllByRecursion}
use Rattle.std.specs.Set.{is_member}
use Rattle.std.proofs.lemmas.Bool.{eq-eqb, or_left, or_right}
use Rattle.std.proofs.lemmas.List.Sums.{sum_by-cons}
use Rattle.graph_heap.specs.declared.command.Shape.{Shape}
use Rattle.graph_heap.specs.declared.command.Change.{Change}
use Rattle.graph_heap.specs.declared.command.Change.TheVariants as changes
use Rattle.graph_heap.specs.Graph.{Graph, object_of, changed, new_object, with_ref, with_word}
use Rattle.graph_heap.specs.Reach.{Reaches}
use Rattle.graph_heap.specs.Reaching.{AreReached}
use Rattle.graph_heap.specs.Shape.{fits}
use Rattle.size_classes.specs.declared.class.TheConstants.{CLASSES}
use Rattle.size_classes.specs.Need.{needed}
use Rattle.size_classes.specs.Sizes.{size_of}
use Rattle.heap_model.specs.Alike.{IsFounded}
use Rattle.heap_model.specs.Collector.{contains}
use Rattle.heap_model.proofs.Collector.Coherence.{contains-middle}
use Rattle.heap_model.proofs.Cut.Changes.{length-put}
use Rattle.heap_model.proofs.Event.Freed.{reached_back, objects_stay}
use Rattle.space.specs.Demand.{blocks_by}
use Rattle.space.proofs.Counts.{class_sum_both, class_sum_same}
use Rattle.space.proofs.Placement.Changing.{shapes_kept}
use Rattle.fragmentation.specs.Flow.{words_of}
use Rattle.fragmentation.proofs.Flows.Words.{words_more, words_none}
use Rattle.paced.specs.Pacing.{shape_words}
use Rattle.sizing.specs.Meter.{AllFit}
use Rattle.sizing.proofs.Meters.Living.{member_contained, live_least}
use Rattle.plans.specs.Live.{LivesWithin}
use Rattle.plans.specs.LiveMeter.{words_by, IsBounded}

spread : (a b c : ℕ) → a * (b + c) ≡ a * b + a * c
spread a b c = grind arith

words_add : (f g : ℕ → ℕ) → words_of (λ k. f k + g k) ≡ words_of f + words_of g
words_add f g = class_sum_same (λ k. size_of k * (f k + g k)) (λ k. size_of k * f k + size_of k * g k) CLASSES (λ k. spread (size_of k) (f k) (g k)) ∙ class_sum_both (λ k. size_of k * f k) (λ k. size_of k * g k) CLASSES

words_same : (f g : ℕ → ℕ) → ((k : ℕ) → f k ≡ g k) → words_of f ≡ words_of g
words_same f g e = class_sum_same (λ k. size_of k * f k) (λ k. size_of k * g k) CLASSES (λ k. ap (λ z. size_of k * z) (e k))

shape_whole : (shape : Shape) → fits shape ≡ true → shape_words shape ≡ words_of (needed shape)
shape_whole shape e = words_same (λ k. if fits shape then needed shape k else 0) (needed shape) (λ k. ap (λ b. if b then needed shape k else 0) e)

-- the words of objects are those of their blocks
words_sum : (g : Graph) → AllFit g → (ids : List ℕ) → words_of (blocks_by g ids) ≡ words_by g ids
words_sum g fit [] = words_none (blocks_by g []) (λ k l. refl)
words_sum g fit (id ∷ ids) =
    let s = (object_of g.objects id).shape in
    let first = words_same (blocks_by g (id ∷ ids)) (λ k. needed s k + blocks_by g ids k) (λ k. sum_by-cons (λ i. needed (object_of g.objects i).shape k) id ids) in
    let both = words_add (needed s) (blocks_by g ids) in
    let whole = shape_whole s (fit id) in
    let rest = words_sum g fit ids in
    let all = sum_by-cons (λ i. shape_words (object_of g.objects i).shape) id ids in
    omega (arith, first, both, whole, rest, all)

-- live objects have at most this many words if and only if the objects that can be reached have no more
pub lives_least : (g : Graph) (ids : List ℕ) (words : ℕ) → AllFit g → AreReached g ids → ((id : ℕ) → Reaches g id → id ≤ length g.objects) → LivesWithin words g ↔ (words_by g ids ≤ words)
lives_least g ids words fit all given = (
  λ w. (let m = words_more (blocks_by g ids) w.0 ((live_least g ids w.0 all given).0 w.1) in let s = words_sum g fit ids in let few = w.2 in omega (arith, m, s, few)),
  λ few. (blocks_by g ids, (live_least g ids (blocks_by g ids) all given).1 (λ class l. omega arith), (let s = words_sum g fit ids in omega (arith, s, few))),
)

pub lives_more : (g : Graph) (few words : ℕ) → few ≤ words → LivesWithin few g → LivesWithin words g
lives_more g few words l w = (w.0, w.1, (let q = w.2 in omega (arith, l, q)))

pub bounded_lives : (g : Graph) (words : ℕ) → AllFit g → IsBounded g words → LivesWithin words g
bounded_lives g words fit b = (
  blocks_by g b.ids,
  record { ids = b.ids; reached = b.reached; blocks = λ class l. omega arith },
  (let s = words_sum g fit b.ids in let few = b.few in omega (arith, s, few)),
)

all_members : (n : ℕ) (ids : List ℕ) → ((id : ℕ) → is_member nat_eq ids id ≡ true → id ≤ n) → AllByRecursion (λ id. id ≤ n) ids
all_members n [] h = tt
all_members n (id ∷ ids) h = (h id (or_left (nat_eq id id) (is_member nat_eq ids id) (eq-eqb id id refl)), all_members n ids (λ x m. h x (or_right (nat_eq x id) (is_member nat_eq ids x) m)))

pub reached_bounded : (g : Graph) (ids : List ℕ) (words : ℕ) → AreReached g ids → ((id : ℕ) → Reaches g id → id ≤ length g.objects) → words_by g ids ≤ words → IsBounded g words
reached_bounded g ids words all given few = record {
  ids = ids;
  reached = λ id r. sym (member_contained ids id) ∙ (all.exactly id).1 (r, given id r);
  given = all_members (length g.objects) ids (λ id m. ((all.exactly id).0 m).1);
  few = few;
}

all_below : (n m : ℕ) (ids : List ℕ) → n ≤ m → AllByRecursion (λ id. id ≤ n) ids → AllByRecursion (λ id. id ≤ m) ids
all_below n m [] l h = tt
all_below n m (id ∷ ids) l h = ((let q = h.0 in omega (arith, l, q)), all_below n m ids l h.1)

words_stay : (g : Graph) (x : Change) (ids : List ℕ) → AllByRecursion (λ id. id ≤ length g.objects) ids → words_by (changed g x) ids ≡ words_by g ids
words_stay g x [] h = refl
words_stay g x (id ∷ ids) h =
    let a = sum_by-cons (λ i. shape_words (object_of (changed g x).objects i).shape) id ids in
    let b = sum_by-cons (λ i. shape_words (object_of g.objects i).shape) id ids in
    let s : shape_words (object_of (changed g x).objects id).shape ≡ shape_words (object_of g.objects id).shape = ap shape_words ((shapes_kept g x).shape id h.0) in
    let rest = words_stay g x ids h.1 in
    omega (arith, a, b, s, rest)

one_more : (g : Graph) (x : Change) → length (changed g x).objects ≤ length g.objects + 1
one_more g changes.Nothing = omega arith
one_more g (changes.Root cell id) = omega arith
one_more g (changes.Ref id i v) = let e = length-put g.objects id (with_ref (object_of g.objects id) i v) in omega (arith, e)
one_more g (changes.Word id i v) = let e = length-put g.objects id (with_word (object_of g.objects id) i v) in omega (arith, e)
one_more g (changes.New cell id s) = let e = length-append g.objects (new_object s ∷ []) in omega (arith, e)
one_more g (changes.Join m) = omega arith
one_more g (changes.Leave m) = omega arith

-- a change to a graph heap all of whose objects are among those that it has
module _ (g : Graph) (x : Change) (f : IsFounded g x) (given : (id : ℕ) → Reaches (changed g x) id → id ≤ length (changed g x).objects) (words : ℕ) (b : IsBounded g words) where
  pub bounded_kept : length (changed g x).objects ≤ length g.objects → IsBounded (changed g x) words
  bounded_kept less = record {
    ids = b.ids;
    reached = λ id r. elim (reached_back g x f id r) [
      | inl e ↦ b.reached id e
      | inr late ↦ absurd (let q = given id r in omega (arith, q, late, less))
    ];
    given = all_below (length g.objects) (length (changed g x).objects) b.ids (objects_stay g x) b.given;
    few = (let s = words_stay g x b.ids b.given in let few = b.few in omega (arith, s, few));
  }

  abbrev last : ℕ
  last = length (changed g x).objects

  is_there : length g.objects < length (changed g x).objects → (id : ℕ) → Reaches (changed g x) id → ((last == id) || contains b.ids id) ≡ true
  is_there more id r = elim (reached_back g x f id r) [
    | inl e ↦ or_right (last == id) (contains b.ids id) (b.reached id e)
    | inr late ↦ or_left (last == id) (contains b.ids id) (eq-eqb last id (let q = given id r in let o = one_more g x in omega (arith, q, o, late, more)))
  ]

  pub bounded_grown : length g.objects < length (changed g x).objects → IsBounded (changed g x) (words + shape_words (object_of (changed g x).objects last).shape)
  bounded_grown more = record {
    ids = last ∷ b.ids;
    reached = λ id r. contains-middle [] b.ids last id ∙ is_there more id r;
    given = (omega arith, all_below (length g.objects) last b.ids (objects_stay g x) b.given);
    few = (let s = words_stay g x b.ids b.given in let c = sum_by-cons (λ i. shape_words (object_of (changed g x).objects i).shape) last b.ids in let few = b.few in omega (arith, s, c, few));
  }
