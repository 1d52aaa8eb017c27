-- The invariant gives agreement.
use Rattle.std.proofs.Common.{◌≡◌, ◌≢◌, ℕ, ◌<◌, ◌≤◌, Bool, true, false, [], length, refl, ap, subst, sym, ◌∙◌, arith, inl, inr, ◌==◌}
use Rattle.graph_heap.specs.Graph.{Graph, no_object, object_of, root_cells}
use Rattle.graph_heap.specs.Reach.{Reaches}
use Rattle.heap_model.specs.Core.{Name, null, Reach, Kept}
use Rattle.heap_model.specs.Agree.{Shows}
use Rattle.heap_model.specs.Cut.{count_of, width_in, width_of, words_of, name_of, view}
use Rattle.heap_model.specs.Collector.{Coherent}
use Rattle.heap_model.specs.State.{HeapState, seen, collector_of}
use Rattle.heap_model.specs.Agreement.{HasItsCells, IsWhole, Agrees, Consistent}
use Rattle.heap_model.specs.Written.{IsKnown}
use Rattle.heap_model.proofs.Core.Kept.{kept_null, reach_kept}
use Rattle.heap_model.proofs.Agree.{AgreesByParts, agreed}
use Rattle.heap_model.proofs.Cut.Reaching.{reaches_reach, reach_reaches, count_some, reach_zero}

-- the invariant after a step, by what becomes of the heap and of the graph heaps
pub stepped : (h after : HeapState) (present snapshot present' snapshot' : Graph) → Consistent h present snapshot → after.limits ≡ h.limits → after.live ≡ h.live → length after.roots ≡ length h.roots
    → present'.limits ≡ present.limits → present'.live ≡ present.live → length present'.roots ≡ length present.roots → length h.roots ≡ length snapshot'.roots
    → ((id : ℕ) → HasItsCells (object_of present'.objects id)) → IsWhole after.store → Coherent (collector_of after) (view present') (view snapshot') → Consistent after present' snapshot'
stepped h after present snapshot present' snapshot' c limits live roots limits' live' roots' row cells whole parts = record {
  limits = limits ∙ c.limits ∙ sym limits';
  live = live ∙ c.live ∙ sym live';
  row = roots ∙ c.row ∙ ap root_cells (sym limits);
  present_row = roots ∙ c.present_row ∙ sym roots';
  snapshot_row = roots ∙ row;
  cells = cells;
  whole = whole;
  parts = parts;
}

-- what the graph heap reaches is kept, in parts
pub part_kept : (h : HeapState) (present snapshot : Graph) (c : Consistent h present snapshot) (id part : ℕ) → Reaches present id → part < count_of (object_of present.objects id) → Kept (length h.roots) (view snapshot) (view present) (record { identity = id; part = part })
part_kept h present snapshot c id part r l =
    let n : Name = record { identity = id; part = part } in
    reach_kept (length h.roots) (view snapshot) (view present) c.parts.base.grows n (subst (λ z. Reach z (view present) n) (sym c.present_row) (reaches_reach present n r l))

pub known_kept : (h : HeapState) (present snapshot : Graph) (c : Consistent h present snapshot) (id : ℕ) → IsKnown present id → Kept (length h.roots) (view snapshot) (view present) (name_of id)
known_kept h present snapshot c id k = elim k [
  | inl e ↦ subst (λ z. Kept (length h.roots) (view snapshot) (view present) (name_of z)) (sym e) (kept_null (length h.roots) (view snapshot) (view present))
  | inr r ↦ part_kept h present snapshot c id 0 r (count_some _)
]

-- a kept identity was given
pub kept_given : (h : HeapState) (present snapshot : Graph) (c : Consistent h present snapshot) (n : Name) → Kept (length h.roots) (view snapshot) (view present) n → n.identity ≤ length present.objects
kept_given h present snapshot c n k =
    let b = c.parts.base in
    let e = b.below (c.parts.at n) (b.allocated n k) in
    let f : ((seen h).name (c.parts.at n)).identity ≡ n.identity = ap (λ (z : Name). z.identity) (b.name n k) in
    let g = b.next in
    omega arith

pub consistent_agrees : (h : HeapState) (present snapshot : Graph) → Consistent h present snapshot → Agrees h present
consistent_agrees h present snapshot c =
    let b = c.parts.base in
    let a = agreed (seen h) (view present) (view snapshot) c.parts.at b in
    record {
      limits = c.limits;
      live = c.live;
      next = b.next;
      roots = c.present_row;
      root = a.root;
      null = λ x i. let k : Kept (length h.roots) (view snapshot) (view present) ((seen h).name x) = subst (λ z. Kept (length h.roots) (view snapshot) (view present) z) (sym i.name) (kept_null (length h.roots) (view snapshot) (view present)) in
          b.only x i.allocated i.forward k ∙ ap c.parts.at i.name ∙ b.null_at;
      given = λ id r. record { below = kept_given h present snapshot c (name_of id) (part_kept h present snapshot c id 0 r (count_some _)); cells = c.cells id };
      shows = λ id part r l. a.shows (record { identity = id; part = part }) (subst (λ z. Reach z (view present) (record { identity = id; part = part })) (sym c.present_row) (reaches_reach present (record { identity = id; part = part }) r l));
    }

-- agreement in parts
no_width : width_of no_object 0 ≡ 0
unfolding width_in
no_width = grind arith

no_words : words_of no_object 0 ≡ []
unfolding words_of
no_words = grind arith

shows_null : (h : HeapState) (g : Graph) → Agrees h g → Shows (seen h) (view g) null
unfolding object_of
shows_null h g a = record {
  place = 0;
  main = record { allocated = refl; forward = refl; name = refl };
  only = a.null;
  width = sym no_width;
  words = sym no_words;
  shape = refl;
  cells = λ i l. let z = no_width in absurd (omega arith);
}

pub by_parts : (h : HeapState) (g : Graph) → Agrees h g → AgreesByParts (seen h) (view g)
by_parts h g a = record {
  next = a.next;
  root = a.root;
  shows = λ n r. by_null n (subst (λ z. Reach z (view g) n) a.roots r) (n.identity == 0) refl;
}
  where
    by_null : (n : Name) → Reach (length g.roots) (view g) n → (t : Bool) → (n.identity == 0) ≡ t → Shows (seen h) (view g) n
    by_null n r true t = let e : n.identity ≡ 0 = grind arith in subst (λ z. Shows (seen h) (view g) z) (sym (reach_zero g n r e)) (shows_null h g a)
    by_null n r false t = let some : n.identity ≢ 0 = grind arith in let q = reach_reaches g n r some in a.shows n.identity n.part q.0 q.1
