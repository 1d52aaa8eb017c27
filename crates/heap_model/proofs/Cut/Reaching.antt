-- The part graph of a graph heap reaches the same as the graph heap.
use Rattle.std.proofs.Common.{◌≡◌, ℕ, zero, suc, ◌+◌, ◌/◌, ◌%◌, ◌<◌, ◌≤◌, ◌≢◌, Bool, true, false, length, get_or, arith, refl, ap, subst, sym, ◌∙◌, nat_lt, List}
use Rattle.graph_heap.specs.Graph.{Object, Graph, no_object, object_of}
use Rattle.graph_heap.specs.Reach.{Path, Reaches}
use Rattle.heap_model.specs.Core.{Name, null, Reach}
use Rattle.heap_model.specs.Cut.{count_of, width_by, width_in, width_of, name_of, target_by, target_of, view}
use Rattle.size_classes.specs.Parts.{PartContents, pieces_of, spines_of, run_of, spine_of, spine_cell_of, part_in, column_in}
use Rattle.size_classes.proofs.Cutting.{pieces_are, spines_are, referrers_are, holds, cell_stands}
use Rattle.heap_model.proofs.Core.Kept.{reach_root, reach_step, reach_induction}

-- in which part cell i of an object stands, and at which place among its cells of that kind
abbrev pub part_at : Object → ℕ → ℕ
part_at o i = part_in (length o.refs + length o.words) i

abbrev pub column_at : Object → ℕ → ℕ
column_at o i = column_in i

-- what a run says of its cells
target_piece : (r : PartContents) (identity : ℕ) (refs : List ℕ) (i x : ℕ) → r.spine ≡ false → i < r.count → r.first + i ≡ x → target_by r identity refs i ≡ name_of (get_or refs x 0)
target_piece r identity refs i x e l q = grind arith

target_spine : (r : PartContents) (identity : ℕ) (refs : List ℕ) (i x : ℕ) → r.spine ≡ true → i < r.count → r.first + i ≡ x → target_by r identity refs i ≡ record { identity = identity; part = x }
target_spine r identity refs i x e l q = grind arith

width_piece : (r : PartContents) (refs i x : ℕ) → r.spine ≡ false → i < r.count → r.first + i ≡ x → x < refs → i < width_by r refs
width_piece r refs i x e l q m = grind arith

width_spine : (r : PartContents) (refs i : ℕ) → r.spine ≡ true → i < r.count → i < width_by r refs
width_spine r refs i e l = grind arith

behind_spines : (s p : ℕ) → s ≤ p → nat_lt p s ≡ false
behind_spines s p l = grind arith

among_spines : (s p : ℕ) → p < s → nat_lt p s ≡ true
among_spines s p l = grind arith

-- how an object is cut
abbrev cells_in : Object → ℕ
cells_in o = length o.refs + length o.words

stands : (o : Object) (i : ℕ) → i < cells_in o → (spines_of (cells_in o) + i / 252 < spines_of (cells_in o) + pieces_of (cells_in o)) × (spines_of (cells_in o) ≤ spines_of (cells_in o) + i / 252) × (i % 252 < (run_of (cells_in o) (spines_of (cells_in o) + i / 252)).count) × ((run_of (cells_in o) (spines_of (cells_in o) + i / 252)).first + i % 252 ≡ i)
stands o i l = cell_stands (cells_in o) (pieces_of (cells_in o)) (spines_of (cells_in o)) (pieces_are (cells_in o)) (spines_are (cells_in o)) i l

-- a reference cell stands in its part
pub part_below : (o : Object) (i : ℕ) → i < length o.refs → part_at o i < count_of o
unfolding part_in count_of
part_below o i l = (stands o i (omega arith)).0

pub column_below : (o : Object) (i : ℕ) → i < length o.refs → column_at o i < width_of o (part_at o i)
unfolding part_in column_in width_in
column_below o i l =
    let q = stands o i (omega arith) in
    width_piece (run_of (cells_in o) (part_at o i)) (length o.refs) (i % 252) i (behind_spines _ _ q.1) q.2 q.3 l

pub cell_at : (identity : ℕ) (o : Object) (i : ℕ) → i < length o.refs → target_of identity o (part_at o i) (column_at o i) ≡ name_of (get_or o.refs i 0)
unfolding part_in column_in target_of
cell_at identity o i l =
    let q = stands o i (omega arith) in
    target_piece (run_of (cells_in o) (part_at o i)) identity o.refs (i % 252) i (behind_spines _ _ q.1) q.2 q.3

-- the spine that refers to a part, and the cell
abbrev pub spine_in : Object → ℕ → ℕ
spine_in o p = spine_of (length o.refs + length o.words) p

abbrev pub spine_cell_in : Object → ℕ → ℕ
spine_cell_in o p = spine_cell_of (length o.refs + length o.words) p

pub spine_below : (o : Object) (p : ℕ) → p < count_of o → 0 < p → (spine_cell_in o p < width_of o (spine_in o p)) × (spine_in o p < p) × (spine_in o p < count_of o)
unfolding count_of width_in
spine_below o p l k =
    let q = referrers_are (cells_in o) (pieces_of (cells_in o)) (spines_of (cells_in o)) (pieces_are (cells_in o)) (spines_are (cells_in o)) p k l in
    (width_spine (run_of (cells_in o) (spine_in o p)) (length o.refs) (spine_cell_in o p) (among_spines _ _ q.0) q.2, q.1, before (q.1) l)
  where
    before : {x : ℕ} → x < p → p < spines_of (cells_in o) + pieces_of (cells_in o) → x < spines_of (cells_in o) + pieces_of (cells_in o)
    before h m = omega arith

pub spine_target : (identity : ℕ) (o : Object) (p : ℕ) → p < count_of o → 0 < p → target_of identity o (spine_in o p) (spine_cell_in o p) ≡ record { identity = identity; part = p }
unfolding count_of target_of
spine_target identity o p l k =
    let q = referrers_are (cells_in o) (pieces_of (cells_in o)) (spines_of (cells_in o)) (pieces_are (cells_in o)) (spines_are (cells_in o)) p k l in
    target_spine (run_of (cells_in o) (spine_in o p)) identity o.refs (spine_cell_in o p) p (among_spines _ _ q.0) q.2 q.3

-- each part is reached from part 0, by way of the spine that refers to it
reach_by : (g : Graph) (identity fuel p : ℕ) → p ≤ fuel → Reach (length g.roots) (view g) (name_of identity) → p < count_of (object_of g.objects identity) → Reach (length g.roots) (view g) (record { identity = identity; part = p })
reach_by g identity fuel zero m r l = r
reach_by g identity zero (suc p) m r l = absurd (omega arith)
reach_by g identity (suc fuel) (suc p) m r l =
    let o = object_of g.objects identity in
    let q = spine_below o (suc p) l (omega arith) in
    let lower : spine_in o (suc p) ≤ fuel = at_most (spine_in o (suc p)) q.1 in
    subst (λ z. Reach (length g.roots) (view g) z) (spine_target identity o (suc p) l (omega arith))
    (reach_step (length g.roots) (view g) (record { identity = identity; part = spine_in o (suc p) }) (spine_cell_in o (suc p)) (reach_by g identity fuel (spine_in o (suc p)) lower r q.2) q.0)
  where
    at_most : (x : ℕ) → x < suc p → x ≤ fuel
    at_most x h = omega arith

pub reach_part : (g : Graph) (identity p : ℕ) → Reach (length g.roots) (view g) (name_of identity) → p < count_of (object_of g.objects identity) → Reach (length g.roots) (view g) (record { identity = identity; part = p })
reach_part g identity p r l = reach_by g identity p p (omega arith) r l

reach_ref : (g : Graph) (identity i : ℕ) → Reach (length g.roots) (view g) (name_of identity) → i < length (object_of g.objects identity).refs → Reach (length g.roots) (view g) (name_of (get_or (object_of g.objects identity).refs i 0))
reach_ref g identity i r l =
    let o = object_of g.objects identity in
    subst (λ z. Reach (length g.roots) (view g) z) (cell_at identity o i l)
    (reach_step (length g.roots) (view g) (record { identity = identity; part = part_at o i }) (column_at o i) (reach_part g identity (part_at o i) r (part_below o i l)) (column_below o i l))

path_reach : (g : Graph) (k identity : ℕ) → Path g k identity → Reach (length g.roots) (view g) (name_of identity)
path_reach g zero identity w = subst (λ z. Reach (length g.roots) (view g) (name_of z)) w.2 (reach_root (length g.roots) (view g) w.0 w.1)
path_reach g (suc k) identity w = subst (λ z. Reach (length g.roots) (view g) (name_of z)) w.4 (reach_ref g w.0 w.1 (path_reach g k w.0 w.2) w.3)

-- every part of an object at the end of a path is reached
pub reaches_reach : (g : Graph) (n : Name) → Reaches g n.identity → n.part < count_of (object_of g.objects n.identity) → Reach (length g.roots) (view g) n
unfolding Reaches
reaches_reach g n r l = reach_part g n.identity n.part (path_reach g r.1 n.identity r.2) l

-- A name that is reached is null, or names a part of a reachable object.
record IsReached (g : Graph) (n : Name) : Type 0 where
  null : n.identity ≡ 0 → n.part ≡ 0
  path : n.identity ≢ 0 → Reaches g n.identity
  part : n.part < count_of (object_of g.objects n.identity)

pub count_some : (o : Object) → 0 < count_of o
unfolding count_of
count_some o = grind arith

width_none : (p : ℕ) → width_of no_object p ≡ 0
unfolding width_in
width_none p = grind arith

-- a cell of a spine is a part of the object
abbrev is_spine : Object → ℕ → Bool
is_spine o p = (run_of (length o.refs + length o.words) p).spine

by_spine : (r : PartContents) (identity : ℕ) (refs : List ℕ) (i : ℕ) → i < width_by r (length refs) → r.spine ≡ true → (i < r.count) × (target_by r identity refs i ≡ record { identity = identity; part = r.first + i })
by_spine r identity refs i l e = (grind arith, grind arith)

by_piece : (r : PartContents) (identity : ℕ) (refs : List ℕ) (i : ℕ) → i < width_by r (length refs) → r.spine ≡ false → (r.first + i < length refs) × (target_by r identity refs i ≡ name_of (get_or refs (r.first + i) 0))
by_piece r identity refs i l e = (grind arith, grind arith)

is_among : (s p : ℕ) → nat_lt p s ≡ true → p < s
is_among s p e = grind arith

spine_leads : (identity : ℕ) (o : Object) (p i : ℕ) → i < width_of o p → is_spine o p ≡ true → (target_of identity o p i).identity ≡ identity
unfolding width_in target_of
spine_leads identity o p i l e = ap (λ (z : Name). z.identity) ((by_spine (run_of (cells_in o) p) identity o.refs i l e).1)

spine_part : (identity : ℕ) (o : Object) (p i : ℕ) → i < width_of o p → is_spine o p ≡ true → (target_of identity o p i).part < count_of o
unfolding width_in target_of count_of
spine_part identity o p i l e =
    let q = by_spine (run_of (cells_in o) p) identity o.refs i l e in
    let w = holds (cells_in o) (pieces_of (cells_in o)) (spines_of (cells_in o)) (pieces_are (cells_in o)) (spines_are (cells_in o)) p i (is_among _ _ e) q.0 in
    subst (λ (z : Name). z.part < spines_of (cells_in o) + pieces_of (cells_in o)) (sym q.1) w.1

-- every other cell is a reference of it
abbrev ref_at : Object → ℕ → ℕ → ℕ
ref_at o p i = (run_of (length o.refs + length o.words) p).first + i

ref_below : (o : Object) (p i : ℕ) → i < width_of o p → is_spine o p ≡ false → ref_at o p i < length o.refs
unfolding width_in
ref_below o p i l e = (by_piece (run_of (cells_in o) p) 0 o.refs i l e).0

ref_leads : (identity : ℕ) (o : Object) (p i : ℕ) → i < width_of o p → is_spine o p ≡ false → target_of identity o p i ≡ name_of (get_or o.refs (ref_at o p i) 0)
unfolding width_in target_of
ref_leads identity o p i l e = (by_piece (run_of (cells_in o) p) identity o.refs i l e).1

pub reaches_step : (g : Graph) (from j : ℕ) → Reaches g from → j < length (object_of g.objects from).refs → 0 < get_or (object_of g.objects from).refs j 0 → Reaches g (get_or (object_of g.objects from).refs j 0)
unfolding Reaches
reaches_step g from j r l some = (some, suc r.1, (from, j, r.2, l, refl))

pub reaches_root : (g : Graph) (j : ℕ) → j < length g.roots → 0 < get_or g.roots j 0 → Reaches g (get_or g.roots j 0)
unfolding Reaches
reaches_root g j l some = (some, 0, (j, l, refl))

no_cells : (g : Graph) (n : Name) (i : ℕ) → i < width_of (object_of g.objects n.identity) n.part → n.identity ≢ 0
unfolding object_of
no_cells g n i l e = let w : width_of (object_of g.objects n.identity) n.part ≡ width_of (object_of g.objects 0) n.part = ap (λ z. width_of (object_of g.objects z) n.part) e in let z = width_none n.part in omega arith

step_reached : (g : Graph) (n : Name) (i : ℕ) → IsReached g n → i < width_of (object_of g.objects n.identity) n.part → (spine : Bool) → is_spine (object_of g.objects n.identity) n.part ≡ spine → IsReached g (target_of n.identity (object_of g.objects n.identity) n.part i)
step_reached g n i r l true e =
    let o = object_of g.objects n.identity in
    let some = no_cells g n i l in
    let same = spine_leads n.identity o n.part i l e in
    record {
      null = λ z. absurd (some (sym same ∙ z));
      path = λ z. subst (λ k. Reaches g k) (sym same) (r.path some);
      part = subst (λ k. (target_of n.identity o n.part i).part < count_of (object_of g.objects k)) (sym same) (spine_part n.identity o n.part i l e);
    }
step_reached g n i r l false e =
    let o = object_of g.objects n.identity in
    let some = no_cells g n i l in
    subst (λ z. IsReached g z) (sym (ref_leads n.identity o n.part i l e))
    (record { null = λ z. refl; path = λ z. reaches_step g n.identity (ref_at o n.part i) (r.path some) (ref_below o n.part i l e) (omega arith); part = count_some _ })

is_reached : (g : Graph) (n : Name) → Reach (length g.roots) (view g) n → IsReached g n
is_reached g = reach_induction (length g.roots) (view g) (λ n. IsReached g n)
    (record { null = λ e. refl; path = λ ne. absurd (ne refl); part = count_some (object_of g.objects 0) })
    (λ j l. record { null = λ e. refl; path = λ ne. reaches_root g j l (omega arith); part = count_some _ })
    (λ n i r l. step_reached g n i r l (is_spine (object_of g.objects n.identity) n.part) refl)

pub reach_reaches : (g : Graph) (n : Name) → Reach (length g.roots) (view g) n → n.identity ≢ 0 → (Reaches g n.identity) × (n.part < count_of (object_of g.objects n.identity))
reach_reaches g n r some = let q = is_reached g n r in (q.path some, q.part)

pub reach_zero : (g : Graph) (n : Name) → Reach (length g.roots) (view g) n → n.identity ≡ 0 → n ≡ null
reach_zero g n r e = let p = (is_reached g n r).null e in λ i. record { identity = e i; part = p i }

-- a word cell stands in its part
pub word_below : (o : Object) (i : ℕ) → i < length o.words → part_at o i < count_of o
unfolding part_in count_of
word_below o i l = (stands o i (omega arith)).0
