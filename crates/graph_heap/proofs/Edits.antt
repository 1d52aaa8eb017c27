-- An edit of one object in the graph heap's list.
use Rattle.std.proofs.Common.{◌≡◌, ℕ, ◌-◌, ◌<◌, List, length, slice_set, ◌∙◌, arith}
use Rattle.std.proofs.lemmas.List.{set_past}
use Rattle.graph_heap.specs.Graph.{Object, put_object}

-- if there is no such object nothing is written
pub put_object-past : (xs : List Object) (id : ℕ) (o : Object) → length xs < id → put_object xs id o ≡ xs
put_object-past xs id o h =
    let s : put_object xs id o ≡ slice_set xs (id - 1) o = grind arith in
    s ∙ set_past xs (id - 1) o (omega arith)
