-- The objects of the slow heap, as those of the graph heap.
use Rattle.std.specs.Prelude.{◌≡◌, List, map}
use Rattle.std.specs.List.{range_with_len}
use Rattle.std.specs.BTreeMap.{keys, values, btree_map_len}
use Rattle.graph_heap.specs.declared.stored.StoredObject.{StoredObject}
use Rattle.graph_heap.specs.declared.reference.objects.Objects.TheInside.{Inside}
use Rattle.graph_heap.specs.Graph.{Object}

-- an object, wherever its cells lie
abbrev pub object_in : StoredObject → Object
object_in o = record { shape = o.shape; refs = o.refs.items; words = o.words.items }

-- the objects, in the order of their identities
abbrev pub objects_in : Inside → List Object
objects_in a = map object_in (values a.by_identity)

-- the identities are 1, 2 and so on
abbrev pub AreNumbered : Inside → Type 0
AreNumbered a = keys a.by_identity ≡ range_with_len 1 (btree_map_len a.by_identity)
